use Rattle.sound_laws.proofs.Windows.BusyWindows.{switches_are_few}
use Rattle.sound_laws.proofs.switches_are_few.Goals as goal

pub returns : goal.returns
returns c = switches_are_few
