use Rattle.sound_laws.proofs.Windows.BusyWindows.{releases_are_few}
use Rattle.sound_laws.proofs.releases_are_few.Goals as goal

pub returns : goal.returns
returns c = releases_are_few
