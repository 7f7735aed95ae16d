use Rattle.sound_laws.proofs.Windows.BusyWindows.{completes_in_window}
use Rattle.sound_laws.proofs.completes_in_window.Goals as goal

pub returns : goal.returns
returns c = completes_in_window
