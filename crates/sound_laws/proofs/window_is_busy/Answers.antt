use Rattle.sound_laws.proofs.Windows.BusyWindows.{window_is_busy}
use Rattle.sound_laws.proofs.window_is_busy.Goals as goal

pub returns : goal.returns
returns c = window_is_busy
