use Rattle.run_account.proofs.WindowStarts.{window_has_start}
use Rattle.run_account.proofs.window_has_start.Goals as goal

pub returns : goal.returns
returns c = window_has_start
