use Rattle.run_account.proofs.JobWalks.{ledger_reload_is_own}
use Rattle.run_account.proofs.ledger_reload_is_own.Goals as goal

pub returns : goal.returns
returns c = ledger_reload_is_own
