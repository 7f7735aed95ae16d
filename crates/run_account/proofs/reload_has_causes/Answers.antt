use Rattle.run_account.proofs.Causes.{reload_has_causes, run_has_ledger}
use Rattle.run_account.proofs.reload_has_causes.Goals as goal

pub returns-clause-causes : goal.returns-clause-causes
returns-clause-causes c = reload_has_causes

pub returns-clause-ledger : goal.returns-clause-ledger
returns-clause-ledger c = run_has_ledger
