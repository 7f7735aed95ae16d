use Rattle.run_account.proofs.SomeAccount.{an_account_exists}
use Rattle.run_account.proofs.an_account_exists.Goals as goal

pub returns : goal.returns
returns c = an_account_exists
