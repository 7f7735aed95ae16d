use Rattle.run_account.proofs.ReloadFacts.{ledger_facts}
use Rattle.run_account.proofs.ledger_facts.Goals as goal

pub returns : goal.returns
returns c = ledger_facts
