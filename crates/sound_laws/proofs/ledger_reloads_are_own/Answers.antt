use Rattle.sound_laws.proofs.Reloads.OwnFetches.{ledger_reloads_are_own}
use Rattle.sound_laws.proofs.ledger_reloads_are_own.Goals as goal

pub returns : goal.returns
returns c = ledger_reloads_are_own
