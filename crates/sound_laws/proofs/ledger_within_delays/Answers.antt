use Rattle.sound_laws.proofs.Delays.Ledgers.{ledger_within_delays}
use Rattle.sound_laws.proofs.ledger_within_delays.Goals as goal

pub returns : goal.returns
returns c = ledger_within_delays
