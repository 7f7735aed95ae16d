use Rattle.sound_laws.proofs.Delays.Entries.{entries_within_useful}
use Rattle.sound_laws.proofs.entries_within_useful.Goals as goal

pub returns : goal.returns
returns c = entries_within_useful
