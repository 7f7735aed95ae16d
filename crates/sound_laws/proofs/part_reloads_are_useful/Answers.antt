use Rattle.sound_laws.proofs.Delays.NodeCount.{part_reloads_are_useful}
use Rattle.sound_laws.proofs.part_reloads_are_useful.Goals as goal

pub returns : goal.returns
returns c = part_reloads_are_useful
