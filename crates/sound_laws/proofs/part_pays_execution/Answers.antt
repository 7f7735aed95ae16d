use Rattle.sound_laws.proofs.Reloads.PartLaws.{part_pays_execution}
use Rattle.sound_laws.proofs.part_pays_execution.Goals as goal

pub returns : goal.returns
returns c = part_pays_execution
