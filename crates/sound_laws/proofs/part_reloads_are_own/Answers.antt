use Rattle.sound_laws.proofs.Reloads.PartLaws.{part_reloads_are_own}
use Rattle.sound_laws.proofs.part_reloads_are_own.Goals as goal

pub returns : goal.returns
returns c = part_reloads_are_own
