use Rattle.persistent_blocks.proofs.SoundPart.{persistent_part_is_sound}
use Rattle.persistent_blocks.proofs.laws.persistent_part_is_sound.Goals as goal

pub returns : goal.returns
returns c = persistent_part_is_sound
