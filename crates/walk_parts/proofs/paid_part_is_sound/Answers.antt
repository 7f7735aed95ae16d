use Rattle.walk_parts.proofs.PaidParts.{paid_part_is_sound}
use Rattle.walk_parts.proofs.paid_part_is_sound.Goals as goal

pub returns : goal.returns
returns c = paid_part_is_sound
