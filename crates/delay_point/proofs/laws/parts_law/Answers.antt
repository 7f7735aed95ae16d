use Rattle.delay_point.proofs.Holds.{parts_are_safe, part_point_covers}
use Rattle.delay_point.proofs.Within.{part_point_within_ecb}
use Rattle.delay_point.proofs.laws.parts_law.Goals as goal

pub returns : goal.returns
returns c = record {
  safe = parts_are_safe;
  covers = part_point_covers;
  within = part_point_within_ecb;
}
