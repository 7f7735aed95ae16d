use Rattle.delay_point.proofs.Holds.{point_covers_law}
use Rattle.delay_point.proofs.Within.{point_within_ecb}
use Rattle.delay_point.proofs.laws.point_law.Goals as goal

pub returns : goal.returns
returns c = record { covers = point_covers_law; within = point_within_ecb }
