use Rattle.std.proofs.Common.{refl}
use Rattle.loop_regions.proofs.ranges.is_before.Goals as goal

pub returns : goal.returns
returns c = refl
