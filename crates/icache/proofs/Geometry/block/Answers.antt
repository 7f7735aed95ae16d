use Rattle.std.proofs.Common.{refl}
use Rattle.icache.proofs.Geometry.block.Goals as goal

pub returns : goal.returns
returns c = refl
