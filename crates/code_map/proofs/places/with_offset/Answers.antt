use Rattle.std.proofs.Common.{arith}
use Rattle.code_map.proofs.places.with_offset.Goals as goal

pub returns : goal.returns
returns c = grind arith
