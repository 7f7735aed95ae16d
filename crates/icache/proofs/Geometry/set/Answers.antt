use Rattle.std.proofs.Common.{rules}
use Rattle.icache.proofs.Geometry.set.Goals as goal

pub returns : goal.returns
returns c = search rules
