use Rattle.std.proofs.Common.{rules}
use Rattle.must_cache.proofs.sure.sure_one.Goals as goal

pub returns-then-hit : goal.returns-then-hit
returns-then-hit g c = search rules
