use Rattle.std.proofs.Common.{rules}
use Rattle.must_cache.proofs.last_access.LastAccessDomain.start.Goals as goal

pub returns-then-node-first : goal.returns-then-node-first
returns-then-node-first g c = search rules
