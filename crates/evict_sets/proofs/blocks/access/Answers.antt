use Rattle.std.proofs.Common.{rules}
use Rattle.evict_sets.proofs.blocks.access.Goals as goal

pub returns-clause-hit : goal.returns-clause-hit
returns-clause-hit c = search rules
