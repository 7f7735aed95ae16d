use Rattle.std.proofs.Common.{rules}
use Rattle.rv_core.specs.Effect.{memory_after}
use Rattle.rv_core.proofs.effects.store.Goals as goal

pub returns-in-Sh-clause-ok : goal.returns-in-Sh-clause-ok
unfolding memory_after
returns-in-Sh-clause-ok c = search rules
