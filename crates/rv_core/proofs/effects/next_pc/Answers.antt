use Rattle.std.proofs.Common.{rules}
use Rattle.rv_core.specs.Effect.{next_pc}
use Rattle.rv_core.proofs.effects.next_pc.Goals as goal

pub returns-in-Bge : goal.returns-in-Bge
unfolding next_pc
returns-in-Bge c = search rules
