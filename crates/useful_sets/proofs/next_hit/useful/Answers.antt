use Rattle.std.proofs.Common.{arith}
use Rattle.std.proofs.lemmas.Grind.{common_steps}
use Rattle.useful_sets.proofs.next_hit.useful.Goals as goal

pub useful_by_hits-requires : goal.useful_by_hits-requires
useful_by_hits-requires g c = grind (arith, common_steps)
