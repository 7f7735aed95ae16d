use Rattle.std.proofs.Common.{rules}
use Rattle.rv_decode.specs.Cost.{work_cost}
use Rattle.rv_decode.proofs.costs.work_cost.Goals as goal

pub returns-in-Mul : goal.returns-in-Mul
unfolding work_cost
returns-in-Mul c = search rules
