use Rattle.exec_bound.proofs.SomeBound.{a_bound_exists}
use Rattle.exec_bound.proofs.a_bound_exists.Goals as goal

pub returns : goal.returns
returns c = a_bound_exists
