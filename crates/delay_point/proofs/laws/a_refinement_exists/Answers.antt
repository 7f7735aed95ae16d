use Rattle.delay_point.proofs.SomeRefinement.{a_refinement_exists}
use Rattle.delay_point.proofs.laws.a_refinement_exists.Goals as goal

pub returns : goal.returns
returns c = a_refinement_exists
