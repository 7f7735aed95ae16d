use Rattle.worked_examples.proofs.WorkedSets.{worked_sets}
use Rattle.worked_examples.proofs.worked_sets.Goals as goal

pub returns : goal.returns
returns c = worked_sets
