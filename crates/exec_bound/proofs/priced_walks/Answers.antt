use Rattle.exec_bound.proofs.Agree.{priced_walks}
use Rattle.exec_bound.proofs.priced_walks.Goals as goal

pub returns : goal.returns
returns c = priced_walks
