use Rattle.dataflow.proofs.Ordered.{ordered}
use Rattle.dataflow.proofs.problem.order_law.Goals as goal

pub returns : goal.returns
returns g c = ordered g.D.Domain.Value g.D.Domain.joined g.met.D.Domain.joins
