use Rattle.flat_graph.proofs.SomeGraph.{a_graph_exists}
use Rattle.flat_graph.proofs.a_graph_exists.Goals as goal

pub returns : goal.returns
returns c = a_graph_exists
