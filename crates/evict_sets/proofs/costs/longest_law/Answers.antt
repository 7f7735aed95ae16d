use Rattle.flat_graph.specs.CodeGraph.{graph_of, node_code}
use Rattle.flat_graph.specs.CodeGraph.{answers_of}
use Rattle.evict_sets.proofs.LongestCosts.{some_longest, small_longest}
use Rattle.evict_sets.proofs.costs.longest_law.Goals as goal

pub returns-clause-some : goal.returns-clause-some
returns-clause-some c =
    some_longest c.args.platform.now c.args.graph.now c.requires c.graph_law.ensures.code

pub returns-clause-small : goal.returns-clause-small
returns-clause-small c =
    small_longest c.args.platform.now (graph_of c.args.graph.now) (node_code c.args.graph.now)
    (answers_of c.args.graph.now) c.requires
