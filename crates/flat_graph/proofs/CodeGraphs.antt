-- The graph of some code follows the code.
use Rattle.std.proofs.Common.{ℕ}
use Rattle.rv_decode.specs.Flow.{Words, flows}
use Rattle.flat_graph.specs.CodeGraph.{CodeGraph, graph_of, places_of, HasCode, IsCodeGraph}
use Rattle.flat_graph.specs.Graph.{IsGraph}
use Rattle.flat_graph.specs.Numbered.{FollowsCode}
use Rattle.flat_graph.proofs.Numbered.{follows_law}

pub code_follows : (words : Words) (entry : ℕ) (g : CodeGraph) → IsCodeGraph words entry g
    → FollowsCode (flows words) entry (graph_of g) (places_of g)
code_follows words entry g C =
    follows_law (flows words) entry C.nodes (graph_of g) (places_of g) C.flat C.places

pub code_is_graph : (g : CodeGraph) → HasCode g → IsGraph (graph_of g)
code_is_graph g H = (code_follows H.words H.entry g H.of_code).graph
