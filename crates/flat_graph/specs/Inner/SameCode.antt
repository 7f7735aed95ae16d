-- When the graph of some code is also that of other code.
use Rattle.std.specs.Prelude.{◌≡◌, ℕ, ◌<◌, length}
use Rattle.rv_decode.specs.Flow.{Words}
use Rattle.flat_graph.specs.CodeGraph.{CodeGraph, ins_of, places_of}
use Rattle.flat_graph.specs.Inner.GraphErrors.{HasInstructionAt}

-- the graph begins at the entry, and the instructions of its nodes are in the code
pub record FitsCode (words : Words) (entry : ℕ) (g : CodeGraph) : Type 0 where
  pub first : (places_of g).address g.first ≡ entry
  pub stands : (u : ℕ) → u < length g.nodes
      → HasInstructionAt words ((places_of g).address u) (ins_of g u)
