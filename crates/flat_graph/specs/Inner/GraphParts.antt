-- The parts from which a task's graph is assembled.
use Rattle.std.specs.Prelude.{◌≡◌, ℕ, Bool, List, map, Some, None, slice_get}
use Rattle.rv_decode.specs.Flow.{Flows, Words, flows}
use Rattle.flat_graph.specs.FlatGraph.{FlatNode, error_of, successors}
use Rattle.flat_graph.specs.CodeGraph.{IsCodeGraph}
use Rattle.flat_graph.specs.Inner.StoredGraph.{next_nodes, stored_graph, IsStoredGraph}
use Rattle.flat_graph.specs.Inner.GraphErrors.{HasInstructionAt, IsNodeError}
use Rattle.flat_graph.specs.declared.error.GraphError.{GraphError}
use Rattle.flat_graph.specs.declared.graph.StoredNode.{StoredNode}
use Rattle.flat_graph.specs.declared.graph.NodeBody.{NodeBody}
use Rattle.flat_graph.specs.declared.points.ProgramPoint.{ProgramPoint}

-- the numbers are those of these nodes
abbrev pub AreNumbers : List FlatNode → List ℕ → List FlatNode → Type 0
AreNumbers nodes numbers some = map (slice_get nodes) numbers ≡ map Some some

-- the node has no error, and its instruction and the numbers of its successors are these
pub record IsNodeBody (words : Words) (entry : ℕ) (nodes : List FlatNode) (n : FlatNode)
    (body : NodeBody) : Type 0 where
  pub no_error : error_of (flows words) entry n ≡ None
  pub stands : HasInstructionAt words n.address body.ins
  pub next : AreNumbers nodes (next_nodes body.next) (successors (flows words) entry n)

-- the body is that of the node at a place
abbrev pub IsBodyAt : Words → ℕ → List FlatNode → ℕ → NodeBody → Type 0
IsBodyAt words entry nodes k body =
    (n : FlatNode) → slice_get nodes k ≡ Some n → IsNodeBody words entry nodes n body

-- the error is that of the node at a place
abbrev pub IsErrorAt : Flows → ℕ → List FlatNode → ℕ → GraphError → Type 0
IsErrorAt code entry nodes k e =
    (n : FlatNode) → slice_get nodes k ≡ Some n → IsNodeError code entry n e

-- each body is that of the node at its place
abbrev pub AreNodeBodies : Words → ℕ → List FlatNode → List NodeBody → Type 0
AreNodeBodies words entry nodes bodies =
    (k : ℕ) (n : FlatNode) (body : NodeBody) → slice_get nodes k ≡ Some n
    → slice_get bodies k ≡ Some body → IsNodeBody words entry nodes n body

-- the stored nodes are assembled from these parts
abbrev pub AreStoredNodes : List ProgramPoint → List NodeBody → List Bool → List StoredNode → Type 0
AreStoredNodes points bodies leaders stored_nodes =
    (k : ℕ) (s : ProgramPoint) (l : NodeBody) (b : Bool) → slice_get points k ≡ Some s
    → slice_get bodies k ≡ Some l → slice_get leaders k ≡ Some b →
    slice_get stored_nodes k ≡ Some
    (record { context = s.context; address = s.address; ins = l.ins; next = l.next; leader = b })

-- the nodes, with their contexts, are stored as those of the graph of the code
pub record AreKeptNodes (words : Words) (entry : ℕ) (contexts : List (List ℕ)) (first : ℕ)
    (nodes : List StoredNode) : Type 0 where
  pub kept : IsStoredGraph contexts nodes first
  pub of_code : IsCodeGraph words entry (stored_graph contexts nodes first)
