-- A task's flat graph as it is stored: its nodes in the order of their numbers.
use Rattle.std.specs.Prelude.{◌≡◌, ℕ, ◌<◌, Bool, List, [], ◌∷◌, length, slice_index_or}
use Rattle.rv_decode.specs.declared.Ins.{Ins}
use Rattle.rv_decode.specs.declared.Ins.TheVariants.{Ecall}
use Rattle.rv_decode.specs.Table.{ins_of_word}
use Rattle.std.specs.Prelude.{Some}
use Rattle.rv_decode.specs.Flow.{Flow, Call, Return, Exit, Words, IsCodeMap, flow, flows}
use Rattle.flat_graph.specs.FlatGraph.{FlatNode, HasNoErrors, answers_by}
use Rattle.flat_graph.specs.Graph.{Graph, Places}
use Rattle.flat_graph.specs.Numbered.{IsFlatGraph, ArePlaces}
use Rattle.flat_graph.specs.EdgeCost.{NodeCode}
use Rattle.flat_graph.specs.declared.node.Kind.{Kind}
use Rattle.flat_graph.specs.declared.node.Kind.TheVariants as kind

-- a node: the calls under way, its address, its instruction, and the numbers of its successors
pub record GraphNode : Type 0 where
  pub context : List ℕ
  pub address : ℕ
  pub ins : Ins
  pub next : List ℕ

-- a graph with its code: the nodes by number, and the number of the first
pub record CodeGraph : Type 0 where
  pub nodes : List GraphNode
  pub first : ℕ

-- the node that stands for a number past a graph's end
abbrev pub no_node : GraphNode
no_node = record { context = []; address = 0; ins = Ecall; next = [] }

-- the node with a number
abbrev pub node_of : CodeGraph → ℕ → GraphNode
node_of g u = slice_index_or g.nodes u no_node

-- the graph that stands for a place past a list's end
abbrev pub no_graph : CodeGraph
no_graph = record { nodes = []; first = 0 }

-- the graph of a task in a list
abbrev pub graph_at : List CodeGraph → ℕ → CodeGraph
graph_at graphs i = slice_index_or graphs i no_graph

-- its graph of numbers
abbrev pub graph_of : CodeGraph → Graph
graph_of g = record { size = length g.nodes; first = g.first; next = λ u. (node_of g u).next }

-- the contexts and addresses of its nodes
abbrev pub places_of : CodeGraph → Places
places_of g = record { context = λ u. (node_of g u).context; address = λ u. (node_of g u).address }

-- the instruction of a node
abbrev pub ins_of : CodeGraph → ℕ → Ins
ins_of g u = (node_of g u).ins

-- the nodes at which jobs complete, by the calls under way and the flow of the instruction
abbrev pub answers_of : CodeGraph → ℕ → Bool
answers_of g y =
    answers_by ((places_of g).context y) (Some (Some (flow ((places_of g).address y) (ins_of g y))))

-- the addresses and instructions of the nodes
abbrev pub node_code : CodeGraph → NodeCode
node_code g = record { address = (places_of g).address; ins = ins_of g }

-- a graph is the flat graph of the code from this entry, no node has an error, and the instructions
-- are those of the code
pub record IsCodeGraph (words : Words) (entry : ℕ) (g : CodeGraph) : Type 0 where
  pub nodes : List FlatNode
  pub flat : IsFlatGraph (flows words) entry nodes (graph_of g)
  pub places : ArePlaces nodes (places_of g)
  pub no_errors : HasNoErrors (flows words) entry
  pub instructions : (u w : ℕ) → u < length g.nodes → words ((places_of g).address u) ≡ Some w
      → ins_of_word w ≡ Some (ins_of g u)

-- a graph is that of some code
pub record HasCode (g : CodeGraph) : Type 0 where
  pub words : Words
  pub entry : ℕ
  pub word_places : IsCodeMap words
  pub of_code : IsCodeGraph words entry g

-- the kind of a node, from the calls under way and the flow of its instruction
abbrev pub kind_of : List ℕ → Flow → Kind
kind_of c (Call t) = kind.Call
kind_of [] Return = kind.Answer
kind_of (b ∷ c) Return = kind.Return
kind_of c Exit = kind.Answer
kind_of c _ = kind.Plain
