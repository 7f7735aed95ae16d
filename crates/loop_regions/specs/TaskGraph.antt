-- The graph of a task with its nodes' places and instructions, and its regions.
use Rattle.std.specs.Prelude.{ℕ, Bool, Some}
use Rattle.rv_decode.specs.declared.Ins.{Ins}
use Rattle.rv_decode.specs.Flow.{flow}
use Rattle.flat_graph.specs.FlatGraph.{answers_by}
use Rattle.flat_graph.specs.Graph.{Graph, Places}
use Rattle.flat_graph.specs.EdgeCost.{NodeCode}
use Rattle.loop_regions.specs.Nest.{Nest}

-- the graph and the nest of a task, with the place and the instruction of each node
pub record TaskGraph : Type 0 where
  pub graph : Graph
  pub places : Places
  pub ins : ℕ → Ins
  pub nest : Nest

-- the addresses of its nodes, with their instructions
abbrev pub node_code_of : TaskGraph → NodeCode
node_code_of t = record { address = t.places.address; ins = t.ins }

-- the completing nodes: those at which a job completes
abbrev pub answering : TaskGraph → ℕ → Bool
answering t y = answers_by (t.places.context y) (Some (Some (flow (t.places.address y) (t.ins y))))
