-- Inner definitions: why a task has no flat graph.
use Rattle.std.specs.Prelude.{◌≡◌, ℕ, Some, option_map}
use Rattle.rv_decode.specs.declared.Ins.{Ins}
use Rattle.rv_decode.specs.Flow.{Flows, Words}
use Rattle.rv_decode.specs.Table.{ins_of_word}
use Rattle.flat_graph.specs.FlatGraph.{FlatNode, NodeError, error_of}
use Rattle.flat_graph.specs.FlatGraph as flat
use Rattle.flat_graph.specs.declared.error.GraphError.{GraphError}
use Rattle.flat_graph.specs.declared.error.GraphError.TheVariants as graph

-- the refusal for a node's error at an address
abbrev pub graph_error : NodeError → ℕ → GraphError
graph_error flat.Misaligned a = graph.Misaligned a
graph_error flat.OutsideCode a = graph.OutsideCode a
graph_error flat.Undecodable a = graph.Undecodable a
graph_error flat.Breakpoint a = graph.Breakpoint a
graph_error flat.IndirectJump a = graph.IndirectJump a
graph_error flat.OtherLink a = graph.OtherLink a
graph_error flat.Recursive a = graph.Recursive a
graph_error flat.TooDeep a = graph.TooDeep a

-- the instruction is at the address
abbrev pub HasInstructionAt : Words → ℕ → Ins → Type 0
HasInstructionAt words a ins = (w : ℕ) × (words a ≡ Some w) × (ins_of_word w ≡ Some ins)

-- the refusal is that of the node's error
abbrev pub IsNodeError : Flows → ℕ → FlatNode → GraphError → Type 0
IsNodeError code entry n e =
    option_map (λ x. graph_error x n.address) (error_of code entry n) ≡ Some e
