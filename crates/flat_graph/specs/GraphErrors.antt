-- Why a task has no flat graph.
use Rattle.std.specs.Prelude.{◌≡◌, ℕ}
use Rattle.crpd_base.specs.Limits.{most_nodes}
use Rattle.rv_decode.specs.Flow.{Flows}
use Rattle.flat_graph.specs.FlatGraph.{IsGraphRefused}
use Rattle.flat_graph.specs.FlatGraph as flat
use Rattle.flat_graph.specs.declared.error.GraphError.{GraphError}
use Rattle.flat_graph.specs.declared.error.GraphError.TheVariants as graph

-- what a refusal says of the graph: too many nodes are reached from the entry, or this is the first
-- node with an error, with its error and address
abbrev pub IsGraphError : Flows → ℕ → GraphError → Type 0
IsGraphError code entry graph.Memory = Unit {0}
IsGraphError code entry (graph.TooManyNodes a) =
    (a ≡ entry) × IsGraphRefused code entry most_nodes flat.TooManyNodes
IsGraphError code entry (graph.Misaligned a) =
    IsGraphRefused code entry most_nodes (flat.AtNode flat.Misaligned a)
IsGraphError code entry (graph.OutsideCode a) =
    IsGraphRefused code entry most_nodes (flat.AtNode flat.OutsideCode a)
IsGraphError code entry (graph.Undecodable a) =
    IsGraphRefused code entry most_nodes (flat.AtNode flat.Undecodable a)
IsGraphError code entry (graph.Breakpoint a) =
    IsGraphRefused code entry most_nodes (flat.AtNode flat.Breakpoint a)
IsGraphError code entry (graph.IndirectJump a) =
    IsGraphRefused code entry most_nodes (flat.AtNode flat.IndirectJump a)
IsGraphError code entry (graph.OtherLink a) =
    IsGraphRefused code entry most_nodes (flat.AtNode flat.OtherLink a)
IsGraphError code entry (graph.Recursive a) =
    IsGraphRefused code entry most_nodes (flat.AtNode flat.Recursive a)
IsGraphError code entry (graph.TooDeep a) =
    IsGraphRefused code entry most_nodes (flat.AtNode flat.TooDeep a)
