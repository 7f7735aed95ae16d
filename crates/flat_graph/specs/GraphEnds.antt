-- How the graph of a task ends: with the graph, or with an error.
use Rattle.std.specs.Prelude.{ℕ, ◌≢◌, ◌≤◌, length, Result, Ok, Err}
use Rattle.crpd_base.specs.Limits.{most_nodes}
use Rattle.rv_decode.specs.Flow.{Words, flows}
use Rattle.flat_graph.specs.CodeGraph.{CodeGraph, IsCodeGraph}
use Rattle.flat_graph.specs.GraphErrors.{IsGraphError}
use Rattle.flat_graph.specs.declared.error.GraphError.{GraphError}
use Rattle.flat_graph.specs.declared.error.GraphError.TheVariants as graph

-- with the graph of at most 16,384 nodes, or with an error; out of memory is none
abbrev pub IsGraphEnd : Words → ℕ → Result CodeGraph GraphError → Type 0
IsGraphEnd words entry (Ok g) = IsCodeGraph words entry g × (length g.nodes ≤ most_nodes)
IsGraphEnd words entry (Err e) = (e ≢ graph.Memory) × IsGraphError (flows words) entry e

-- it cannot be refuted that there is such an end
abbrev pub AGraphExists : Type 0
AGraphExists =
    (words : Words) (entry : ℕ)
    → ((r : Result CodeGraph GraphError) → IsGraphEnd words entry r → ⊥) → ⊥
