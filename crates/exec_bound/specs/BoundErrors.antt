-- When a task has no bound.
use Rattle.std.specs.Prelude.{◌≡◌}
use Rattle.flat_graph.specs.CodeGraph.{CodeGraph, graph_of, places_of}
use Rattle.loop_regions.specs.Nest.{Nest}
use Rattle.loop_regions.specs.Potentials.{Costs}
use Rattle.exec_bound.specs.Costs.{IsTooLarge}
use Rattle.exec_bound.specs.declared.error.BoundError.{BoundError}
use Rattle.exec_bound.specs.declared.error.BoundError.TheVariants.{Memory, TooLarge}

-- out of memory, at any time; or a bound that is too large, with the address of the first node
abbrev pub IsBoundError : CodeGraph → Nest → Costs → BoundError → Type 0
IsBoundError g n c Memory = Unit {0}
IsBoundError g n c (TooLarge a) =
    (a ≡ (places_of g).address (graph_of g).first) × IsTooLarge (graph_of g) n c
