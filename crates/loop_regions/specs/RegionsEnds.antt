-- How the regions of stated loops end: with the regions, or with an error.
use Rattle.std.specs.Prelude.{ℕ, ◌≢◌, List, Result, Ok, Err}
use Rattle.crpd_base.specs.declared.data.LoopAt.{LoopAt}
use Rattle.flat_graph.specs.Graph.{Graph, IsGraph, Places}
use Rattle.loop_regions.specs.CodeNest.{CodeNest, nest_of}
use Rattle.loop_regions.specs.LoopErrors.{IsLoopError}
use Rattle.loop_regions.specs.Stated.{HasNoLoopRefusals, IsRegions, IsSameHead}
use Rattle.loop_regions.specs.declared.error.LoopError.{LoopError}
use Rattle.loop_regions.specs.declared.error.LoopError.TheVariants as loop

-- how regions end: with the regions of the loops, or with an error; out of memory is none
abbrev pub IsRegionsEnd : Graph → Places → List LoopAt → Result CodeNest LoopError → Type 0
IsRegionsEnd g p loops (Ok n) =
    ((a : ℕ) → IsSameHead loops a → ⊥) × IsRegions g p loops (nest_of n)
    × HasNoLoopRefusals g (nest_of n)
IsRegionsEnd g p loops (Err e) = (e ≢ loop.Memory) × IsLoopError g p loops e

-- it cannot be refuted that there is such an end
abbrev pub RegionsExist : Type 0
RegionsExist =
    (g : Graph) (p : Places) (loops : List LoopAt) → IsGraph g
    → ((r : Result CodeNest LoopError) → IsRegionsEnd g p loops r → ⊥) → ⊥
