-- The refusals of loops.
use Rattle.std.specs.Prelude.{List}
use Rattle.crpd_base.specs.declared.data.LoopAt.{LoopAt}
use Rattle.flat_graph.specs.Graph.{Graph, Places}
use Rattle.loop_regions.specs.Nest.{Nest}
use Rattle.loop_regions.specs.Stated as refusal
use Rattle.loop_regions.specs.Stated.{IsRegions, IsLoopRefused, LoopRefusal}
use Rattle.loop_regions.specs.declared.error.LoopError.{LoopError}
use Rattle.loop_regions.specs.declared.error.LoopError.TheVariants.{Memory, SameHead, SecondEntry}
use Rattle.loop_regions.specs.declared.error.LoopError.TheVariants.{NotNested, CycleWithoutBound}

-- the regions of the loops have this refusal
abbrev pub AreRegionsRefused : Graph → Places → List LoopAt → LoopRefusal → Type 0
AreRegionsRefused g p loops r = (n : Nest) × IsRegions g p loops n × IsLoopRefused g p loops n r

-- out of memory can come at any time; a different error is the first refusal
abbrev pub IsLoopError : Graph → Places → List LoopAt → LoopError → Type 0
IsLoopError g p loops Memory = Unit {0}
IsLoopError g p loops (SameHead a) = (n : Nest) → IsLoopRefused g p loops n (refusal.SameHead a)
IsLoopError g p loops (SecondEntry a) = AreRegionsRefused g p loops (refusal.SecondEntry a)
IsLoopError g p loops (NotNested a) = AreRegionsRefused g p loops (refusal.NotNested a)
IsLoopError g p loops (CycleWithoutBound a) =
    AreRegionsRefused g p loops (refusal.CycleWithoutBound a)
