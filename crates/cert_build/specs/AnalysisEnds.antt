-- How the analysis of a task's code ends: with the analysis, or with a bound that is too large.
use Rattle.std.specs.Prelude.{ℕ, ◌^◌, ◌<◌, ◌≤◌, ◌≢◌, Result, Ok, Err}
use Rattle.crpd_base.specs.Ranges.{IsPlatform}
use Rattle.crpd_base.specs.declared.data.Platform.{Platform}
use Rattle.flat_graph.specs.Graph.{IsGraph}
use Rattle.loop_regions.specs.Nest.{IsNested}
use Rattle.loop_regions.specs.Stated.{IsOnCycle}
use Rattle.loop_regions.specs.TaskGraph.{TaskGraph}
use Rattle.exec_bound.specs.declared.error.BoundError.{BoundError}
use Rattle.exec_bound.specs.declared.error.BoundError.TheVariants as bound
use Rattle.cert_build.specs.Analysis.{HasNoAnalysis, IsAnalysis, KeepsRanges}
use Rattle.cert_build.specs.declared.one_task.Analysis.{Analysis}

-- what an analysis rests on: a graph of at most 16,384 nodes with addresses of 32 bits, nested
-- regions of at least one iteration each, and no cycle outside their back edges
pub record IsAnalysable (t : TaskGraph) : Type 0 where
  pub graph : IsGraph t.graph
  pub nested : IsNested t.graph t.nest
  pub no_cycle : (y : ℕ) → IsOnCycle t.graph t.nest y → ⊥
  pub turns : (r : ℕ) → r < t.nest.size → 1 ≤ t.nest.bound r
  pub few : t.graph.size ≤ 16384
  pub few_regions : t.nest.size ≤ 16384
  pub addresses : (y : ℕ) → y < t.graph.size → t.places.address y < 2 ^ 32

-- how an analysis ends: with the analysis in the ranges of a certificate, or with a bound that is
-- too large; out of memory is none
abbrev pub IsAnalysisEnd : Platform → TaskGraph → Result Analysis BoundError → Type 0
IsAnalysisEnd p t (Ok a) = IsAnalysis p t a × KeepsRanges a
IsAnalysisEnd p t (Err e) = (e ≢ bound.Memory) × HasNoAnalysis p t e

-- it cannot be refuted that there is such an end
abbrev pub AnAnalysisExists : Type 0
AnAnalysisExists =
    (p : Platform) (t : TaskGraph) → IsPlatform p → IsAnalysable t
    → ((r : Result Analysis BoundError) → IsAnalysisEnd p t r → ⊥) → ⊥
