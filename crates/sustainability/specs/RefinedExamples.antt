-- Two tasks with refined windows, of which the higher one gets a longer period.
use Rattle.std.specs.Prelude.{ℕ, zero, suc, false, [], ◌∷◌, ◌==◌}
use Rattle.crpd_base.specs.declared.data.Part.{Part}
use Rattle.crpd_base.specs.declared.data.PointMethod.{PointMethod}
use Rattle.crpd_base.specs.declared.data.PointMethod.TheVariants.{Ucb, Point}
use Rattle.crpd_base.specs.declared.data.RefinedTask.{RefinedTask}
use Rattle.evict_sets.specs.ListedPart.{no_task_part}
use Rattle.cert_build.specs.TwoWords.{graph}
use Rattle.delay_point.specs.Chosen.{RefinedParts}
use Rattle.delay_point.specs.Gamma.{SetsAtNodes}
use Rattle.sustainability.specs.Examples.{both}
use Rattle.sustainability.specs.RefinedWorkload.{RefinedWorkload, IsNoMoreDemandingAtNodes}
use Rattle.sustainability.specs.RefinedLaws.{AreRefinedWindows}

-- both tasks evict cache sets 0 and 1, which are useful to the lower one
abbrev pub parts : ℕ → Part
parts zero = record { bound = 2; evicting = 3 ∷ []; useful = [] }
parts (suc k) = record { bound = 10; evicting = 3 ∷ []; useful = 3 ∷ [] }

-- but only one of them at each of its nodes: set 0 at node 0, set 1 at node 1
abbrev pub useful : SetsAtNodes
useful zero y c = false
useful (suc k) y c = y == c

-- the chosen parts are the plain ones
abbrev pub refined_parts : RefinedParts
refined_parts = record {
  analysed = record no_task_part { part = parts 0 } ∷ record no_task_part { part = parts 1 } ∷ [];
  useful = useful;
  chosen = record { part = parts; useful = useful };
}

-- both tasks, each with a graph of two nodes; the higher one has this period
abbrev pub both_refined : ℕ → RefinedWorkload
both_refined period = record {
  set = (both period).set;
  graphs = λ k. graph;
  parts = refined_parts;
}

-- a task with this bound and this window, the jitter being 0
abbrev pub refined_task : ℕ → ℕ → PointMethod → RefinedTask
refined_task bound window method = record {
  bound = bound;
  window = window;
  response = window;
  method = method;
}

-- the lower task's window is 16 cycles by program point if the higher one has a period of 10, and
-- 13 with one of 20
pub record ShorterRefined : Type 0 where
  pub often : AreRefinedWindows (both_refined 10)
      (refined_task 2 2 Ucb ∷ refined_task 10 16 Point ∷ [])
  pub longer_period : IsNoMoreDemandingAtNodes (λ k. k) (both_refined 20) (both_refined 10)
  pub seldom : AreRefinedWindows (both_refined 20)
      (refined_task 2 2 Ucb ∷ refined_task 10 13 Point ∷ [])
