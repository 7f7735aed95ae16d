-- A set has one slack by each cost, for all regions of the same loops.
use Rattle.std.proofs.Common.{◌≡◌, ℕ, suc, ◌<◌, List, Option, Some, None, length, inl, inr}
use Rattle.std.proofs.Common.{arith}
use Rattle.crpd_base.specs.declared.data.LoopAt.{LoopAt}
use Rattle.crpd_base.specs.declared.data.Part.{Part}
use Rattle.crpd_base.specs.declared.data.Platform.{Platform}
use Rattle.crpd_base.specs.declared.data.Slack.{Slack}
use Rattle.crpd_base.specs.declared.data.Stop.{Stop}
use Rattle.crpd_base.specs.declared.data.Stop.TheVariants.{Limit, Window, Bound}
use Rattle.crpd_base.specs.declared.data.TaskPlan.{TaskPlan}
use Rattle.crpd_base.specs.declared.data.TaskSet.{TaskSet}
use Rattle.crpd_base.specs.Tasks.{HasTimes}
use Rattle.rv_decode.specs.Flow.{Words}
use Rattle.flat_graph.specs.CodeGraph.{CodeGraph, graph_of, graph_at, places_of}
use Rattle.loop_regions.specs.CodeNest.{CodeNest, nest_of}
use Rattle.loop_regions.specs.TaskGraph.{TaskGraph}
use Rattle.loop_regions.proofs.Alike.{Alike, turned, item_too}
use Rattle.loop_regions.proofs.Stated.{regions_law}
use Rattle.exec_bound.proofs.Alike.{least_too}
use Rattle.cert_check.specs.JudgeInput.{IsGraphOf}
use Rattle.loop_regions.specs.TaskGraphs.{nest_at, task_graph, task_graph_at}
use Rattle.cert_check.proofs.Alike.{AllAlike, all_turned}
use Rattle.cert_build.specs.StatedRegions.{AreStatedRegions}
use Rattle.cert_build.proofs.StatedRegions.{stated_alike}
use Rattle.sensitivity.specs.Accepted.{AreAnalysedParts, IsAccepted, IsAnalysedPart, IsLeastBound}
use Rattle.sensitivity.specs.Accepted.{IsStop}
use Rattle.sensitivity.specs.Costs.{with_miss, with_switch}
use Rattle.sensitivity.specs.Laws.{IsLoopBounded, OneSlackByLoops}
use Rattle.sensitivity.specs.Slack.{AreRefusedFrom, IsGreatest, IsSlack, StopsNext}
use Rattle.sensitivity.proofs.Slacks.{one_slack_by}

-- a task's code has nested regions and no cycles of forward edges
pub loop_bounded : (words : Words) (plan : TaskPlan) (t : TaskGraph) → IsGraphOf words plan t
    → IsLoopBounded t
loop_bounded words plan t B =
    record {
      graph = B.follows.graph;
      nested = regions_law t.graph t.places plan.loops t.nest B.regions B.accepted;
      no_cycle = B.accepted.no_cycle;
    }

-- and so have the regions of stated loops
stated_bounded : (set : TaskSet) (loops : ℕ → List LoopAt) (graphs : List CodeGraph)
    (ns : List CodeNest) → AreStatedRegions set loops graphs ns → (k : ℕ) → k < length set.tasks
    → IsLoopBounded (task_graph_at graphs ns k)
stated_bounded set loops graphs ns S k lt =
    record {
      graph = S.graph k lt;
      nested =
          regions_law (graph_of (graph_at graphs k)) (places_of (graph_at graphs k)) (loops k)
          (nest_of (nest_at ns k)) (S.regions k lt) (S.accepted k lt);
      no_cycle = (S.accepted k lt).no_cycle;
    }

-- ---- one task

module _ (p : Platform) (g : CodeGraph) (n m : CodeNest) (A : Alike (nest_of n) (nest_of m)) where
  bound_too : (cycles : ℕ) → IsLeastBound p (task_graph g n) cycles
      → IsLeastBound p (task_graph g m) cycles
  bound_too cycles B = record {
    is_hit = B.is_hit;
    hits = B.hits;
    potentials = B.potentials;
    least = least_too (graph_of g) (nest_of n) (nest_of m) A _ _ B.least;
    first = λ i is.
        B.first i
        (item_too (nest_of m) (nest_of n) (turned (nest_of n) (nest_of m) A) g.first i is);
  }

  part_too : (part : Part) → IsAnalysedPart p (task_graph g n) part
      → IsAnalysedPart p (task_graph g m) part
  part_too part P = record {
    bound = bound_too part.bound P.bound;
    sets = record { evicting = P.sets.evicting; useful = P.sets.useful };
  }

-- ---- all tasks

module _ (set : TaskSet) (graphs : List CodeGraph) (ns ms : List CodeNest)
    (same : AllAlike set ns ms) where
  parts_too : (parts : ℕ → Part) → AreAnalysedParts set (task_graph_at graphs ns) parts
      → AreAnalysedParts set (task_graph_at graphs ms) parts
  parts_too parts A = record {
    each = λ k lt.
        part_too set.platform (graph_at graphs k) (nest_at ns k) (nest_at ms k) (same k lt)
        (parts k) (A.each k lt);
    within = A.within;
  }

  pub accepted_too : IsAccepted set (task_graph_at graphs ns)
      → IsAccepted set (task_graph_at graphs ms)
  accepted_too A = record {
    parts = A.parts;
    are = parts_too A.parts A.are;
    choices = A.choices;
    windows = A.windows;
  }

  bound_at : (k : ℕ) → k < length set.tasks → (cycles : ℕ)
      → IsLeastBound set.platform (task_graph_at graphs ns k) cycles
      → IsLeastBound set.platform (task_graph_at graphs ms k) cycles
  bound_at k lt =
      bound_too set.platform (graph_at graphs k) (nest_at ns k) (nest_at ms k) (same k lt)

  stop_too : (stop : Stop) → IsStop set (task_graph_at graphs ns) stop
      → IsStop set (task_graph_at graphs ms) stop
  stop_too Limit S = S
  stop_too (Window t) S = record { parts = S.parts; are = parts_too S.parts S.are; first = S.first }
  stop_too (Bound t) S = record {
    task = S.task;
    cycles = S.cycles;
    bound = bound_at t.0 S.task S.cycles S.bound;
    large = S.large;
    higher = λ k lt.
        let h = S.higher k lt in
        (h.0, bound_at k (let l = S.task in omega (arith, l, lt)) h.0 h.1, h.2);
  }

-- ---- the largest costs

module _ (at : ℕ → TaskSet) (graphs : List CodeGraph) (ns ms : List CodeNest)
    (there : (c : ℕ) → AllAlike (at c) ns ms) (again : (c : ℕ) → AllAlike (at c) ms ns) where
  refused_too : (least : ℕ) → AreRefusedFrom at (task_graph_at graphs ns) least
      → AreRefusedFrom at (task_graph_at graphs ms) least
  refused_too least R c from most A = R c from most (accepted_too (at c) graphs ms ns (again c) A)

  greatest_too : (cost : Option ℕ) → IsGreatest at (task_graph_at graphs ns) cost
      → IsGreatest at (task_graph_at graphs ms) cost
  greatest_too None R = refused_too 0 R
  greatest_too (Some g) G =
      (G.0, λ c le. accepted_too (at c) graphs ns ms (there c) (G.1 c le), refused_too (suc g) G.2)

  next_too : (cost : Option ℕ) (stop : Stop) → StopsNext at (task_graph_at graphs ns) cost stop
      → StopsNext at (task_graph_at graphs ms) cost stop
  next_too None stop S = stop_too (at 0) graphs ns ms (there 0) stop S
  next_too (Some g) stop (inl limit) = inl limit
  next_too (Some g) stop (inr S) =
      inr (S.0, stop_too (at (suc g)) graphs ns ms (there (suc g)) stop S.1)

  slack_too : (slack : Slack) → IsSlack at (task_graph_at graphs ns) slack
      → IsSlack at (task_graph_at graphs ms) slack
  slack_too slack S = record {
    greatest = greatest_too slack.greatest S.greatest;
    stop = next_too slack.greatest slack.stop S.stop;
  }

-- ---- the slacks of one set

module _ (set : TaskSet) (graphs : List CodeGraph) (ns ms : List CodeNest) (times : HasTimes set)
    (bounded : (k : ℕ) → k < length set.tasks → IsLoopBounded (task_graph_at graphs ns k))
    (same : AllAlike set ns ms) (one two : Slack) where
  abbrev turned_all : AllAlike set ms ns
  turned_all = all_turned set ns ms same

  pub one_by_switch : IsSlack (with_switch set) (task_graph_at graphs ns) one
      → IsSlack (with_switch set) (task_graph_at graphs ms) two → one ≡ two
  one_by_switch A B =
      (one_slack_by set (task_graph_at graphs ns) one two times bounded).0 A
      (slack_too (λ c. with_switch set c) graphs ms ns (λ c. turned_all) (λ c. same) two B)

  pub one_by_miss : IsSlack (with_miss set) (task_graph_at graphs ns) one
      → IsSlack (with_miss set) (task_graph_at graphs ms) two → one ≡ two
  one_by_miss A B =
      (one_slack_by set (task_graph_at graphs ns) one two times bounded).1 A
      (slack_too (λ c. with_miss set c) graphs ms ns (λ c. turned_all) (λ c. same) two B)

pub one_slack_by_loops : OneSlackByLoops
one_slack_by_loops set loops graphs ns ms one two times N M =
    let bounded = stated_bounded set loops graphs ns N in
    let same = stated_alike set loops graphs ns ms N M in (
      one_by_switch set graphs ns ms times bounded same one two,
      one_by_miss set graphs ns ms times bounded same one two,
    )
