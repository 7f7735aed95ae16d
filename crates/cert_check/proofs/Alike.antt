-- The verdict is the same for alike nests.
use Rattle.std.proofs.Common.{ℕ, ◌*◌, ◌<◌, ◌≤◌, List, length, ◌∙◌, subst, arith}
use Rattle.crpd_base.specs.declared.data.Certificate.{Certificate}
use Rattle.crpd_base.specs.declared.data.Platform.{Platform}
use Rattle.crpd_base.specs.declared.data.TaskPart.{TaskPart}
use Rattle.crpd_base.specs.declared.data.TaskSet.{TaskSet}
use Rattle.flat_graph.specs.CodeGraph.{CodeGraph, graph_of, graph_at}
use Rattle.flat_graph.specs.Graph.{Graph}
use Rattle.loop_regions.specs.CodeNest.{CodeNest, nest_of}
use Rattle.loop_regions.specs.Nest.{Nest}
use Rattle.loop_regions.specs.Potentials.{Costs, Potentials}
use Rattle.loop_regions.proofs.Alike.{Alike, turned, there, item_too, leaves_too, meets_at_too}
use Rattle.loop_regions.proofs.Alike.{turns_too}
use Rattle.evict_sets.specs.ListedPart.{certified_task}
use Rattle.cert_check.specs.PotentialClauses.{BoundMeets, PotentialsMeet}
use Rattle.loop_regions.specs.TaskGraphs.{nest_at, task_graph, task_graph_at}
use Rattle.cert_check.specs.declared.outcome.Clause.{Clause}
use Rattle.cert_check.specs.declared.outcome.Clause.TheVariants.{Bound, Inequalities}
use Rattle.cert_check.specs.declared.outcome.Clause.TheVariants.{LoopPotentials}
use Rattle.cert_check.specs.Verdict.{Answer, Yes, No, ClauseHolds, GraphHolds, IsJudged}

-- ---- one task

module _ (g : Graph) (n m : Nest) (A : Alike n m) (q : Potentials) where
  abbrev B : Alike m n
  B = turned n m A

  pub potentials_too : (c : Costs) (u : ℕ) → PotentialsMeet g n c q u → PotentialsMeet g m c q u
  potentials_too c u e = record {
    edges = meets_at_too g n m A c q u e.edges;
    left = λ v r edge leaves.
        let l = leaves_too m n B u v r leaves in
        turns_too n m A r (q.loop r) q.node l.0 (e.left v r edge l);
    loop = λ r lt at.
        let l = there m n B r lt in
        subst (λ b. b * q.node u ≤ q.loop r) (A.bound r l) (e.loop r l (A.head r l ∙ at));
  }

  pub bound_too : (bound : ℕ) → BoundMeets g n q bound → BoundMeets g m q bound
  bound_too bound e i is = e i (item_too m n B g.first i is)

pub graph_holds_too : (p : Platform) (g : CodeGraph) (n m : CodeNest)
    → Alike (nest_of n) (nest_of m) → (c : TaskPart) (k : Clause)
    → GraphHolds p (task_graph g n) c k → GraphHolds p (task_graph g m) c k
graph_holds_too p g n m A c LoopPotentials h = h ∙ A.size
graph_holds_too p g n m A c (Inequalities u) h = λ is_hit hits below.
    potentials_too (graph_of g) (nest_of n) (nest_of m) A _ _ u (h is_hit hits below)
graph_holds_too p g n m A c Bound h = bound_too (graph_of g) (nest_of n) (nest_of m) A _ _ h
graph_holds_too p g n m A c k h = h

-- ---- all tasks

module _ (set : TaskSet) where
  abbrev pub AllAlike : List CodeNest → List CodeNest → Type 0
  AllAlike ns ms =
      (i : ℕ) → i < length set.tasks → Alike (nest_of (nest_at ns i)) (nest_of (nest_at ms i))

  pub all_turned : (ns ms : List CodeNest) → AllAlike ns ms → AllAlike ms ns
  all_turned ns ms same i lt = turned (nest_of (nest_at ns i)) (nest_of (nest_at ms i)) (same i lt)

module _ (set : TaskSet) (graphs : List CodeGraph) (c : Certificate) where
  holds_too : (ns ms : List CodeNest) → AllAlike set ns ms → (i : ℕ) (k : Clause)
      → i < length set.tasks → ClauseHolds set (task_graph_at graphs ns) c i k
      → ClauseHolds set (task_graph_at graphs ms) c i k
  holds_too ns ms same i LoopPotentials lt h = h ∙ (same i lt).size
  holds_too ns ms same i (Inequalities u) lt h =
      graph_holds_too set.platform (graph_at graphs i) (nest_at ns i) (nest_at ms i) (same i lt)
      (certified_task c i) (Inequalities u) h
  holds_too ns ms same i Bound lt h =
      graph_holds_too set.platform (graph_at graphs i) (nest_at ns i) (nest_at ms i) (same i lt)
      (certified_task c i) Bound h
  holds_too ns ms same i k lt h = h

  pub judged_too : (ns ms : List CodeNest) → AllAlike set ns ms → (a : Answer)
      → IsJudged set (task_graph_at graphs ns) c a → IsJudged set (task_graph_at graphs ms) c a
  judged_too ns ms same Yes h = λ i k lt. holds_too ns ms same i k lt (h i k lt)
  judged_too ns ms same (No i clause place) h =
      let failure = h.3 in (
        h.0,
        h.1,
        h.2,
        record {
          task = failure.task;
          fails = λ holds.
              failure.fails
              (holds_too ms ns (all_turned set ns ms same) i h.0 failure.task holds);
          tasks_before = λ j l lt.
              holds_too ns ms same j l (let t = failure.task in omega (arith, lt, t))
              (failure.tasks_before j l lt);
          clauses_before = λ l earlier.
              holds_too ns ms same i l failure.task (failure.clauses_before l earlier);
        },
      )
