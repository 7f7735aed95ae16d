-- The graphs and regions that a set's code gives are those of the checker and its laws.
use Rattle.std.proofs.Common.{◌≡◌, ℕ, ◌<◌, List, length, Some, Ok, sym, subst, arith, slice_get}
use Rattle.std.proofs.lemmas.Option.{get_or_from_slice_get}
use Rattle.crpd_base.proofs.Elements.{some_at}
use Rattle.crpd_base.specs.declared.data.TaskPlan.{TaskPlan}
use Rattle.rv_decode.specs.Flow.{Words}
use Rattle.code_map.specs.Words.{word_at}
use Rattle.flat_graph.specs.CodeGraph.{CodeGraph, IsCodeGraph, graph_of, places_of, no_graph}
use Rattle.flat_graph.specs.CodeGraph.{graph_at}
use Rattle.loop_regions.specs.CodeNest.{CodeNest, nest_of}
use Rattle.loop_regions.specs.Stated.{HasNoLoopRefusals, IsRegions, IsSameHead}
use Rattle.cert_check.specs.JudgeInput.{IsGraphOf}
use Rattle.loop_regions.specs.TaskGraphs.{nest_at, no_nest, task_graph, task_graph_at}
use Rattle.cert_check.proofs.Built.{graph_of_law}
use Rattle.preempt_machine.specs.Machine.{plan_of}
use Rattle.preempt_machine.specs.Safe.{system_of}
use Rattle.task_shapes.specs.Inputs.{SetWithCode}
use Rattle.task_shapes.specs.Graphs.{GraphsOf, RegionsOf}

-- a plan's graph and the regions of its loops
record IsMade (words : Words) (plan : TaskPlan) (g : CodeGraph) (n : CodeNest) : Type 0 where
  graph : IsCodeGraph words plan.entry g
  one_head : (a : ℕ) → IsSameHead plan.loops a → ⊥
  regions : IsRegions (graph_of g) (places_of g) plan.loops (nest_of n)
  accepted : HasNoLoopRefusals (graph_of g) (nest_of n)

made_graph : (words : Words) (plan : TaskPlan) (g : CodeGraph) (n : CodeNest)
    → IsMade words plan g n → IsGraphOf words plan (task_graph g n)
made_graph words plan g n M =
    graph_of_law words plan M.graph.nodes (task_graph g n)
    (record {
      flat = M.graph.flat;
      places = M.graph.places;
      no_errors = M.graph.no_errors;
      instructions = M.graph.instructions;
      regions = M.regions;
      accepted = M.accepted;
    })

module _ (input : SetWithCode) (graphs : List CodeGraph) (nests : List CodeNest)
    (all_graphs : GraphsOf input (Ok graphs)) (all_nests : RegionsOf input graphs (Ok nests)) where
  abbrev task_plan : ℕ → TaskPlan
  task_plan k = plan_of (system_of input.set input.code) k

  plan_there : (k : ℕ) (plan : TaskPlan) → slice_get input.code.plans k ≡ Some plan
      → task_plan k ≡ plan
  plan_there k plan at = get_or_from_slice_get input.code.plans k plan _ at

  made_at : (k : ℕ) → k < length input.set.tasks
      → IsMade (word_at input.code.images) (task_plan k) (graph_at graphs k)
      (nest_at nests k)
  made_at k lt =
      let g = some_at graphs k (omega (arith, all_graphs.0, lt)) in
      let n = some_at nests k (omega (arith, all_nests.0, lt)) in
      let of_graph = all_graphs.1 k g.0 g.1 in
      let of_nest = all_nests.1 k n.0 n.1 in
      let first = plan_there k of_graph.0 of_graph.1 in
      let second = plan_there k of_nest.0 of_nest.2 in
      let graph_is : graph_at graphs k ≡ g.0 =
      get_or_from_slice_get graphs k g.0 no_graph g.1 in
      let seen_is : graph_at graphs k ≡ of_nest.1 =
      get_or_from_slice_get graphs k of_nest.1 no_graph of_nest.3 in
      let nest_is : nest_at nests k ≡ n.0 =
      get_or_from_slice_get nests k n.0 no_nest n.1 in
      let graph = subst
      (λ p. IsCodeGraph (word_at input.code.images) p.entry (graph_at graphs k)) (sym first)
      (subst (λ x. IsCodeGraph (word_at input.code.images) of_graph.0.entry x)
      (sym graph_is) of_graph.2.0) in
      let one_head = subst (λ (p : TaskPlan). (a : ℕ) → IsSameHead p.loops a → ⊥)
      (sym second) of_nest.4.0 in
      let regions = subst (λ p.
      IsRegions (graph_of (graph_at graphs k)) (places_of (graph_at graphs k)) p.loops
      (nest_of (nest_at nests k))) (sym second)
      (subst (λ x. IsRegions (graph_of x) (places_of x) of_nest.0.loops
      (nest_of (nest_at nests k))) (sym seen_is)
      (subst (λ x. IsRegions (graph_of of_nest.1) (places_of of_nest.1) of_nest.0.loops (nest_of x))
      (sym nest_is) of_nest.4.1)) in
      let accepted = subst (λ x. HasNoLoopRefusals (graph_of x) (nest_of (nest_at nests k)))
      (sym seen_is)
      (subst (λ x. HasNoLoopRefusals (graph_of of_nest.1) (nest_of x)) (sym nest_is) of_nest.4.2) in
      record { graph = graph; one_head = one_head; regions = regions; accepted = accepted }

  -- they are the graphs of the set's plans
  pub shapes_built : (k : ℕ) → k < length input.set.tasks
      → IsGraphOf (word_at input.code.images) (plan_of (system_of input.set input.code) k)
      (task_graph_at graphs nests k)
  shapes_built k lt =
      made_graph (word_at input.code.images) (plan_of (system_of input.set input.code) k)
      (graph_at graphs k) (nest_at nests k) (made_at k lt)
