-- The graph and the regions of an old task are those of a new task that is the same.
use Rattle.std.proofs.Common.{◌≡◌, ℕ, ◌<◌, ◌≤◌, List, length, Some, Ok, sym, ap, ◌∙◌, subst, arith}
use Rattle.std.proofs.Common.{Option, None, slice_get}
use Rattle.std.proofs.lemmas.Option.{get_or_from_slice_get, slice_get_within, same_Some}
use Rattle.crpd_base.specs.Tasks.{place_of_name}
use Rattle.crpd_base.proofs.Elements.{some_at}
use Rattle.crpd_base.specs.declared.data.TaskPlan.{TaskPlan}
use Rattle.crpd_base.specs.declared.data.LoopAt.{LoopAt}
use Rattle.code_map.specs.Words.{word_at}
use Rattle.flat_graph.specs.CodeGraph.{CodeGraph, IsCodeGraph, graph_of, places_of, no_graph}
use Rattle.flat_graph.specs.CodeGraph.{graph_at}
use Rattle.loop_regions.specs.CodeNest.{CodeNest, IsNestOf, nest_of}
use Rattle.loop_regions.specs.Stated.{HasNoLoopRefusals, IsRegions, IsSameHead}
use Rattle.loop_regions.specs.TaskGraphs.{no_nest}
use Rattle.task_shapes.specs.Inputs.{SetWithCode, name_at}
use Rattle.task_shapes.specs.Graphs.{GraphAt, GraphsOf, RegionsAt}
use Rattle.task_shapes.specs.Shapes.{IsShapedSet, SetWithShapes}
use Rattle.task_shapes.specs.SameTask.{IsSameTask}
use Rattle.task_shapes.specs.Inner.SameTask.{IsSource}
use Rattle.task_shapes.proofs.OneGraph.{one_graph_at}

-- the old task's graph is the new task's
pub graph_serves : (old : SetWithShapes) (input : SetWithCode) (j k : ℕ) (g : CodeGraph)
    → IsSameTask old j input k → graph_at old.graphs j ≡ g → length g.nodes ≤ 16384
    → GraphAt input k (Ok g)
graph_serves old input j k g S is few = (
  S.plan,
  S.planned,
  (subst (IsCodeGraph (word_at input.code.images) S.plan.entry) is S.graph, few),
)

-- the source of a task that is the same as the old task of its name is that task
pub source_is : (old : SetWithShapes) (input : SetWithCode) (j k : ℕ) (o : Option ℕ)
    → IsSource old input k o → place_of_name old.input.set.tasks (name_at input k) ≡ Some j
    → IsSameTask old j input k → (o ≡ Some j) × (j < length old.input.set.tasks)
source_is old input j k None is named same = absurd (is j named same)
source_is old input j k (Some i) is named same =
    let e : i ≡ j = same_Some i j (sym is.0 ∙ named) in
    (ap Some e, subst (λ x. x < length old.input.set.tasks) e is.1)

-- the regions of the same loops in the same graph
abbrev AreRegions : CodeGraph → List LoopAt → CodeNest → Type 0
AreRegions g loops n =
    ((a : ℕ) → IsSameHead loops a → ⊥) × IsRegions (graph_of g) (places_of g) loops (nest_of n)
    × HasNoLoopRefusals (graph_of g) (nest_of n)

moved : (n : CodeNest) (g h : CodeGraph) (old new : List LoopAt) → g ≡ h → old ≡ new
    → AreRegions g old n → AreRegions h new n
moved n g h old new same loops are =
    subst (λ (x : CodeGraph). AreRegions x new n) same
    (subst (λ (l : List LoopAt). AreRegions g l n) loops are)

module _ (old : SetWithShapes) (input : SetWithCode) (graphs : List CodeGraph) (j k : ℕ)
    (is : IsShapedSet old) (S : IsSameTask old j input k) (all : GraphsOf input (Ok graphs))
    (there : k < length graphs) where
  -- so it is the graph that was found for the new task
  pub same_graph : j < length old.graphs → graph_at graphs k ≡ graph_at old.graphs j
  same_graph lt =
      let o = some_at old.graphs j lt in
      let h = some_at graphs k there in
      let same_old : graph_at old.graphs j ≡ o.0 =
      get_or_from_slice_get old.graphs j o.0 no_graph o.1 in
      let mine : GraphAt input k (Ok o.0) =
      graph_serves old input j k o.0 S same_old (is.graphs.1 j o.0 o.1).2.1 in
      let same : Ok h.0 ≡ Ok o.0 = one_graph_at input k (Ok h.0) (Ok o.0) (all.1 k h.0 h.1) mine in
      let plain : h.0 ≡ o.0 = cc in
      get_or_from_slice_get graphs k h.0 no_graph h.1 ∙ plain ∙ sym same_old

  -- and the old task's regions are the new task's
  pub regions_serve : (n : CodeNest) → slice_get old.nests j ≡ Some n
      → RegionsAt input graphs k (Ok n)
  regions_serve n at =
      let R = is.regions.1 j n at in
      let lt : j < length old.graphs = slice_get_within old.graphs j R.1 R.3 in
      let h = some_at graphs k there in
      let plan : R.0 ≡ S.old_plan = same_Some R.0 S.old_plan (sym R.2 ∙ S.old_planned) in
      let loops : R.0.loops ≡ S.plan.loops = ap (λ (p : TaskPlan). p.loops) plan ∙ S.loops in
      let graph : R.1 ≡ h.0 = sym (get_or_from_slice_get old.graphs j R.1 no_graph R.3)
      ∙ sym (same_graph lt) ∙ get_or_from_slice_get graphs k h.0 no_graph h.1 in
      (S.plan, h.0, S.planned, h.1, moved n R.1 h.0 R.0.loops S.plan.loops graph loops R.4)

  pub nest_serves : j < length old.input.set.tasks → (n : CodeNest)
      → slice_get old.nests j ≡ Some n → IsNestOf (graph_at graphs k) n
  nest_serves lt n at =
      subst (λ (g : CodeGraph). IsNestOf g n)
      (sym (same_graph (omega (arith, is.shown.all_graphs, lt))))
      (subst (IsNestOf (graph_at old.graphs j)) (get_or_from_slice_get old.nests j n no_nest at)
      (is.shown.each j lt))
