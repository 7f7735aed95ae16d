-- A set has one list of graphs and alike regions, or one error.
use Rattle.std.proofs.Common.{◌≡◌, ℕ, List, get_or, Some, Result, Ok, Err, sym, ap, ◌∙◌, subst}
use Rattle.std.proofs.Common.{inl, inr, arith, length, slice_get}
use Rattle.std.proofs.lemmas.List.{ext_get_or}
use Rattle.std.proofs.lemmas.Option.{slice_get-get_or, same_Some}
use Rattle.crpd_base.proofs.Results.{ok_is, ok_not_err}
use Rattle.crpd_base.specs.declared.data.TaskPlan.{TaskPlan}
use Rattle.flat_graph.specs.CodeGraph.{CodeGraph, graph_of, places_of, no_graph}
use Rattle.loop_regions.specs.CodeNest.{CodeNest, nest_of}
use Rattle.loop_regions.proofs.OneNest.{alike, not_refused, one_loop_error}
use Rattle.loop_regions.specs.TaskGraphs.{nest_at, no_nest}
use Rattle.cert_check.proofs.Alike.{AllAlike}
use Rattle.task_shapes.specs.declared.error.ShapeError.{ShapeError}
use Rattle.task_shapes.specs.declared.error.ShapeError.TheVariants.{Loops}
use Rattle.task_shapes.specs.Inputs.{SetWithCode, name_at}
use Rattle.task_shapes.specs.Graphs.{AreRegionsOrNot, GraphAt, GraphsOf, RegionsAt, RegionsOf}
use Rattle.task_shapes.specs.Shapes.{SetWithShapes, ShapesOf}
use Rattle.task_shapes.specs.Steps.{Exactly, Then}
use Rattle.task_shapes.proofs.Once.{IsRefusedOnce, each_once, then_once, value_once}
use Rattle.task_shapes.proofs.OneGraph.{one_graph_at}

graph_once : (input : SetWithCode) (k : ℕ) → IsRefusedOnce (GraphAt input k)
graph_once input k = record {
  exclusive = λ x r a b. unlike x r (one_graph_at input k (Ok x) (Err r) a b);
  one = λ r s a b. same_error r s (one_graph_at input k (Err r) (Err s) a b);
}
  where
    unlike : (x : CodeGraph) (r : ShapeError) → ◌≡◌ {A = Result CodeGraph ShapeError} (Ok x) (Err r)
        → ⊥
    unlike x r e = cc

    same_error : (r s : ShapeError) → ◌≡◌ {A = Result CodeGraph ShapeError} (Err r) (Err s) → r ≡ s
    same_error r s e = cc

module _ (input : SetWithCode) (graphs : List CodeGraph) (k : ℕ) where
  same_plan : (r s : Result CodeNest ShapeError) → RegionsAt input graphs k r
      → (b : RegionsAt input graphs k s)
      → (plan : TaskPlan) × (g : CodeGraph) × (slice_get graphs k ≡ Some g)
      × AreRegionsOrNot input k plan g r × AreRegionsOrNot input k plan g s
  same_plan r s a b =
      let plan = same_Some b.0 a.0 (sym b.2 ∙ a.2) in
      let g = same_Some b.1 a.1 (sym b.3 ∙ a.3) in (
        a.0,
        a.1,
        a.3,
        a.4,
        subst (λ x. AreRegionsOrNot input k a.0 x s) g
            (subst (λ x. AreRegionsOrNot input k x b.1 s) plan b.4),
      )

  regions_exclusive : (x : CodeNest) (r : ShapeError) → RegionsAt input graphs k (Ok x)
      → RegionsAt input graphs k (Err r) → ⊥
  regions_exclusive x r a b =
      let s = same_plan (Ok x) (Err r) a b in
      not_refused (graph_of s.1) (places_of s.1) s.0.loops (nest_of x) s.4.0 s.3.0 s.3.1 s.3.2
      (s.4.1, s.4.2)

  regions_one : (r t : ShapeError) → RegionsAt input graphs k (Err r)
      → RegionsAt input graphs k (Err t) → r ≡ t
  regions_one r t a b =
      let s = same_plan (Err r) (Err t) a b in
      s.3.3 ∙ ap (Loops (name_at input k))
      (one_loop_error (graph_of s.1) (places_of s.1) s.0.loops s.3.0 s.4.0 (s.3.1, s.3.2)
      (s.4.1, s.4.2)) ∙ sym s.4.3

  regions_once : IsRefusedOnce (RegionsAt input graphs k)
  regions_once = record { exclusive = regions_exclusive; one = regions_one }

-- the graphs of all tasks fail in one way
pub graphs_once : (input : SetWithCode) → IsRefusedOnce (GraphsOf input)
graphs_once input = each_once (GraphAt input) (graph_once input) (length input.set.tasks)

-- the graphs of all tasks are the same
pub graphs_same : (input : SetWithCode) (gs hs : List CodeGraph) → GraphsOf input (Ok gs)
    → GraphsOf input (Ok hs) → gs ≡ hs
graphs_same input gs hs a b =
    ext_get_or no_graph gs hs (a.0 ∙ sym b.0) (λ k l.
    let x = slice_get-get_or gs k no_graph l in
    let y = slice_get-get_or hs k no_graph (omega (arith, l, a.0, b.0)) in
    same_value (get_or gs k no_graph) (get_or hs k no_graph)
    (one_graph_at input k (Ok (get_or gs k no_graph)) (Ok (get_or hs k no_graph))
    (a.1 k (get_or gs k no_graph) x) (b.1 k (get_or hs k no_graph) y)))
  where
    same_value : (x y : CodeGraph) → ◌≡◌ {A = Result CodeGraph ShapeError} (Ok x) (Ok y) → x ≡ y
    same_value x y e = cc

-- two lists of regions of one list of graphs are alike
module _ (input : SetWithCode) (graphs : List CodeGraph) (ns ms : List CodeNest)
    (first : RegionsOf input graphs (Ok ns)) (second : RegionsOf input graphs (Ok ms)) where
  pub regions_same : AllAlike input.set ns ms
  regions_same k lt =
      let a = first.1 k (nest_at ns k)
      (slice_get-get_or ns k no_nest (omega (arith, lt, first.0))) in
      let b = second.1 k (nest_at ms k)
      (slice_get-get_or ms k no_nest (omega (arith, lt, second.0))) in
      let s = same_plan input graphs k (Ok (nest_at ns k)) (Ok (nest_at ms k)) a b in
      alike (graph_of s.1) (places_of s.1) s.0.loops s.3.0 (nest_of (nest_at ns k))
      (nest_of (nest_at ms k)) s.3.1 s.4.1

-- the graphs and the regions of a set's shapes
pub record AreShapes (input : SetWithCode) (x : SetWithShapes) : Type 0 where
  pub of : x.input ≡ input
  pub graphs : GraphsOf input (Ok x.graphs)
  pub regions : RegionsOf input x.graphs (Ok x.nests)

pub shapes_parts : (input : SetWithCode) (x : SetWithShapes) → ShapesOf input (Ok x)
    → AreShapes input x
shapes_parts input x (inl (graphs, found, inl (nests, regions, is))) =
    let same : record { input = input; graphs = graphs; nests = nests } ≡ x = ok_is _ x is in
    subst (AreShapes input) same (record {
      of = λ i. input;
      graphs = found;
      regions = regions;
    })
shapes_parts input x (inl (graphs, found, inr (error, stops, is))) = absurd (ok_not_err x error is)
shapes_parts input x (inr (error, stops, is)) = absurd (ok_not_err x error is)

-- a set's shapes fail in one way
pub shapes_once : (input : SetWithCode) → IsRefusedOnce (ShapesOf input)
shapes_once input =
    then_once (GraphsOf input)
    (λ graphs. Then (RegionsOf input graphs)
    (λ nests. Exactly (Ok (record { input = input; graphs = graphs; nests = nests }))))
    (graphs_once input) (graphs_same input)
    (λ graphs. value_once (RegionsOf input graphs)
    (λ nests. record { input = input; graphs = graphs; nests = nests })
    (each_once (RegionsAt input graphs) (regions_once input graphs) (length input.set.tasks)))
