-- Every set with its code has graphs and regions, or is refused.
use Rattle.std.proofs.Common.{◌≡◌, ℕ, zero, suc, ◌<◌, List, [], ◌∷◌, ◌++◌, length, Result, Ok, Err}
use Rattle.std.proofs.Common.{slice_get, Some, refl, sym, ◌∙◌, subst, inl, inr, arith}
use Rattle.std.proofs.lemmas.List.{length_push}
use Rattle.std.proofs.lemmas.Option.{slice_get_within}
use Rattle.crpd_base.proofs.Elements.{at_more, some_at}
use Rattle.crpd_base.specs.declared.data.TaskPlan.{TaskPlan}
use Rattle.code_map.specs.Words.{word_at}
use Rattle.flat_graph.specs.CodeGraph.{CodeGraph, graph_of, places_of}
use Rattle.flat_graph.specs.declared.error.GraphError.{GraphError}
use Rattle.flat_graph.proofs.CodeGraphs.{code_follows}
use Rattle.loop_regions.specs.CodeNest.{CodeNest}
use Rattle.loop_regions.specs.declared.error.LoopError.{LoopError}
use Rattle.task_shapes.specs.Graphs.{GraphAt, GraphsOf, RegionsAt, RegionsOf}
use Rattle.task_shapes.specs.Inputs.{IsInput, SetWithCode, name_at}
use Rattle.task_shapes.specs.Shapes.{ShapesOf}
use Rattle.task_shapes.specs.Steps.{EachBelow, Exactly, Then}
use Rattle.task_shapes.specs.declared.error.ShapeError.{ShapeError}
use Rattle.task_shapes.specs.declared.error.ShapeError.TheVariants.{Graph, Loops}
use Rattle.task_shapes.specs.ShapesEnds.{GraphsExist, ShapesExist}
use Rattle.crpd_base.proofs.Classical.{NotNot, mapped, unrefuted, ◌>>=◌}
use Rattle.flat_graph.specs.GraphEnds.{IsGraphEnd}
use Rattle.flat_graph.proofs.SomeGraph.{a_graph_exists}
use Rattle.loop_regions.specs.RegionsEnds.{IsRegionsEnd}
use Rattle.loop_regions.proofs.SomeRegions.{regions_exist}

-- it cannot be refuted that a step has an end
abbrev pub HasEnd : {A E : Type 0} → (Result A E → Type 0) → Type 0
HasEnd {A} {E} P = NotNot ((r : Result A E) × P r)

-- steps that end, one for each number below a bound
module _ {B E : Type 0} (P : ℕ → Result B E → Type 0) where
  one_more : (n : ℕ) (ys : List B) → EachBelow P n (Ok ys) → (r : Result B E) → P n r
      → (s : Result (List B) E) × EachBelow P (suc n) s
  one_more n ys f (Err e) h = (
    Err e,
    (
      n,
      omega arith,
      h,
      λ j lt. let y = some_at ys j (omega (arith, f.0, lt)) in (y.0, f.1 j y.0 y.1),
    ),
  )
  one_more n ys f (Ok y) h = (
    Ok (ys ++ y ∷ []),
    (
      (let e = length_push ys y in omega (arith, e, f.0)),
      λ k z e. elim (at_more ys y k z e) [
        | inl old ↦ f.1 k z old
        | inr last ↦
            subst (λ i. P i (Ok z)) (sym (last.0 ∙ f.0)) (subst (λ x. P n (Ok x)) last.1 h)
      ],
    ),
  )

  more : (n : ℕ) → HasEnd (P n) → (r : Result (List B) E) → EachBelow P n r
      → HasEnd (EachBelow P (suc n))
  more n each (Err e) f = unrefuted (Err e, (f.0, omega (arith, f.1), f.2, f.3))
  more n each (Ok ys) f =
      mapped (λ (r : (r : Result B E) × P n r). one_more n ys f r.0 r.1) each

  pub each_ends : (n : ℕ) → ((k : ℕ) → k < n → HasEnd (P k)) → HasEnd (EachBelow P n)
  each_ends zero each = unrefuted (
    Ok [],
    (
      refl,
      λ k y e. absurd (let w = slice_get_within [] k y e in omega arith),
    ),
  )
  each_ends (suc n) each =
      each_ends n (λ k lt. each k (omega arith))
      >>= (λ (f : (r : Result (List B) E) × EachBelow P n r). more n (each n (omega arith)) f.0 f.1)

-- one step after another
module _ {A B E : Type 0} (P : Result A E → Type 0) (next : A → Result B E → Type 0) where
  after : ((x : A) → P (Ok x) → HasEnd (next x)) → (r : Result A E) → P r → HasEnd (Then P next)
  after later (Ok x) h =
      mapped (λ (s : (s : Result B E) × next x s). (s.0, inl (x, h, s.1))) (later x h)
  after later (Err e) h = unrefuted (Err e, inr (e, h, refl))

  pub then_ends : HasEnd P → ((x : A) → P (Ok x) → HasEnd (next x)) → HasEnd (Then P next)
  then_ends given later = given >>= (λ (r : (r : Result A E) × P r). after later r.0 r.1)

pub exactly_ends : {A E : Type 0} (meant : Result A E) → HasEnd (Exactly meant)
exactly_ends meant = unrefuted (meant, refl)

-- ---- graphs and regions

module _ (input : SetWithCode) (I : IsInput input) where
  planned : (k : ℕ) → k < length input.set.tasks
      → (plan : TaskPlan) × (slice_get input.code.plans k ≡ Some plan)
  planned k lt = some_at input.code.plans k (let e = I.plans in omega (arith, e, lt))

  graph_at : (k : ℕ) → k < length input.set.tasks → HasEnd (GraphAt input k)
  graph_at k lt = λ none.
      a_graph_exists (word_at input.code.images) (planned k lt).0.entry (by none)
    where
      by : ((r : Result CodeGraph ShapeError) × GraphAt input k r → ⊥)
          → (r : Result CodeGraph GraphError)
          → IsGraphEnd (word_at input.code.images) (planned k lt).0.entry r → ⊥
      by none (Ok g) end = none (Ok g, ((planned k lt).0, (planned k lt).1, end))
      by none (Err e) end =
          none (
            Err (Graph (name_at input k) e),
            ((planned k lt).0, (planned k lt).1, (e, end.0, end.1, refl)),
          )

  pub graphs_end : HasEnd (GraphsOf input)
  graphs_end = each_ends (GraphAt input) (length input.set.tasks) graph_at

  module _ (graphs : List CodeGraph) (G : GraphsOf input (Ok graphs)) where
    regions_at : (k : ℕ) → k < length input.set.tasks → HasEnd (RegionsAt input graphs k)
    regions_at k lt = λ none.
        let g = some_at graphs k (omega (arith, G.0, lt)) in
        let C = G.1 k g.0 g.1 in
        regions_exist (graph_of g.0) (places_of g.0) (planned k lt).0.loops
        (code_follows (word_at input.code.images) C.0.entry g.0 C.2.0).graph
        (by none g.0 g.1)
      where
        by : ((r : Result CodeNest ShapeError) × RegionsAt input graphs k r → ⊥)
            → (g : CodeGraph) → slice_get graphs k ≡ Some g → (r : Result CodeNest LoopError)
            → IsRegionsEnd (graph_of g) (places_of g) (planned k lt).0.loops r → ⊥
        by none g at (Ok n) end =
            none (Ok n, ((planned k lt).0, g, (planned k lt).1, at, end))
        by none g at (Err e) end =
            none (
              Err (Loops (name_at input k) e),
              ((planned k lt).0, g, (planned k lt).1, at, (e, end.0, end.1, refl)),
            )

    regions_end : HasEnd (RegionsOf input graphs)
    regions_end = each_ends (RegionsAt input graphs) (length input.set.tasks) regions_at

  pub shapes_end : HasEnd (ShapesOf input)
  shapes_end =
      then_ends (GraphsOf input)
      (λ graphs. Then (RegionsOf input graphs) (λ nests.
      Exactly (Ok (record { input = input; graphs = graphs; nests = nests }))))
      graphs_end
      (λ graphs G. then_ends (RegionsOf input graphs)
      (λ nests. Exactly (Ok (record { input = input; graphs = graphs; nests = nests })))
      (regions_end graphs G)
      (λ nests N. exactly_ends (Ok (record { input = input; graphs = graphs; nests = nests }))))

pub graphs_exist : GraphsExist
graphs_exist input I none = graphs_end input I (λ r. none r.0 r.1)

pub shapes_exist : ShapesExist
shapes_exist input I none = shapes_end input I (λ r. none r.0 r.1)
