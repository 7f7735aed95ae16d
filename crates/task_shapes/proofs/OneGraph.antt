-- A task has at most one flat graph, and either a graph or one error.
use Rattle.std.proofs.Common.{◌≡◌, ◌≢◌, ℕ, zero, suc, ◌<◌, ◌≤◌, List, [], ◌∷◌, Some}
use Rattle.std.proofs.Common.{Result, Ok, Err, length, refl, sym, ap, ◌∙◌, subst, inl, inr, arith}
use Rattle.std.specs.Prelude.{AllPairs, Contains, map, slice_get}
use Rattle.std.specs.declared.cmp.Ordering.{Ordering}
use Rattle.std.specs.declared.cmp.Ordering.TheVariants.{Less, Equal, Greater}
use Rattle.std.specs.Ordering.{ordering_reverse}
use Rattle.std.proofs.lemmas.List.{ext_get_or}
use Rattle.std.proofs.lemmas.List.Elements.{All-contains}
use Rattle.flat_graph.proofs.SameCode.{some_word}
use Rattle.crpd_base.proofs.Elements.{at_head, at_rest, head_or_rest, in_none, at_contains, some_at}
use Rattle.crpd_base.proofs.Elements.{pairs_head, pairs_tail, same_places}
use Rattle.crpd_base.proofs.Options.{not_none, some_injective}
use Rattle.crpd_base.specs.declared.data.TaskPlan.{TaskPlan}
use Rattle.rv_decode.specs.Flow.{Flows, Words, flows}
use Rattle.rv_decode.specs.Table.{ins_of_word}
use Rattle.code_map.specs.Words.{word_at}
use Rattle.flat_graph.specs.CodeGraph.{CodeGraph, IsCodeGraph, graph_of, no_node, node_of}
use Rattle.flat_graph.specs.CodeGraph.{places_of}
use Rattle.flat_graph.specs.Numbered.{ArePlaces, IsFlatGraph}
use Rattle.flat_graph.specs.FlatGraph.{FlatNode, NodeError, IsNode, IsNumberedBefore, IsNumbering}
use Rattle.flat_graph.specs.FlatGraph.{IsGraphRefused, GraphRefusal, TooManyNodes, AtNode}
use Rattle.flat_graph.specs.FlatGraph.{error_of, successors}
use Rattle.flat_graph.specs.FlatGraph as flat
use Rattle.flat_graph.specs.GraphErrors.{IsGraphError}
use Rattle.flat_graph.specs.Inner.GraphErrors.{graph_error}
use Rattle.flat_graph.specs.Inner.NumberingOrder.{flat_cmp}
use Rattle.flat_graph.specs.declared.error.GraphError.{GraphError}
use Rattle.flat_graph.specs.declared.error.GraphError.TheVariants as graph
use Rattle.task_shapes.specs.declared.error.ShapeError.{ShapeError}
use Rattle.task_shapes.specs.declared.error.ShapeError.TheVariants.{Graph}
use Rattle.task_shapes.specs.Inputs.{SetWithCode, name_at}
use Rattle.task_shapes.specs.Graphs.{GraphAt, IsGraphOrNot}
use Rattle.flat_graph.proofs.Order.{before_one_way, flat_equal, flat_less, not_before_same}
use Rattle.flat_graph.proofs.Order.{flat_order}

-- ---- lists of nodes in order

abbrev Has : List FlatNode → List FlatNode → Type 0
Has xs ys = (n : FlatNode) → Contains xs n → Contains ys n

-- the first of a list is before all others
not_later : (x y : FlatNode) (xs ys : List FlatNode) → AllPairs IsNumberedBefore (x ∷ xs)
    → AllPairs IsNumberedBefore (y ∷ ys) → Contains (y ∷ ys) x → Contains (x ∷ xs) y → x ≡ y
not_later x y xs ys first second to back =
    elim (head_or_rest ys x y to) [
      | inl e ↦ sym e
      | inr later ↦ elim (head_or_rest xs y x back) [
        | inl e ↦ e
        | inr after ↦
            absurd (before_one_way x y
            (All-contains (IsNumberedBefore x) xs y (pairs_head IsNumberedBefore x xs first) after)
            (All-contains (IsNumberedBefore y) ys x
            (pairs_head IsNumberedBefore y ys second) later))
      ]
    ]

rest_has : (x y : FlatNode) (xs ys : List FlatNode) → x ≡ y → AllPairs IsNumberedBefore (x ∷ xs)
    → Has (x ∷ xs) (y ∷ ys) → Has xs ys
rest_has x y xs ys same first to = λ n in_rest.
    elim (head_or_rest ys n y (to n (at_rest xs n x in_rest))) [
      | inr later ↦ later
      | inl e ↦
          absurd (not_before_same x n (same ∙ e)
          (All-contains (IsNumberedBefore x) xs n (pairs_head IsNumberedBefore x xs first) in_rest))
    ]

one_order : (xs ys : List FlatNode) → AllPairs IsNumberedBefore xs → AllPairs IsNumberedBefore ys
    → Has xs ys → Has ys xs → xs ≡ ys
one_order [] [] first second to back = refl
one_order [] (y ∷ ys) first second to back = absurd (in_none y (back y (at_head ys y y refl)))
one_order (x ∷ xs) [] first second to back = absurd (in_none x (to x (at_head xs x x refl)))
one_order (x ∷ xs) (y ∷ ys) first second to back =
    let e = not_later x y xs ys first second (to x (at_head xs x x refl))
    (back y (at_head ys y y refl)) in
    let rest = one_order xs ys (pairs_tail IsNumberedBefore x xs first)
    (pairs_tail IsNumberedBefore y ys second) (rest_has x y xs ys e first to)
    (rest_has y x ys xs (sym e) second back) in
    ap (λ n. n ∷ xs) e ∙ ap (λ l. y ∷ l) rest

one_numbering : (code : Flows) (entry : ℕ) (xs ys : List FlatNode) → IsNumbering code entry xs
    → IsNumbering code entry ys → xs ≡ ys
one_numbering code entry xs ys X Y =
    one_order xs ys X.ordered Y.ordered (λ n h. (Y.all n).0 ((X.all n).1 h))
    (λ n h. (X.all n).0 ((Y.all n).1 h))

-- at most as many, if all are members
fewer : (xs ys : List FlatNode) → AllPairs IsNumberedBefore xs → AllPairs IsNumberedBefore ys
    → Has xs ys → length xs ≤ length ys
fewer [] ys first second to = omega arith
fewer (x ∷ xs) [] first second to = absurd (in_none x (to x (at_head xs x x refl)))
fewer (x ∷ xs) (y ∷ ys) first second to =
    elim (head_or_rest ys x y (to x (at_head xs x x refl))) [
      | inl e ↦ let r =
          fewer xs ys (pairs_tail IsNumberedBefore x xs first)
          (pairs_tail IsNumberedBefore y ys second) (rest_has x y xs ys (sym e) first to) in
          omega (arith, r)
      | inr later ↦
          let behind : IsNumberedBefore y x =
          All-contains (IsNumberedBefore y) ys x (pairs_head IsNumberedBefore y ys second) later in
          let rest : Has (x ∷ xs) ys = λ n in_first.
          elim (head_or_rest ys n y (to n in_first)) [
            | inr there ↦ there
            | inl e ↦ elim (head_or_rest xs n x in_first) [
              | inl same ↦ absurd (not_before_same y x (e ∙ sym same) behind)
              | inr after ↦
                  absurd (before_one_way x y
                  (subst (λ m. IsNumberedBefore x m) (sym e)
                  (All-contains (IsNumberedBefore x) xs n (pairs_head IsNumberedBefore x xs first)
                  after)) behind)
            ]
          ] in
          let r = fewer (x ∷ xs) ys first (pairs_tail IsNumberedBefore y ys second) rest in
          omega (arith, r)
    ]

-- a place for each node
one_place : (xs : List FlatNode) (i j : ℕ) (n : FlatNode) → AllPairs IsNumberedBefore xs
    → slice_get xs i ≡ Some n → slice_get xs j ≡ Some n → i ≡ j
one_place [] i j n h a b = absurd cc
one_place (x ∷ xs) zero zero n h a b = refl
one_place (x ∷ xs) zero (suc j) n h a b =
    let e : x ≡ n = cc in
    absurd (not_before_same x n e
    (All-contains (IsNumberedBefore x) xs n (pairs_head IsNumberedBefore x xs h)
    (at_contains xs j n b)))
one_place (x ∷ xs) (suc i) zero n h a b =
    let e : x ≡ n = cc in
    absurd (not_before_same x n e
    (All-contains (IsNumberedBefore x) xs n (pairs_head IsNumberedBefore x xs h)
    (at_contains xs i n a)))
one_place (x ∷ xs) (suc i) (suc j) n h a b =
    ap suc (one_place xs i j n (pairs_tail IsNumberedBefore x xs h) a b)

one_row : (xs : List FlatNode) (is js : List ℕ) (ns : List FlatNode) → AllPairs IsNumberedBefore xs
    → map (slice_get xs) is ≡ map Some ns → map (slice_get xs) js ≡ map Some ns → is ≡ js
one_row xs is js ns h = same_places (slice_get xs) (slice_get xs)
    (λ i j n. one_place xs i j n h) is js ns

-- ---- graphs

module _ (words : Words) (entry : ℕ) (g h : CodeGraph) (X : IsCodeGraph words entry g)
    (Y : IsCodeGraph words entry h) where
  same_nodes : X.nodes ≡ Y.nodes
  same_nodes = one_numbering (flows words) entry X.nodes Y.nodes X.flat.numbering Y.flat.numbering

  other_flat : IsFlatGraph (flows words) entry X.nodes (graph_of h)
  other_flat = subst (λ ns. IsFlatGraph (flows words) entry ns (graph_of h)) (sym same_nodes) Y.flat

  other_places : ArePlaces X.nodes (places_of h)
  other_places = subst (λ ns. ArePlaces ns (places_of h)) (sym same_nodes) Y.places

  same_ins : (u w : ℕ) → ins_of_word w ≡ Some (node_of g u).ins
      → ins_of_word w ≡ Some (node_of h u).ins → (node_of g u).ins ≡ (node_of h u).ins
  same_ins u w a b = cc

  same_node : (u : ℕ) → u < length g.nodes → node_of g u ≡ node_of h u
  same_node u l =
      let there : u < length X.nodes = omega (arith, X.flat.size, l) in
      let other : u < length h.nodes = omega (arith, other_flat.size, there) in
      let n = some_at X.nodes u there in
      let p = X.places.node u n.0 n.1 in
      let q = other_places.node u n.0 n.1 in
      let next = one_row X.nodes (node_of g u).next (node_of h u).next
      (successors (flows words) entry n.0) X.flat.numbering.ordered (X.flat.next u n.0 n.1)
      (other_flat.next u n.0 n.1) in
      let w = some_word words entry n.0
      (X.no_errors n.0 ((X.flat.numbering.all n.0).1 (at_contains X.nodes u n.0 n.1))) in
      let ins = same_ins u w.0 (X.instructions u w.0 l (ap words p.1 ∙ w.1))
      (Y.instructions u w.0 other (ap words q.1 ∙ w.1)) in
      let context = p.0 ∙ sym q.0 in
      let address = p.1 ∙ sym q.1 in
      λ i. record { context = context i; address = address i; ins = ins i; next = next i }

  one_graph : g ≡ h
  one_graph =
      let count : length g.nodes ≡ length h.nodes = X.flat.size ∙ sym other_flat.size in
      let nodes = ext_get_or no_node g.nodes h.nodes count same_node in
      let first = one_place X.nodes g.first h.first _ X.flat.numbering.ordered X.flat.first
      other_flat.first in
      λ i. record { nodes = nodes i; first = first i }

-- ---- refusals

-- a graph is not refused
not_both : (words : Words) (entry : ℕ) (g : CodeGraph) (f : GraphRefusal)
    → IsCodeGraph words entry g → length g.nodes ≤ 16384
    → IsGraphRefused (flows words) entry 16384 f → ⊥
not_both words entry g TooManyNodes X few more =
    let le = fewer more.0 X.nodes more.1 X.flat.numbering.ordered
    (λ n c. (X.flat.numbering.all n).0
    (All-contains (IsNode (flows words) entry) more.0 n more.2 c)) in
    absurd (omega (arith, le, X.flat.size, few, more.3))
not_both words entry g (AtNode e a) X few at =
    not_none (error_of (flows words) entry at.1) e (X.no_errors at.1 at.2) at.3

neither_before : (n m : FlatNode) → (IsNumberedBefore n m → ⊥) → (IsNumberedBefore m n → ⊥) → n ≡ m
neither_before n m one other = by_order (flat_cmp n m) refl
  where
    by_order : (o : Ordering) → flat_cmp n m ≡ o → n ≡ m
    by_order Less e = absurd (one (flat_less n m e))
    by_order Equal e = flat_equal n m e
    by_order Greater e =
        absurd (other (flat_less m n (flat_order.antisymm m n ∙ ap ordering_reverse e)))

same_error : (code : Flows) (entry : ℕ) (n m : FlatNode) (e d : NodeError) (a b : ℕ) → n ≡ m
    → error_of code entry n ≡ Some e → error_of code entry m ≡ Some d → n.address ≡ a
    → m.address ≡ b → ◌≡◌ {A = GraphRefusal} (AtNode e a) (AtNode d b)
same_error code entry n m e d a b same f h i j =
    let again : error_of code entry n ≡ Some d = ap (error_of code entry) same ∙ h in
    let error : e ≡ d = cc in
    let address : a ≡ b = sym i ∙ ap (λ (x : FlatNode). x.address) same ∙ j in
    cc

-- a graph has one refusal
one_refusal : (code : Flows) (entry : ℕ) (f h : GraphRefusal) → IsGraphRefused code entry 16384 f
    → IsGraphRefused code entry 16384 h → f ≡ h
one_refusal code entry TooManyNodes TooManyNodes x y = refl
one_refusal code entry TooManyNodes (AtNode e a) x y = absurd (y.0 x)
one_refusal code entry (AtNode e a) TooManyNodes x y = absurd (x.0 y)
one_refusal code entry (AtNode e a) (AtNode d b) x y =
    same_error code entry x.1 y.1 e d a b
    (neither_before x.1 y.1 (λ before. y.5 x.1 e x.2 x.3 before)
    (λ before. x.5 y.1 d y.2 y.3 before))
    x.3 y.3 x.4 y.4

-- the error that represents a refusal
abbrev error_for : ℕ → GraphRefusal → GraphError
error_for entry TooManyNodes = graph.TooManyNodes entry
error_for entry (AtNode e a) = graph_error e a

abbrev Meant : Flows → ℕ → GraphError → Type 0
Meant code entry e =
    (f : GraphRefusal) × IsGraphRefused code entry 16384 f × (e ≡ error_for entry f)

meant : (code : Flows) (entry : ℕ) (e : GraphError) → e ≢ graph.Memory → IsGraphError code entry e
    → Meant code entry e
meant code entry graph.Memory not_memory x = absurd (not_memory refl)
meant code entry (graph.TooManyNodes a) not_memory x =
    (TooManyNodes, x.1, ap (λ n. graph.TooManyNodes n) x.0)
meant code entry (graph.Misaligned a) not_memory x = (AtNode flat.Misaligned a, x, refl)
meant code entry (graph.OutsideCode a) not_memory x = (AtNode flat.OutsideCode a, x, refl)
meant code entry (graph.Undecodable a) not_memory x = (AtNode flat.Undecodable a, x, refl)
meant code entry (graph.Breakpoint a) not_memory x = (AtNode flat.Breakpoint a, x, refl)
meant code entry (graph.IndirectJump a) not_memory x = (AtNode flat.IndirectJump a, x, refl)
meant code entry (graph.OtherLink a) not_memory x = (AtNode flat.OtherLink a, x, refl)
meant code entry (graph.Recursive a) not_memory x = (AtNode flat.Recursive a, x, refl)
meant code entry (graph.TooDeep a) not_memory x = (AtNode flat.TooDeep a, x, refl)

one_error : (code : Flows) (entry : ℕ) (e d : GraphError) → Meant code entry e
    → Meant code entry d → e ≡ d
one_error code entry e d x y =
    x.2 ∙ ap (error_for entry) (one_refusal code entry x.0 y.0 x.1 y.1) ∙ sym y.2

-- ---- the step of a task

module _ (input : SetWithCode) (k : ℕ) (plan : TaskPlan) where
  one_ending : (r s : Result CodeGraph ShapeError) → IsGraphOrNot input k plan r
      → IsGraphOrNot input k plan s → r ≡ s
  one_ending (Ok g) (Ok h) x y =
      ap Ok (one_graph (word_at input.code.images) plan.entry g h x.0 y.0)
  one_ending (Ok g) (Err s) x y =
      let m = meant (flows (word_at input.code.images)) plan.entry y.0 y.1 y.2 in
      absurd (not_both (word_at input.code.images) plan.entry g m.0 x.0 x.1 m.1)
  one_ending (Err r) (Ok h) x y =
      let m = meant (flows (word_at input.code.images)) plan.entry x.0 x.1 x.2 in
      absurd (not_both (word_at input.code.images) plan.entry h m.0 y.0 y.1 m.1)
  one_ending (Err r) (Err s) x y =
      let m = meant (flows (word_at input.code.images)) plan.entry x.0 x.1 x.2 in
      let n = meant (flows (word_at input.code.images)) plan.entry y.0 y.1 y.2 in
      ap (λ e. Err e)
      (x.3 ∙ ap (Graph (name_at input k))
      (one_error (flows (word_at input.code.images)) plan.entry x.0 y.0 m n) ∙ sym y.3)

pub one_graph_at : (input : SetWithCode) (k : ℕ) (r s : Result CodeGraph ShapeError)
    → GraphAt input k r → GraphAt input k s → r ≡ s
one_graph_at input k r s x y =
    let same : x.0 ≡ y.0 = some_injective (sym x.1 ∙ y.1) in
    one_ending input k x.0 r s x.2 (subst (λ p. IsGraphOrNot input k p s) (sym same) y.2)
