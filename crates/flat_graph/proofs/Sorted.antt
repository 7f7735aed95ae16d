-- The points of a list in the order of numbering.
use Rattle.std.proofs.Common.{◌≡◌, ℕ, ◌<◌, ◌≤◌, Bool, false, List, length, Contains, get_or, refl}
use Rattle.std.proofs.Common.{sym, ap, ◌∙◌, subst, ⊎_elim, arith, All, AllPairs, is_lt, swap}
use Rattle.std.proofs.lemmas.Bool.{cases_eq, cases_order, false≢true}
use Rattle.std.proofs.lemmas.List.{length-map, get_or-map}
use Rattle.std.proofs.lemmas.List.Edits.{Swapped, swapped_from_swap, length-swap}
use Rattle.std.proofs.lemmas.List.Elements.{Contains-get_or}
use Rattle.std.proofs.lemmas.List.Sorted.{IsPermutation-keeps, IsPermutation-sym}
use Rattle.std.proofs.lemmas.List.Sorted.{Contains-permutation, length_permutation, ranks_by}
use Rattle.std.proofs.lemmas.List.Sorted.{sorted_far}
use Rattle.std.specs.declared.cmp.Ordering.{Ordering}
use Rattle.std.specs.declared.cmp.Ordering.TheVariants.{Less, Equal, Greater}
use Rattle.std.specs.Ordering.{ordering_reverse}
use Rattle.std.specs.List.Sorted.{IsPermutation, IsSortedBy}
use Rattle.std.specs.BTreeMap.{BTreeMap}
use Rattle.crpd_base.proofs.Elements.{contains_map, contains_mapped}
use Rattle.rv_decode.specs.Flow.{Flows}
use Rattle.flat_graph.specs.Inner.NumberingOrder.{flat_cmp}
use Rattle.flat_graph.specs.FlatGraph.{FlatNode, IsNumberedBefore, IsNode, IsNumbering}
use Rattle.flat_graph.specs.FlatGraph.{HasMoreNodes}
use Rattle.flat_graph.specs.Inner.Reach.{AreNumbered, AreDistinct, HaveLists, IsExplored}
use Rattle.flat_graph.specs.Inner.Points.{point_node, point_nodes}
use Rattle.flat_graph.specs.declared.points.ProgramPoint.{ProgramPoint}
use Rattle.flat_graph.proofs.Order.{flat_less, flat_equal, flat_order}
use Rattle.flat_graph.proofs.Explored.{explored_all}
use Rattle.flat_graph.proofs.Listed.{one_point}

-- no point is at two places
abbrev Apart : List ProgramPoint → Type 0
Apart l =
    (i j : ℕ) (d : ProgramPoint) → i < length l → j < length l → (i ≡ j → ⊥)
    → get_or l i d ≡ get_or l j d → ⊥

apart_pairs : (l : List ProgramPoint) → AllPairs (λ s t. s ≡ t → ⊥) l → Apart l
apart_pairs l h i j d i_lt j_lt ne e =
    ⊎_elim
    (λ same. ne same)
    (λ o. ⊎_elim (λ lt. h i j d lt j_lt e) (λ gt. h j i d gt i_lt (sym e)) o)
    (cases_order i j)

swapped : (l : List ProgramPoint) (a b : ℕ) → a < length l → b < length l → Apart l
    → Apart (swap l a b)
swapped l a b a_lt b_lt H i j d i_lt j_lt ne e =
    ⊎_elim
    (λ ia. ⊎_elim
    (λ ja. ne (ia ∙ sym ja))
    (λ nja. ⊎_elim
    (λ jb. H b a d b_lt a_lt (λ h. nja (jb ∙ h)) (sym (at_a i ia) ∙ e ∙ at_b j jb))
    (λ njb. H b j d b_lt jl (λ h. njb (sym h)) (sym (at_a i ia) ∙ e ∙ s.2 j nja njb))
    (cases_eq j b))
    (cases_eq j a))
    (λ nia. ⊎_elim
    (λ ib. ⊎_elim
    (λ ja. H a b d a_lt b_lt (λ h. nia (ib ∙ sym h)) (sym (at_b i ib) ∙ e ∙ at_a j ja))
    (λ nja. ⊎_elim
    (λ jb. ne (ib ∙ sym jb))
    (λ njb. H a j d a_lt jl (λ h. nja (sym h)) (sym (at_b i ib) ∙ e ∙ s.2 j nja njb))
    (cases_eq j b))
    (cases_eq j a))
    (λ nib. ⊎_elim
    (λ ja. H i b d il b_lt nib (sym (s.2 i nia nib) ∙ e ∙ at_a j ja))
    (λ nja. ⊎_elim
    (λ jb. H i a d il a_lt nia (sym (s.2 i nia nib) ∙ e ∙ at_b j jb))
    (λ njb. H i j d il jl ne (sym (s.2 i nia nib) ∙ e ∙ s.2 j nja njb))
    (cases_eq j b))
    (cases_eq j a))
    (cases_eq i b))
    (cases_eq i a)
  where
    il : i < length l
    il = subst (λ n. i < n) (length-swap l a b) i_lt

    jl : j < length l
    jl = subst (λ n. j < n) (length-swap l a b) j_lt

    s : Swapped (λ m. get_or l m d) (λ m. get_or (swap l a b) m d) a b
    s = swapped_from_swap l (swap l a b) a b d a_lt b_lt refl

    at_a : (m : ℕ) → m ≡ a → get_or (swap l a b) m d ≡ get_or l b d
    at_a m h = ap (λ k. get_or (swap l a b) k d) h ∙ s.0

    at_b : (m : ℕ) → m ≡ b → get_or (swap l a b) m d ≡ get_or l a d
    at_b m h = ap (λ k. get_or (swap l a b) k d) h ∙ s.1

moved : (xs ys : List ProgramPoint) → AllPairs (λ s t. s ≡ t → ⊥) xs → IsPermutation xs ys
    → Apart ys
moved xs ys h p = IsPermutation-keeps xs Apart (apart_pairs xs h) swapped ys p

abbrev pub below : List (List ℕ) → ProgramPoint → ProgramPoint → Bool
below lists s t = is_lt (flat_cmp (point_node lists s) (point_node lists t))

not_below : (o : Ordering) (n m : FlatNode) → flat_cmp m n ≡ o → is_lt o ≡ false → (n ≡ m → ⊥)
    → IsNumberedBefore n m
not_below Less n m e h ne = absurd (false≢true (sym h))
not_below Equal n m e h ne = absurd (ne (sym (flat_equal m n e)))
not_below Greater n m e h ne = flat_less n m (flat_order.antisymm n m ∙ ap ordering_reverse e)

module _ (m : BTreeMap (List ℕ) ℕ) (lists : List (List ℕ)) (list points : List ProgramPoint)
    (N : AreNumbered m lists) (I : HaveLists lists list) (D : AreDistinct list)
    (P : IsPermutation list points) (sorted : IsSortedBy (below lists) points) where
  inside_of : (s : ProgramPoint) → Contains list s → s.context < length lists
  inside_of s (k, lt, e) = subst (λ (t : ProgramPoint). t.context < length lists) e (I k s lt)

  into : (s : ProgramPoint) → Contains list s → Contains points s
  into s c = Contains-permutation list points s P c

  from : (s : ProgramPoint) → Contains points s → Contains list s
  from s c = Contains-permutation points list s (IsPermutation-sym list points P) c

  pub count : length points ≡ length list
  count = length_permutation list points P

  -- each point has a list of calls
  pub points_inside : HaveLists lists points
  points_inside k d lt = inside_of _ (from _ (Contains-get_or points k d lt))

  before : (i j : ℕ) (d : ProgramPoint) → i < j → j < length points
      → IsNumberedBefore (point_node lists (get_or points i d))
      (point_node lists (get_or points j d))
  before i j d lt within =
      let s = get_or points i d in
      let t = get_or points j d in
      not_below (flat_cmp (point_node lists t) (point_node lists s)) (point_node lists s)
      (point_node lists t) refl
      (sorted_far (below lists) (ranks_by flat_order (point_node lists)) points sorted i j d
      (omega arith) within)
      (λ e. moved list points D P i j d (omega arith) within (λ h. absurd (omega arith))
      (one_point m lists N s t (points_inside i d (omega arith)) (points_inside j d within) e))

  ordered : AllPairs IsNumberedBefore (point_nodes lists points)
  ordered i j d lt within =
      let e : ProgramPoint = record { context = 0; address = 0 } in
      let j_lt : j < length points = subst (λ l. j < l)
      (length-map points (point_node lists)) within in
      subst (λ n. IsNumberedBefore n (get_or (point_nodes lists points) j d))
      (sym (get_or-map (point_node lists) points i e d (omega arith)))
      (subst (λ n. IsNumberedBefore (point_node lists (get_or points i e)) n)
      (sym (get_or-map (point_node lists) points j e d j_lt))
      (before i j e lt j_lt))

  into_nodes : (n : FlatNode) → Contains (point_nodes lists list) n
      → Contains (point_nodes lists points) n
  into_nodes n c =
      let s = contains_mapped (point_node lists) list n c in
      subst (Contains (point_nodes lists points)) s.2
      (contains_map (point_node lists) points s.0 (into s.0 s.1))

  from_nodes : (n : FlatNode) → Contains (point_nodes lists points) n
      → Contains (point_nodes lists list) n
  from_nodes n c =
      let s = contains_mapped (point_node lists) points n c in
      subst (Contains (point_nodes lists list)) s.2
      (contains_map (point_node lists) list s.0 (from s.0 s.1))

  pub numbered_points : (code : Flows) (entry place : ℕ)
      → IsExplored code entry place (point_nodes lists list) → length list ≤ place
      → IsNumbering code entry (point_nodes lists points)
  numbered_points code entry place E le = record {
    ordered = ordered;
    all = λ n. (
      λ h. into_nodes n
          (explored_all code entry place (point_nodes lists list) E
          (subst (λ l. l ≤ place) (sym (length-map list (point_node lists))) le) n h),
      λ c. E.all n (from_nodes n c),
    );
  }

  pub more_points : (code : Flows) (entry place limit : ℕ)
      → IsExplored code entry place (point_nodes lists list) → limit < length points
      → HasMoreNodes code entry limit
  more_points code entry place limit E lt = (
    point_nodes lists points,
    ordered,
    all_nodes,
    subst (λ l. limit < l) (sym (length-map points (point_node lists))) lt,
  )
    where
      all_nodes : All (IsNode code entry) (point_nodes lists points)
      all_nodes k d within =
          E.all _ (from_nodes _ (Contains-get_or (point_nodes lists points) k d within))
