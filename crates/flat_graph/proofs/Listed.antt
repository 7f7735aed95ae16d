-- Lists of calls and their numbers.
use Rattle.std.proofs.Common.{◌≡◌, ℕ, suc, ◌<◌, Bool, true, false, List, [], ◌∷◌, ◌++◌, length}
use Rattle.std.proofs.Common.{cond, Some, None, slice_get, refl, sym, ap, ◌∙◌, subst, ⊎_elim, arith}
use Rattle.std.proofs.Common.{All, is_eq}
use Rattle.std.proofs.lemmas.Bool.{false≢true}
use Rattle.std.proofs.lemmas.Option.{slice_get_within, get_or_from_slice_get}
use Rattle.std.specs.declared.cmp.Ordering.{Ordering}
use Rattle.std.specs.declared.cmp.Ordering.TheVariants.{Less, Equal, Greater}
use Rattle.std.specs.BTreeMap.{BTreeMap, get, is_at}
use Rattle.crpd_base.proofs.Elements.{slice_get_left, some_at, at_more, at_end}
use Rattle.flat_graph.specs.Inner.NumberingOrder.{list_cmp}
use Rattle.flat_graph.specs.FlatGraph.{FlatNode}
use Rattle.flat_graph.specs.Inner.Reach.{AreNumbered, ExtendsLists, HaveLists}
use Rattle.flat_graph.specs.Inner.Points.{point_node, point_nodes}
use Rattle.flat_graph.specs.declared.points.ProgramPoint.{ProgramPoint}
use Rattle.flat_graph.proofs.Order.{list_equal, list_same}

pub more_pushed : (lists : List (List ℕ)) (c : List ℕ) → ExtendsLists lists (lists ++ c ∷ [])
more_pushed lists c n d e = slice_get_left lists (c ∷ []) n (slice_get_within lists n d e) ∙ e

equal_at : (o : Ordering) → is_eq o ≡ true → o ≡ Equal
equal_at Less h = absurd (false≢true h)
equal_at Equal h = refl
equal_at Greater h = absurd (false≢true h)

module _ (m m' : BTreeMap (List ℕ) ℕ) (lists : List (List ℕ)) (c : List ℕ) (N : AreNumbered m lists)
    (unmet : get list_cmp m c ≡ None)
    (updated : (q : List ℕ) → get list_cmp m' q
    ≡ cond (is_at (list_cmp c) q) (Some (length lists)) (get list_cmp m q)) where
  other : (d : List ℕ) (n : ℕ) → get list_cmp m d ≡ Some n → c ≡ d → ⊥
  other d n e same = let here = ap (get list_cmp m) same in cc (here, unmet, e)

  to : (b : Bool) (d : List ℕ) (n : ℕ) → is_at (list_cmp c) d ≡ b
      → cond b (Some (length lists)) (get list_cmp m d) ≡ Some n
      → slice_get (lists ++ c ∷ []) n ≡ Some d
  to true d n here e =
      let same = list_equal c d (equal_at (list_cmp c d) here) in
      let place : length lists ≡ n = cc in
      subst (λ k. slice_get (lists ++ c ∷ []) k ≡ Some d) place (at_end lists c ∙ ap Some same)
  to false d n here e = more_pushed lists c n d ((N d n).0 e)

  from : (b : Bool) (d : List ℕ) (n : ℕ) → is_at (list_cmp c) d ≡ b
      → slice_get (lists ++ c ∷ []) n ≡ Some d
      → cond b (Some (length lists)) (get list_cmp m d) ≡ Some n
  from true d n here e =
      let same = list_equal c d (equal_at (list_cmp c d) here) in
      ⊎_elim
      (λ old. absurd (other d n ((N d n).1 old) same))
      (λ new. ap Some (sym new.0))
      (at_more lists c n d e)
  from false d n here e =
      ⊎_elim
      (λ old. (N d n).1 old)
      (λ new. let at : is_at (list_cmp c) d ≡ true = ap (λ l. is_at (list_cmp c) l) (sym new.1)
      ∙ ap is_eq (list_same c) in absurd (false≢true (sym here ∙ at)))
      (at_more lists c n d e)

  pub numbered_more : AreNumbered m' (lists ++ c ∷ [])
  numbered_more d n = (
    λ e. to (is_at (list_cmp c) d) d n refl (sym (updated d) ∙ e),
    λ e. updated d ∙ from (is_at (list_cmp c) d) d n refl e,
  )

-- if the lists so far are unchanged, points stand for the same nodes
module _ (old new : List (List ℕ)) (more : ExtendsLists old new) where
  pub within_more : (n : ℕ) → n < length old → n < length new
  within_more n lt = let c = some_at old n lt in slice_get_within new n c.0 (more n c.0 c.1)

  flat_more : (s : ProgramPoint) → s.context < length old → point_node new s ≡ point_node old s
  flat_more s lt =
      let c = some_at old s.context lt in
      let same = get_or_from_slice_get new s.context c.0 [] (more s.context c.0 c.1)
      ∙ sym (get_or_from_slice_get old s.context c.0 [] c.1) in
      λ i. record { context = same i; address = s.address }

  pub flats_more : (points : List ProgramPoint) → All (λ s. s.context < length old) points
      → point_nodes new points ≡ point_nodes old points
  flats_more [] h = refl
  flats_more (s ∷ points) h =
      let here = flat_more s (h 0 s (omega arith)) in
      let rest = flats_more points (λ k d lt. h (suc k) d (omega arith)) in
      λ i. here i ∷ rest i

  pub inside_more : (points : List ProgramPoint) → HaveLists old points → HaveLists new points
  inside_more points h k d lt = within_more _ (h k d lt)

-- the node of a point whose list of calls is known
pub flat_listed : (lists : List (List ℕ)) (n a : ℕ) (c : List ℕ) → slice_get lists n ≡ Some c
    → point_node lists (record { context = n; address = a }) ≡ record { context = c; address = a }
flat_listed lists n a c e = let same = get_or_from_slice_get lists n c [] e in λ i. record {
  context = same i;
  address = a;
}

-- two points with lists of calls are the same point if they are the same node
pub one_point : (m : BTreeMap (List ℕ) ℕ) (lists : List (List ℕ)) → AreNumbered m lists
    → (s t : ProgramPoint) → s.context < length lists → t.context < length lists
    → point_node lists s ≡ point_node lists t → s ≡ t
one_point m lists N s t s_lt t_lt e =
    let c = some_at lists s.context s_lt in
    let d = some_at lists t.context t_lt in
    let calls : c.0 ≡ d.0 = sym (get_or_from_slice_get lists s.context c.0 [] c.1)
    ∙ ap (λ (n : FlatNode). n.context) e ∙ get_or_from_slice_get lists t.context d.0 [] d.1 in
    let numbers = sym ((N c.0 s.context).1 c.1) ∙ ap (get list_cmp m) calls
    ∙ (N d.0 t.context).1 d.1 in
    let context = one s.context t.context numbers in
    let address : s.address ≡ t.address = ap (λ (n : FlatNode). n.address) e in
    λ i. record { context = context i; address = address i }
  where
    one : (a b : ℕ) → Some a ≡ Some b → a ≡ b
    one a b h = cc
