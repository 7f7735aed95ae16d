-- The stated loops of every graph have regions, or are refused.
use Rattle.std.proofs.Common.{◌≡◌, ℕ, suc, ◌<◌, ◌≤◌, ◌==◌, List, [], ◌∷◌, length, map, get_or}
use Rattle.std.proofs.Common.{slice_get, Some, refl, sym, ap, ◌∙◌, subst, inl, inr, ⊎_elim, arith}
use Rattle.std.proofs.Common.{Contains, Result, Ok, Err, Bool, true, false, IsTrue, eq-eqb}
use Rattle.std.proofs.Common.{eqb-true, unwrap_or, option_map}
use Rattle.std.proofs.lemmas.Bool.{cases_lt, false≢true, or_left, or_right, or_cases}
use Rattle.std.proofs.lemmas.Option.{get_or_from_slice_get, slice_get_within, slice_get-get_or}
use Rattle.std.proofs.lemmas.Option.{slice_get-map, slice_get_past, unwrap_or-slice_get}
use Rattle.crpd_base.proofs.Elements.{at_head, at_rest, contains_at, head_or_rest, in_none, some_at}
use Rattle.crpd_base.specs.declared.data.LoopAt.{LoopAt}
use Rattle.flat_graph.specs.Graph.{Graph, IsGraph, Places}
use Rattle.flat_graph.proofs.Decided.{is_true}
use Rattle.loop_regions.specs.CodeNest.{CodeNest, has, nest_of, row}
use Rattle.loop_regions.specs.Nest.{Nest}
use Rattle.loop_regions.specs.Stated.{IsForwardPath, IsNotNested, IsOnCycle, IsRegions, IsSameHead}
use Rattle.loop_regions.specs.Stated.{IsSecondEntry, region_holds}
use Rattle.loop_regions.specs.declared.error.LoopError.{LoopError}
use Rattle.loop_regions.specs.declared.error.LoopError.TheVariants as loop
use Rattle.loop_regions.specs.RegionsEnds.{IsRegionsEnd, RegionsExist}
use Rattle.loop_regions.proofs.Stated.{holds_nodes}
use Rattle.crpd_base.proofs.Classical.{AreValues, IsLeastBelow, IsSublist, NotNot, a_list}
use Rattle.crpd_base.proofs.Classical.{a_sublist, decided, least_below, sublist, unrefuted}
use Rattle.crpd_base.proofs.Classical.{value_at, ◌>>=◌}

-- ---- numbers of a list by the test

from_contains : (xs : List ℕ) (r : ℕ) → Contains xs r → IsTrue (has xs r)
from_contains [] r c = absurd (in_none r c)
from_contains (x ∷ xs) r c =
    ⊎_elim (λ e. or_left (x == r) (has xs r) (eq-eqb x r e))
    (λ later. or_right (x == r) (has xs r) (from_contains xs r later)) (head_or_rest xs r x c)

contains_from : (xs : List ℕ) (r : ℕ) → IsTrue (has xs r) → Contains xs r
contains_from [] r h = absurd (false≢true h)
contains_from (x ∷ xs) r h =
    ⊎_elim (λ e. at_head xs r x (eqb-true x r e))
    (λ later. at_rest xs r x (contains_from xs r later)) (or_cases (x == r) (has xs r) h)

same_test : (a b : Bool) → (IsTrue a → IsTrue b) → (IsTrue b → IsTrue a) → a ≡ b
same_test true b f g = sym (f refl)
same_test false true f g = absurd (false≢true (g refl))
same_test false false f g = refl

past_end : {X : Type 0} (xs : List X) (y : ℕ) (d : X) → length xs ≤ y → get_or xs y d ≡ d
past_end xs y d le =
    sym (unwrap_or-slice_get xs y d) ∙ ap (λ o. unwrap_or o d) (slice_get_past xs y le)

abbrev no_loop : LoopAt
no_loop = record { head = 0; bound = 0; ranges = [] }

-- ---- the regions

module _ (g : Graph) (p : Places) (loops : List LoopAt) where
  -- the loop's head is at the node
  abbrev IsOf : ℕ → LoopAt → Type 0
  IsOf y l = Contains loops l × (p.address y ≡ l.head)

  abbrev HasLoop : ℕ → Type 0
  HasLoop y = (l : LoopAt) × Contains loops l × (p.address y ≡ l.head)

  module _ (heads : List ℕ) (H : IsSublist HasLoop g.size heads) where
    abbrev IsLoopOf : ℕ → LoopAt → Type 0
    IsLoopOf r l = (y : ℕ) → slice_get heads r ≡ Some y → IsOf y l

    a_loop : (r : ℕ) → r < length heads → (l : LoopAt) × IsLoopOf r l
    a_loop r lt =
        let y = some_at heads r lt in
        let l = (H.each r y.0 y.1).1 in
        (l.0, λ z e. subst (λ o. IsOf o l.0) (the y.0 z (sym y.1 ∙ e)) (l.1, l.2))
      where
        the : (a b : ℕ) → Some a ≡ Some b → a ≡ b
        the a b e = cc

    module _ (of : List LoopAt) (L : AreValues IsLoopOf (length heads) of) where
      abbrev holds_at : ℕ → ℕ → Bool
      holds_at r y = region_holds p (get_or of r no_loop) (p.context (get_or heads r 0)) y

      abbrev IsRow : ℕ → List ℕ → Type 0
      IsRow y xs = IsSublist (λ r. IsTrue (holds_at r y)) (length heads) xs

      a_row : (y : ℕ) → (xs : List ℕ) × IsRow y xs
      a_row y = sublist (λ r. IsTrue (holds_at r y)) (length heads) (λ r lt. is_true (holds_at r y))

      module _ (rows : List (List ℕ)) (W : AreValues IsRow g.size rows) where
        abbrev nest : CodeNest
        nest = record { heads = heads; bounds = map (λ (l : LoopAt). l.bound) of; holders = rows }

        head_is : (r : ℕ) → r < length heads → IsOf (get_or heads r 0) (get_or of r no_loop)
        head_is r lt =
            value_at IsLoopOf (length heads) of no_loop L r lt (get_or heads r 0)
            (slice_get-get_or heads r 0 lt)

        bound_is : (r : ℕ) → r < length heads
            → get_or (map (λ (l : LoopAt). l.bound) of) r 0 ≡ (get_or of r no_loop).bound
        bound_is r lt =
            get_or_from_slice_get (map (λ (l : LoopAt). l.bound) of) r
            (get_or of r no_loop).bound 0
            (slice_get-map (λ (l : LoopAt). l.bound) of r
            ∙ ap (option_map (λ (l : LoopAt). l.bound))
            (slice_get-get_or of r no_loop (omega (arith, lt, L.count))))

        holds_is : (r y : ℕ) → r < length heads → y < g.size → has (row rows y) r ≡ holds_at r y
        holds_is r y lt le =
            let are = value_at IsRow g.size rows [] W y le in
            same_test (has (row rows y) r) (holds_at r y)
            (λ h. let c = contains_at (row rows y) r (contains_from (row rows y) r h) in
            (are.each c.0 r c.1).1)
            (λ h. from_contains (row rows y) r (are.all r lt h))

        are_regions : IsRegions g p loops (nest_of nest)
        are_regions = record {
          node = λ r lt. (H.each r (get_or heads r 0) (slice_get-get_or heads r 0 lt)).0;
          numbered = λ r s lt le. H.ascending r s (get_or heads r 0) (get_or heads s 0) lt
              (slice_get-get_or heads r 0 (omega arith)) (slice_get-get_or heads s 0 le);
          stated = λ r lt. (
            get_or of r no_loop,
            (head_is r lt).0,
            record {
              head = (head_is r lt).1;
              bound = bound_is r lt;
              holds = λ y le. holds_is r y lt le;
            },
          );
          all = λ l y c lt e.
              let k = contains_at heads y (H.all y lt (l, c, e)) in
              (k.0, slice_get_within heads k.0 y k.1, get_or_from_slice_get heads k.0 y 0 k.1);
          nodes_only = λ r y le.
              ap (λ xs. has xs r) (past_end rows y [] (omega (arith, W.count, le)));
        }

  -- there are regions
  some_regions : NotNot ((n : CodeNest) × IsRegions g p loops (nest_of n))
  some_regions =
      a_sublist HasLoop g.size >>= (λ (h : (heads : List ℕ) × IsSublist HasLoop g.size heads).
      a_list (IsLoopOf h.0 h.1) (length h.0) (λ r lt. unrefuted (a_loop h.0 h.1 r lt))
      >>= (λ (l : (of : List LoopAt) × AreValues (IsLoopOf h.0 h.1) (length h.0) of).
      a_list (IsRow h.0 h.1 l.0 l.1) g.size (λ y lt. unrefuted (a_row h.0 h.1 l.0 l.1 y))
      >>= (λ (w : (rows : List (List ℕ)) × AreValues (IsRow h.0 h.1 l.0 l.1) g.size rows).
      unrefuted (nest h.0 h.1 l.0 l.1 w.0 w.1, are_regions h.0 h.1 l.0 l.1 w.0 w.1))))

-- ---- the refusals

on_path : (g : Graph) (n : Nest) → IsGraph g → (y : ℕ) (between : List ℕ) (z : ℕ)
    → IsForwardPath g n y between z → z < g.size
on_path g n G y [] z f = G.edges y z f.0
on_path g n G y (x ∷ before) z f = G.edges x z f.1.0

module _ (g : Graph) (p : Places) (loops : List LoopAt) (G : IsGraph g) where
  module _ (apart : (a : ℕ) → IsSameHead loops a → ⊥) (n : CodeNest)
      (R : IsRegions g p loops (nest_of n))
      (none : (r : Result CodeNest LoopError) → IsRegionsEnd g p loops r → ⊥) where
    without : ((v : ℕ) → IsSecondEntry g (nest_of n) v → ⊥)
        → ((y : ℕ) → IsNotNested (nest_of n) y → ⊥) → ((y : ℕ) → IsOnCycle g (nest_of n) y → ⊥) → ⊥
    without a b c =
        none (Ok n) (apart, R, record { one_entry = a; nested = b; no_cycle = c })

    cycles : ((v : ℕ) → IsSecondEntry g (nest_of n) v → ⊥)
        → ((y : ℕ) → IsNotNested (nest_of n) y → ⊥) → ⊥
    cycles a b =
        least_below (IsOnCycle g (nest_of n)) g.size (⊎_elim
        (λ (l : (y : ℕ) × IsLeastBelow (IsOnCycle g (nest_of n)) g.size y).
        none (Err (loop.CycleWithoutBound (p.address l.0)))
        ((λ e. cc), (nest_of n, R, (apart, a, b, (l.0, l.1.below, l.1.holds, refl, l.1.least)))))
        (λ no. without a b
        (λ y s. no y (on_path g (nest_of n) G y s.0 y s.1) s)))

    nesting : ((v : ℕ) → IsSecondEntry g (nest_of n) v → ⊥) → ⊥
    nesting a =
        least_below (IsNotNested (nest_of n)) g.size (⊎_elim
        (λ (l : (y : ℕ) × IsLeastBelow (IsNotNested (nest_of n)) g.size y).
        none (Err (loop.NotNested (p.address l.0)))
        ((λ e. cc), (nest_of n, R, (apart, a, (l.0, l.1.below, l.1.holds, refl, l.1.least)))))
        (λ no. cycles a (λ y s. no y (holds_nodes g p loops (nest_of n) R s.0 y s.4) s)))

    entries : ⊥
    entries =
        least_below (IsSecondEntry g (nest_of n)) g.size (⊎_elim
        (λ (l : (y : ℕ) × IsLeastBelow (IsSecondEntry g (nest_of n)) g.size y).
        none (Err (loop.SecondEntry (p.address l.0)))
        ((λ e. cc), (nest_of n, R, (apart, (l.0, l.1.below, l.1.holds, refl, l.1.least)))))
        (λ no. nesting (λ v s. no v (holds_nodes g p loops (nest_of n) R s.0 v s.2) s)))

pub regions_exist : RegionsExist
regions_exist g p loops G none =
    decided ((a : ℕ) × IsSameHead loops a) (⊎_elim
    (λ (s : (a : ℕ) × IsSameHead loops a).
    least_below (IsSameHead loops) (suc s.0) (⊎_elim
    (λ (l : (a : ℕ) × IsLeastBelow (IsSameHead loops) (suc s.0) a).
    none (Err (loop.SameHead l.0)) (
      (λ e. cc),
      (λ n. (
        l.1.holds,
        λ b h. elim (cases_lt b l.0) [
          | inl lt ↦ absurd (l.1.least b lt h)
          | inr ge ↦ ge
        ],
      )),
    ))
    (λ no. no s.0 (omega arith) s.1)))
    (λ apart. some_regions g p loops (λ n. entries g p loops G (λ a h. apart (a, h)) n.0 n.1 none)))
