-- Nested regions, and the innermost of them.
use Rattle.std.proofs.Common.{◌≡◌, ◌≢◌, ◌⊎◌, ℕ, ◌+◌, ◌<◌, ◌≤◌, true, false, not, ◌&&◌, List, []}
use Rattle.std.proofs.Common.{◌∷◌, ◌++◌, length, zero, suc, take, Some, None, slice_index, get_or}
use Rattle.std.proofs.Common.{IsTrue, IsFalse, refl, sym, ap, ◌∙◌, subst, inl, inr, ⊎_elim, arith}
use Rattle.std.proofs.Common.{◌==◌, eq-eqb, Option}
use Rattle.std.specs.List.{list_any}
use Rattle.std.proofs.lemmas.Bool.{cases_lt, cases_Bool, both_ways, eqb-true, and_parts}
use Rattle.std.proofs.lemmas.Bool.{and_from, and_cases, or_cases, or_left, or_right, not-true}
use Rattle.std.proofs.lemmas.Bool.{not-false, not_from_false, false_from_ne_true}
use Rattle.crpd_base.proofs.Elements.{count_more, pushed_each}
use Rattle.loop_regions.specs.Levels.{IsLevel, IsParent}
use Rattle.loop_regions.specs.Stated.{HoldsMore, IsNotNested}
use Rattle.loop_regions.specs.CodeNest.{has, row}
use Rattle.loop_regions.specs.Inner.RegionLists.{AreRegionLists}
use Rattle.loop_regions.specs.Inner.FoundRegions.{AreAround, lie_across, are_across, is_other}
use Rattle.loop_regions.specs.Inner.FoundRegions.{is_better, better, IsInnermost, AreInLine}
use Rattle.loop_regions.proofs.Has.{has_any, any_has, has_at, has_taken}
use Rattle.loop_regions.proofs.FoundRegions.{none_past}
use Rattle.loop_regions.proofs.Stated.{inside_below}
use Rattle.loop_regions.proofs.LeastOf.{nest_by}

-- different from the one besides
other_from : (besides : Option ℕ) (r : ℕ) → IsTrue (is_other besides r) → besides ≢ Some r
other_from None r h e = absurd cc
other_from (Some b) r h e =
    let same : b ≡ r = cc in both_ways (b == r) (not-true (b == r) h) (eq-eqb b r same)

not_other : (besides : Option ℕ) (r : ℕ) → is_other besides r ≡ false → besides ≡ Some r
not_other None r h = absurd (both_ways true h refl)
not_other (Some b) r h = ap Some (eqb-true b r (not-false (b == r) h))

-- the innermost of those seen so far
abbrev pub IsBest : List (List ℕ) → List ℕ → List ℕ → Option ℕ → Option ℕ → Type 0
IsBest rows among seen besides None = (s : ℕ) → IsTrue (has seen s) → besides ≡ Some s
IsBest rows among seen besides (Some r) =
    IsTrue (has among r) × (besides ≢ Some r)
    × ((s : ℕ) → IsTrue (has seen s) → besides ≢ Some s → IsTrue (has (row rows r) s))

module _ (rows : List (List ℕ)) (among : List ℕ) (besides : Option ℕ)
    (L : AreInLine rows among) where
  -- a region becomes the best one
  takes : (i : ℕ) (best : Option ℕ) → i < length among
      → IsTrue (is_other besides (get_or among i 0))
      → IsTrue (is_better rows best (get_or among i 0))
      → IsBest rows among (take i among) besides best
      → IsBest rows among (take (i + 1) among) besides (Some (get_or among i 0))
  takes i None lt other is_best B =
      let r = get_or among i 0 in
      let here = has_at among i lt in (
        here,
        other_from besides r other,
        λ s h ne. ⊎_elim
            (λ t. absurd (ne (B s t)))
            (λ e. subst (λ x. IsTrue (has (row rows r) x)) e
            (⊎_elim (λ t. t) (λ t. t) (L.either r r here here)))
            (has_taken among i s lt h),
      )
  takes i (Some b) lt other is_best B =
      let r = get_or among i 0 in
      let here = has_at among i lt in (
        here,
        other_from besides r other,
        λ s h ne. ⊎_elim
            (λ t. L.onward r b s here is_best (B.2 s t ne))
            (λ e. subst (λ x. IsTrue (has (row rows r) x)) e
            (⊎_elim (λ t. t) (λ t. t) (L.either r r here here)))
            (has_taken among i s lt h),
      )

  -- the best one stays
  stays_besides : (i : ℕ) (best : Option ℕ) → i < length among
      → is_other besides (get_or among i 0) ≡ false → IsBest rows among (take i among) besides best
      → IsBest rows among (take (i + 1) among) besides best
  stays_besides i None lt out B = λ s h.
      ⊎_elim (λ t. B s t) (λ e. not_other besides (get_or among i 0) out ∙ ap Some e)
      (has_taken among i s lt h)
  stays_besides i (Some b) lt out B = (
    B.0,
    B.1,
    λ s h ne. ⊎_elim (λ t. B.2 s t ne)
        (λ e. absurd (ne (not_other besides (get_or among i 0) out ∙ ap Some e)))
        (has_taken among i s lt h),
  )

  stays_worse : (i : ℕ) (best : Option ℕ) → i < length among
      → is_better rows best (get_or among i 0) ≡ false
      → IsBest rows among (take i among) besides best
      → IsBest rows among (take (i + 1) among) besides best
  stays_worse i None lt worse B = absurd (both_ways true worse refl)
  stays_worse i (Some b) lt worse B =
      let r = get_or among i 0 in (
        B.0,
        B.1,
        λ s h ne. ⊎_elim
            (λ t. B.2 s t ne)
            (λ e. subst (λ x. IsTrue (has (row rows b) x)) e
            (⊎_elim (λ t. t) (λ t. absurd (both_ways (has (row rows r) b) worse t))
            (L.either b r B.0 (has_at among i lt))))
            (has_taken among i s lt h),
      )

  pub best_more : (i : ℕ) (best : Option ℕ) → i < length among
      → IsBest rows among (take i among) besides best
      → IsBest rows among (take (i + 1) among) besides (better rows besides best (get_or among i 0))
  best_more i best lt B =
      let r = get_or among i 0 in
      ⊎_elim
      (λ t. let p = and_parts (is_other besides r) (is_better rows best r) t in
      rw t (takes i best lt p.0 p.1 B))
      (λ f. rw f
      (⊎_elim (λ o. stays_besides i best lt o B) (λ w. stays_worse i best lt w B)
      (and_cases (is_other besides r) (is_better rows best r) f)))
      (cases_Bool (is_other besides r && is_better rows best r))

-- all of them are seen
all_seen : (xs : List ℕ) (i s : ℕ) → length xs ≤ i → IsTrue (has xs s) → IsTrue (has (take i xs) s)
all_seen [] i s le h = absurd (both_ways (has [] s) refl h)
all_seen (x ∷ xs) zero s le h = absurd (omega arith)
all_seen (x ∷ xs) (suc i) s le h =
    ⊎_elim
    (λ e. or_left (x == s) (has (take i xs) s) e)
    (λ t. or_right (x == s) (has (take i xs) s) (all_seen xs i s (omega arith) t))
    (or_cases (x == s) (has xs s) h)

pub best_of_all : (rows : List (List ℕ)) (among : List ℕ) (i : ℕ) (besides o : Option ℕ)
    → length among ≤ i → IsBest rows among (take i among) besides o
    → IsInnermost rows among besides o
best_of_all rows among i besides None le B = λ s h. B s (all_seen among i s le h)
best_of_all rows among i besides (Some r) le B =
    (B.0, B.1, λ s h ne. B.2 s (all_seen among i s le h) ne)

-- one more result
pub answer_more : (P : ℕ → Option ℕ → Type 0) (xs new : List (Option ℕ)) (x : Option ℕ) (k : ℕ)
    → new ≡ xs ++ x ∷ [] → length xs ≡ k → P k x → ((z : ℕ) → z < k → P z (get_or xs z None))
    → (length new ≡ k + 1) × ((z : ℕ) → z < k + 1 → P z (get_or new z None))
answer_more P xs new x k e len here all =
    (count_more xs new x k e len, pushed_each P xs new x None k e len all here)

module _ (heads bounds : List ℕ) (holders rows : List (List ℕ))
    (S : AreRegionLists heads holders)
    (A : AreAround (nest_by heads bounds holders) rows) where
  node_within : (y r : ℕ) → IsTrue (has (row holders y) r) → y < length holders
  node_within y r h =
      ⊎_elim (λ lt. lt) (λ past.
      absurd (both_ways (has (row holders y) r) (none_past holders y r past) h))
      (cases_lt y (length holders))

  -- a region that is not inside another holds more
  more : (r s : ℕ) → r < length heads → s < length heads → IsFalse (has (row rows r) s)
      → HoldsMore (nest_by heads bounds holders) r s
  more r s r_lt s_lt out =
      ⊎_elim
      (λ below.
      absurd (both_ways (has (row rows r) s) out
      ((A.is r s r_lt).1 (s_lt, λ y h. below y (node_within y r h) h))))
      (λ m. m)
      (inside_below (nest_by heads bounds holders) r s (length holders))

  not_inside : (r s : ℕ) → r < length heads → HoldsMore (nest_by heads bounds holders) r s
      → IsFalse (has (row rows r) s)
  not_inside r s r_lt m =
      false_from_ne_true (has (row rows r) s)
      (λ h. both_ways (has (row holders m.0) s) m.2 (((A.is r s r_lt).0 h).1 m.0 m.1))

  pub across_from : (y : ℕ) → IsTrue (are_across rows (row holders y))
      → IsNotNested (nest_by heads bounds holders) y
  across_from y h =
      let f = has_any (λ r. list_any (lie_across rows r) (row holders y)) (row holders y) h in
      let r = f.0 in
      let e = has_any (lie_across rows r) (row holders y) f.2 in
      let s = e.0 in
      let p = and_parts (not (has (row rows r) s)) (not (has (row rows s) r)) e.2 in
      let r_lt = S.within y r f.1 in
      let s_lt = S.within y s e.1 in (
        r,
        s,
        r_lt,
        s_lt,
        f.1,
        e.1,
        more r s r_lt s_lt (not-true (has (row rows r) s) p.0),
        more s r s_lt r_lt (not-true (has (row rows s) r) p.1),
      )

  pub across : (y : ℕ) → IsNotNested (nest_by heads bounds holders) y
      → IsTrue (are_across rows (row holders y))
  across y n =
      let r = n.0 in let s = n.1 in
      any_has (λ q. list_any (lie_across rows q) (row holders y)) (row holders y) r n.4
      (any_has (lie_across rows r) (row holders y) s n.5
      (and_from (not (has (row rows r) s)) (not (has (row rows s) r))
      (not_from_false (has (row rows r) s) (not_inside r s n.2 n.6))
      (not_from_false (has (row rows s) r) (not_inside s r n.3 n.7))))

  pub none_across : (y : ℕ) → length holders ≤ y → IsNotNested (nest_by heads bounds holders) y → ⊥
  none_across y le n = both_ways (has (row holders y) n.0) (none_past holders y n.0 le) n.4

  module _ (N : (y : ℕ) → IsNotNested (nest_by heads bounds holders) y → ⊥) where
    either_way : (y r s : ℕ) → IsTrue (has (row holders y) r) → IsTrue (has (row holders y) s)
        → IsTrue (has (row rows r) s) ⊎ IsTrue (has (row rows s) r)
    either_way y r s hr hs =
        let r_lt = S.within y r hr in let s_lt = S.within y s hs in
        ⊎_elim
        (λ t. inl t)
        (λ f. ⊎_elim
        (λ t. inr t)
        (λ g. absurd (N y (r, s, r_lt, s_lt, hr, hs, more r s r_lt s_lt f, more s r s_lt r_lt g)))
        (cases_Bool (has (row rows s) r)))
        (cases_Bool (has (row rows r) s))

    go_on : (r s t : ℕ) → r < length heads → IsTrue (has (row rows r) s)
        → IsTrue (has (row rows s) t) → IsTrue (has (row rows r) t)
    go_on r s t r_lt h i =
        let p = (A.is r s r_lt).0 h in
        let q = (A.is s t p.0).0 i in
        (A.is r t r_lt).1 (q.0, λ y x. q.1 y (p.1 y x))

    -- the regions of a node are nested
    pub at_node : (y : ℕ) → AreInLine rows (row holders y)
    at_node y = record {
      either = λ r s hr hs. either_way y r s hr hs;
      onward = λ r s t hr h i. go_on r s t (S.within y r hr) h i;
    }

    held_at : (r s : ℕ) → r < length heads → IsTrue (has (row rows r) s)
        → IsTrue (has (row holders (slice_index heads r)) s)
    held_at r s lt h = ((A.is r s lt).0 h).1 (slice_index heads r) (S.holds_head r lt)

    -- and so are the regions round a region
    pub round_region : (r : ℕ) → r < length heads → AreInLine rows (row rows r)
    round_region r lt = record {
      either = λ q s hq hs.
          either_way (slice_index heads r) q s (held_at r q lt hq) (held_at r s lt hs);
      onward = λ q s t hq h i. go_on q s t ((A.is r q lt).0 hq).0 h i;
    }

  pub level_of : (y : ℕ) (o : Option ℕ) → IsInnermost rows (row holders y) None o
      → IsLevel (nest_by heads bounds holders) y o
  level_of y None h = λ r lt hr. let e : None ≡ Some r = h r hr in absurd cc
  level_of y (Some r) h =
      let r_lt = S.within y r h.0 in
      (r_lt, h.0, λ s s_lt hs. ((A.is r s r_lt).0 (h.2 s hs (λ e. absurd cc))).1)

  pub parent_of : (r : ℕ) (o : Option ℕ) → r < length heads
      → IsInnermost rows (row rows r) (Some r) o → IsParent (nest_by heads bounds holders) r o
  parent_of r None lt h = λ s round.
      let e : Some r ≡ Some s = h s ((A.is r s lt).1 (round.0, round.2)) in
      round.1 (let same : r ≡ s = cc in sym same)
  parent_of r (Some p) lt h =
      let i = (A.is r p lt).0 h.0 in (
        (i.0, (λ e. h.1 (ap Some (sym e))), i.1),
        λ s round.
            ((A.is p s i.0).0
            (h.2 s ((A.is r s lt).1 (round.0, round.2))
            (λ e. round.1 (let same : r ≡ s = cc in sym same)))).1,
      )
