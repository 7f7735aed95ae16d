-- For each region, the regions that hold all of its nodes.
use Rattle.std.proofs.Common.{◌≡◌, ◌↔◌, ℕ, ◌+◌, ◌<◌, ◌≤◌, List, [], length, take, set, slice_index}
use Rattle.std.proofs.Common.{get_or, IsTrue, sym, ap, ◌∙◌, subst, inl, inr, ⊎_elim, arith}
use Rattle.std.proofs.Common.{get_or-set_same, get_or-set_other, filter}
use Rattle.std.proofs.lemmas.Bool.{cases_eq, cases_lt, both_ways}
use Rattle.loop_regions.specs.CodeNest.{has, row}
use Rattle.loop_regions.specs.Inner.RegionLists.{AreRegionLists}
use Rattle.loop_regions.specs.Inner.FoundRegions.{AreAround}
use Rattle.loop_regions.proofs.Has.{has_filter, filter_has, has_taken, taken_has}
use Rattle.loop_regions.proofs.FoundRegions.{none_past}
use Rattle.loop_regions.proofs.LeastOf.{nest_by}

-- row r has what it had; if r is among those visited of a node's regions, only these regions
abbrev pub IsNarrowed : List (List ℕ) → List (List ℕ) → List ℕ → List ℕ → ℕ → ℕ → Type 0
IsNarrowed old new seen holders r s =
    IsTrue (has (row new r) s)
    ↔ (IsTrue (has (row old r) s) × (IsTrue (has seen r) → IsTrue (has holders s)))

pub narrow_more : (old now new : List (List ℕ)) (holders here : List ℕ) (i r s : ℕ)
    → i < length holders → get_or holders i 0 < length now
    → here ≡ row now (get_or holders i 0)
    → new ≡ set now (get_or holders i 0) (filter (has holders) here)
    → IsNarrowed old now (take i holders) holders r s
    → IsNarrowed old new (take (i + 1) holders) holders r s
narrow_more old now new holders here i r s lt at_lt is e N =
    let q = get_or holders i 0 in
    ⊎_elim
    (λ same.
    let at : row new r ≡ filter (has holders) (row now r) =
    ap (λ xs. row xs r) e
    ∙ subst (λ x. row (set now q (filter (has holders) here)) x ≡ filter (has holders) (row now x))
    (sym same)
    (get_or-set_same now q (filter (has holders) here) [] at_lt ∙ ap (filter (has holders)) is)
    in (
      (λ t. let f = has_filter (has holders) (row now r) s (subst (λ xs. IsTrue (has xs s)) at t) in
          ((N.0 f.0).0, λ u. f.1)),
      (λ p.
          let h = p.1 (taken_has holders i r lt (inr (sym same))) in
          subst (λ xs. IsTrue (has xs s)) (sym at)
          (filter_has (has holders) (row now r) s (N.1 (p.0, λ u. h)) h)),
    ))
    (λ other.
    let at : row new r ≡ row now r = ap (λ xs. row xs r) e
    ∙ get_or-set_other now q r (filter (has holders) here) [] other in (
      (λ t. let n = N.0 (subst (λ xs. IsTrue (has xs s)) at t) in
          (n.0, λ u. ⊎_elim n.1 (λ f. absurd (other (sym f))) (has_taken holders i r lt u))),
      (λ p. subst (λ xs. IsTrue (has xs s)) (sym at)
          (N.1 (p.0, λ u. p.1 (taken_has holders i r lt (inl u))))),
    ))
    (cases_eq r q)

-- row r has the regions that hold its head and all of its nodes below k
abbrev pub IsRoundBelow : List ℕ → List (List ℕ) → List (List ℕ) → ℕ → ℕ → ℕ → Type 0
IsRoundBelow heads holders rows k r s =
    IsTrue (has (row rows r) s)
    ↔ (IsTrue (has (row holders (slice_index heads r)) s)
    × ((y : ℕ) → y < k → IsTrue (has (row holders y) r) → IsTrue (has (row holders y) s)))

pub round_more : (heads : List ℕ) (holders now new : List (List ℕ)) (k r s : ℕ)
    → IsTrue (has (row new r) s)
    ↔ (IsTrue (has (row now r) s)
    × (IsTrue (has (row holders k) r) → IsTrue (has (row holders k) s)))
    → IsRoundBelow heads holders now k r s → IsRoundBelow heads holders new (k + 1) r s
round_more heads holders now new k r s N R = (
  (λ t.
      let n = N.0 t in let p = R.0 n.0 in (
        p.0,
        λ y lt. ⊎_elim
            (λ is. subst (λ z. IsTrue (has (row holders z) r) → IsTrue (has (row holders z) s))
            (sym is) n.1) (λ ne. p.1 y (omega arith)) (cases_eq y k),
      )),
  (λ p. N.1 (R.1 (p.0, λ y lt. p.1 y (omega arith)), p.1 k (omega arith))),
)

-- a node that has the same regions as one before it
pub round_like : (heads : List ℕ) (holders rows : List (List ℕ)) (k z r s : ℕ) → z < k
    → row holders k ≡ row holders z → IsRoundBelow heads holders rows k r s
    → IsRoundBelow heads holders rows (k + 1) r s
round_like heads holders rows k z r s lt e R =
    round_more heads holders rows rows k r s (
      (λ t. (
        t,
        λ h. subst (λ xs. IsTrue (has xs s)) (sym e)
            ((R.0 t).1 z lt (subst (λ xs. IsTrue (has xs r)) e h)),
      )),
      (λ p. p.0),
    )
    R

pub all_round : (heads bounds : List ℕ) (holders rows : List (List ℕ)) (k : ℕ)
    → AreRegionLists heads holders → length holders ≤ k → length rows ≡ length heads
    → ((r s : ℕ) → r < length heads → IsRoundBelow heads holders rows k r s)
    → AreAround (nest_by heads bounds holders) rows
all_round heads bounds holders rows k S le all R = record {
  regions = all;
  is = λ r s lt. (
    (λ t.
        let p = (R r s lt).0 t in (
          S.within (slice_index heads r) s p.0,
          λ y h. ⊎_elim (λ y_lt. p.1 y (omega arith) h)
              (λ past. absurd (both_ways (has (row holders y) r) (none_past holders y r past) h))
              (cases_lt y (length holders)),
        )),
    (λ p. (R r s lt).1 (p.1 (slice_index heads r) (S.holds_head r lt), λ y y_lt h. p.1 y h)),
  );
}
