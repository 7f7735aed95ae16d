-- Listed pairs of a set and a block, of which the first for each set counts.
use Rattle.std.proofs.Common.{◌≡◌, ◌≢◌, ℕ, zero, suc, ◌+◌, ◌<◌, ◌≤◌, true, false, List, [], ◌∷◌}
use Rattle.std.proofs.Common.{length, get_or, Option, Some, refl, sym, ap, ◌∙◌, subst, ⊎_elim}
use Rattle.std.proofs.Common.{arith, ne_eqb, eq-eqb, if◌then◌else◌, ◌==◌}
use Rattle.std.proofs.lemmas.Bool.{cases_eq}
use Rattle.std.proofs.lemmas.Option.{same_Some, none-some}
use Rattle.crpd_base.specs.Sets.{member}
use Rattle.icache.specs.Cache.{held}
use Rattle.evict_sets.specs.ListedPart.{block_of_set}

abbrev pub set_at : List (ℕ × ℕ) → ℕ → ℕ
set_at sure j = (get_or sure j (0, 0)).0

abbrev pub block_at : List (ℕ × ℕ) → ℕ → ℕ
block_at sure j = (get_or sure j (0, 0)).1

abbrev pub IsFirst : List (ℕ × ℕ) → ℕ → Type 0
IsFirst sure j = (i : ℕ) → i < j → set_at sure i ≢ set_at sure j

-- what the first pair of a set gives it
pub first_block : (sure : List (ℕ × ℕ)) (k : ℕ) → k < length sure → IsFirst sure k
    → block_of_set sure (set_at sure k) ≡ Some (block_at sure k)
first_block [] k lt first = absurd (omega arith)
first_block (x ∷ sure) zero lt first =
    (let t : (x.0 == x.0) ≡ true = eq-eqb x.0 x.0 refl in rw t refl)
first_block (x ∷ sure) (suc k) lt first =
    let f : (x.0 == set_at sure k) ≡ false = ne_eqb x.0 (set_at sure k) (first 0 (omega arith)) in
    let rest = first_block sure k (omega arith) (λ i i_lt. first (suc i) (omega arith)) in
    rw f rest

pub found_block : (sure : List (ℕ × ℕ)) (s m : ℕ) → block_of_set sure s ≡ Some m
    → (j : ℕ) × (j < length sure) × (set_at sure j ≡ s) × (block_at sure j ≡ m) × IsFirst sure j
found_block [] s m e = absurd (none-some m e)
found_block (x ∷ sure) s m e =
    ⊎_elim
    (λ (same : x.0 ≡ s).
    let t : (x.0 == s) ≡ true = eq-eqb x.0 s same in
    let here : block_of_set (x ∷ sure) s ≡ Some x.1 = rw t refl in
    (0, omega arith, same, same_Some x.1 m (sym here ∙ e), λ i lt. absurd (omega arith)))
    (λ (ne : x.0 ≢ s).
    let f : (x.0 == s) ≡ false = ne_eqb x.0 s ne in
    let there : block_of_set (x ∷ sure) s ≡ block_of_set sure s = rw f refl in
    let h = found_block sure s m (sym there ∙ e) in
    (suc h.0, omega (arith, h.1), h.2, h.3, later h.0 ne h.2 h.4))
    (cases_eq x.0 s)
  where
    later : (j : ℕ) → x.0 ≢ s → set_at sure j ≡ s → IsFirst sure j → IsFirst (x ∷ sure) (suc j)
    later j ne at first zero lt same = ne (same ∙ at)
    later j ne at first (suc i) lt same = first i (omega arith) same

-- the pairs below k are seen, and the first of each set is held
pub record PairsTo (blocks : List (Option ℕ)) (sure : List (ℕ × ℕ)) (seen : List ℕ)
    (k : ℕ) : Type 0 where
  pub is_seen : (s : ℕ) → member seen s ≡ 1 → (j : ℕ) × (j < k) × (set_at sure j ≡ s)
  pub seen_is : (j : ℕ) → j < k → member seen (set_at sure j) ≡ 1
  pub firsts : (j : ℕ) → j < k → IsFirst sure j
      → held blocks (set_at sure j) ≡ Some (block_at sure j)

pub pairs_skip : (blocks : List (Option ℕ)) (sure : List (ℕ × ℕ)) (seen : List ℕ) (k : ℕ)
    → member seen (set_at sure k) ≡ 1 → PairsTo blocks sure seen k
    → PairsTo blocks sure seen (k + 1)
pairs_skip blocks sure seen k there P = record {
  is_seen = λ s e. let h = P.is_seen s e in (h.0, omega (arith, h.1), h.2);
  seen_is = λ j lt.
      ⊎_elim (λ (e : j ≡ k). subst (λ x. member seen (set_at sure x) ≡ 1) (sym e) there)
      (λ ne. P.seen_is j (omega arith)) (cases_eq j k);
  firsts = λ j lt first. ⊎_elim
      (λ (e : j ≡ k). absurd (let h = P.is_seen (set_at sure k) there in
      first h.0 (omega (arith, h.1, e)) (h.2 ∙ ap (set_at sure) (sym e))))
      (λ ne. P.firsts j (omega arith) first)
      (cases_eq j k);
}

pub pairs_more : (blocks : List (Option ℕ)) (sure : List (ℕ × ℕ)) (seen new : List ℕ) (k : ℕ)
    → held blocks (set_at sure k) ≡ Some (block_at sure k)
    → ((t : ℕ) → member new t ≡ (if t == set_at sure k then 1 else member seen t))
    → PairsTo blocks sure seen k → PairsTo blocks sure new (k + 1)
pairs_more blocks sure seen new k here is P = record {
  is_seen = λ s e. ⊎_elim
      (λ (same : s ≡ set_at sure k). (k, omega arith, sym same))
      (λ ne. let h = P.is_seen s (sym (other s ne) ∙ e) in (h.0, omega (arith, h.1), h.2))
      (cases_eq s (set_at sure k));
  seen_is = λ j lt. ⊎_elim
      (λ (same : set_at sure j ≡ set_at sure k). own (set_at sure j) same)
      (λ ne. other (set_at sure j) ne ∙ P.seen_is j (below j lt ne))
      (cases_eq (set_at sure j) (set_at sure k));
  firsts = λ j lt first. ⊎_elim
      (λ (e : j ≡ k). subst (λ x. held blocks (set_at sure x) ≡ Some (block_at sure x))
      (sym e) here)
      (λ ne. P.firsts j (omega arith) first)
      (cases_eq j k);
} where
  own : (t : ℕ) → t ≡ set_at sure k → member new t ≡ 1
  own t e = let b : (t == set_at sure k) ≡ true = eq-eqb t (set_at sure k) e in is t ∙ rw b refl

  other : (t : ℕ) → t ≢ set_at sure k → member new t ≡ member seen t
  other t ne =
      let b : (t == set_at sure k) ≡ false = ne_eqb t (set_at sure k) ne in is t ∙ rw b refl

  below : (j : ℕ) → j < k + 1 → set_at sure j ≢ set_at sure k → j < k
  below j lt ne =
      ⊎_elim (λ (e : j ≡ k). absurd (ne (ap (set_at sure) e))) (λ other. omega arith) (cases_eq j k)

pub all_held : (blocks : List (Option ℕ)) (sure : List (ℕ × ℕ)) (seen : List ℕ) (k : ℕ)
    → length sure ≤ k → PairsTo blocks sure seen k → (s m : ℕ) → block_of_set sure s ≡ Some m
    → held blocks s ≡ Some m
all_held blocks sure seen k le P s m e =
    let h = found_block sure s m e in
    let at = P.firsts h.0 (omega (arith, h.1, le)) h.4 in
    ap (held blocks) (sym h.2) ∙ at ∙ ap Some h.3

-- a first pair that is not held
pub not_held : (blocks : List (Option ℕ)) (sure : List (ℕ × ℕ)) (seen : List ℕ) (k : ℕ)
    → k < length sure → member seen (set_at sure k) ≢ 1 → PairsTo blocks sure seen k
    → (held blocks (set_at sure k) ≡ Some (block_at sure k) → ⊥)
    → ((s m : ℕ) → block_of_set sure s ≡ Some m → held blocks s ≡ Some m) → ⊥
not_held blocks sure seen k lt fresh P ne all =
    ne (all (set_at sure k) (block_at sure k)
    (first_block sure k lt (λ i i_lt same.
    fresh (subst (λ x. member seen x ≡ 1) same (P.seen_is i i_lt)))))
