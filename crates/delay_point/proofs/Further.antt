-- A set with evicted ones added, one by one.
use Rattle.std.proofs.Common.{◌≡◌, ◌≢◌, ℕ, ◌+◌, ◌<◌, ◌≤◌, ◌⊎◌, Bool, true, false, ◌&&◌, not, refl}
use Rattle.std.proofs.Common.{sym, ◌∙◌, ap, subst, arith, inl, inr, if◌then◌else◌, ◌==◌, min, List}
use Rattle.std.proofs.Common.{add-one}
use Rattle.std.proofs.lemmas.Bool.{cases_Bool, cases_eq, eq-eqb, ne_eqb, and_parts, true≢false}
use Rattle.crpd_base.specs.Sets.{has, member}
use Rattle.delay_count.specs.Gamma.{shared_count}
use Rattle.delay_point.proofs.Shared.{shared_more, shared_next, shared_none}

-- a set with one more number
pub has_more : (old new : List ℕ) (s : ℕ)
    → ((t : ℕ) → member new t ≡ (if t == s then 1 else member old t))
    → (has new s ≡ true) × ((c : ℕ) → c ≢ s → has new c ≡ has old c)
has_more old new s h = (
  let b : (s == s) ≡ true = eq-eqb s s refl in
      ap (λ z. z == 1) (h s ∙ ap (λ z. if z then 1 else member old s) b),
  λ c ne.
      let b : (c == s) ≡ false = ne_eqb c s ne in
      ap (λ z. z == 1) (h c ∙ ap (λ z. if z then 1 else member old c) b),
)

module _ (standing known evicted : ℕ → Bool) (most : ℕ) where
  -- a set has, of the evicted ones below s that are not known, as many as it may
  pub record IsFilled (s count : ℕ) (sets : ℕ → Bool) : Type 0 where
    pub inside : (c : ℕ) → sets c ≡ true → evicted c ≡ true
    pub kept : (c : ℕ) → known c ≡ true → sets c ≡ standing c
    pub later : (c : ℕ) → s ≤ c → sets c ≡ standing c
    pub counted : count ≡ shared_count sets evicted 512
    pub taken : count ≡ min most (shared_count standing evicted 512
        + shared_count (λ c. not (known c)) evicted s)

  module _ (S : (c : ℕ) → standing c ≡ true → known c ≡ true)
      (K : (c : ℕ) → known c ≡ true → evicted c ≡ true)
      (fewer : shared_count standing evicted 512 ≤ most) where
    pub filled_none : (count : ℕ) → count ≡ shared_count standing evicted 512
        → IsFilled 0 count standing
    filled_none count is =
        let none = shared_none (λ c. not (known c)) evicted in
        record {
          inside = λ c h. K c (S c h);
          kept = λ c h. refl;
          later = λ c h. refl;
          counted = is;
          taken = omega (arith, is, none, fewer);
        }

    -- a set is added
    pub filled_more : (s count : ℕ) (sets more : ℕ → Bool) → s < 512 → count < most
        → (not (known s) && evicted s) ≡ true → IsFilled s count sets → more s ≡ true
        → ((c : ℕ) → c ≢ s → more c ≡ sets c) → IsFilled (s + 1) (count + 1) more
    filled_more s count sets more l few further F new others =
        let parts = and_parts (not (known s)) (evicted s) further in
        let out : known s ≡ false = not_known (known s) parts.0 in
        let before : sets s ≡ false = F.later s (omega arith) ∙ not_standing out in
        let counts = shared_more sets more evicted 512 s l parts.1 before new others in
        let next = shared_next (λ c. not (known c)) evicted s in
        let one : ◌≡◌ {A = ℕ} (if not (known s) && evicted s then 1 else 0) 1 = rw further refl in
        let was = F.taken in
        let had = F.counted in
        rw (add-one s) (record {
          inside = λ c h. elim (cases_eq c s) [
            | inl e ↦ subst (λ x. evicted x ≡ true) (sym e) parts.1
            | inr ne ↦ F.inside c (sym (others c ne) ∙ h)
          ];
          kept = λ c h. elim (cases_eq c s) [
            | inl e ↦
                absurd (true≢false (sym (subst (λ x. known x ≡ true) e h) ∙ out))
            | inr ne ↦ others c ne ∙ F.kept c h
          ];
          later = λ c h. others c (λ e. absurd (omega (arith, e, h))) ∙ F.later c (omega (arith, h));
          counted = omega (arith, counts, had);
          taken = omega (arith, was, next, one, few);
        })
      where
        not_known : (k : Bool) → not k ≡ true → k ≡ false
        not_known true h = absurd (true≢false (sym h))
        not_known false h = refl

        not_standing : known s ≡ false → standing s ≡ false
        not_standing out =
            elim (cases_Bool (standing s)) [
              | inl b ↦ absurd (true≢false (sym (S s b) ∙ out))
              | inr b ↦ b
            ]

    -- a set is not added, since the limit is reached, or it is not evicted or already known
    pub filled_same : (s count : ℕ) (sets : ℕ → Bool)
        → (most ≤ count) ⊎ ((not (known s) && evicted s) ≡ false) → IsFilled s count sets
        → IsFilled (s + 1) count sets
    filled_same s count sets why F =
        let next = shared_next (λ c. not (known c)) evicted s in
        let was = F.taken in
        rw (add-one s) (record {
          inside = F.inside;
          kept = F.kept;
          later = λ c h. F.later c (omega (arith, h));
          counted = F.counted;
          taken = elim why [
            | inl full ↦ omega (arith, was, next, full)
            | inr passed ↦
                let none : ◌≡◌ {A = ℕ} (if not (known s) && evicted s then 1 else 0) 0 = rw passed refl in
                omega (arith, was, next, none)
          ];
        })

    -- after all sets it has as many as required, if that many exist
    pub filled_all : (s count : ℕ) (sets : ℕ → Bool) → s ≡ 512
        → most ≤ shared_count standing evicted 512 + shared_count (λ c. not (known c)) evicted 512
        → IsFilled s count sets → shared_count sets evicted 512 ≡ most
    filled_all s count sets all enough F =
        let was = F.taken in
        let had = F.counted in
        let end : shared_count (λ c. not (known c)) evicted s
        ≡ shared_count (λ c. not (known c)) evicted 512 =
        ap (shared_count (λ c. not (known c)) evicted) all in
        omega (arith, was, had, end, enough)
