-- Credit on walks.
use Rattle.std.proofs.Common.{◌≡◌, ◌≢◌, ◌⊎◌, ℕ, ◌+◌, ◌<◌, ◌≤◌, Bool, true, false, ◌||◌}
use Rattle.std.proofs.Common.{List, [], ◌∷◌, Some, None, refl, sym, ◌∙◌, ap, subst, inl, inr, arith}
use Rattle.std.specs.Prelude.{zero, suc}
use Rattle.std.proofs.lemmas.Bool.{cases_eq, eq-eqb, ne_eqb, or_right, or_parts}
use Rattle.crpd_base.specs.Sum.{one_if}
use Rattle.crpd_base.proofs.Sums.{sum_le, sum_add, only, only_same, only_other, sum_only, sum_ge}
use Rattle.flat_graph.specs.Graph.{Graph, IsWalk, onto}
use Rattle.icache.specs.Accesses.{Accesses, last_access, first_access}
use Rattle.evict_sets.proofs.WalkLaws.{last_here, last_on, first_here, first_on}
use Rattle.walk_parts.specs.Credit.{Payments, in_credit, count_sets, credits}
use Rattle.walk_parts.specs.Credit.{CreditLaw, After, ArePrepaid, PrepaidLaw, PrepaidAfterLaw}
use Rattle.walk_parts.specs.Credit.{AreUseful, CreditCarryLaw}

one_or : (b c : Bool) → one_if (b || c) ≤ one_if b + one_if c
one_or true c = omega arith
one_or false c = omega arith

module _ (a : Accesses) (pay : Payments) where
  -- a node's own set is in credit after it only if the edge pays
  credit_own : (s u v : ℕ) (before : List ℕ) → a.set u ≡ s
      → in_credit a pay s (v ∷ u ∷ before) ≡ (pay.edge u v s || false)
  credit_own s u v before e = rw (eq-eqb (a.set u) s e) refl

  -- any other set if the edge pays or it was in credit
  credit_other : (s u v : ℕ) (before : List ℕ) → a.set u ≢ s
      → in_credit a pay s (v ∷ u ∷ before) ≡ (pay.edge u v s || in_credit a pay s (u ∷ before))
  credit_other s u v before ne = rw (ne_eqb (a.set u) s ne) refl

  paid_now : (s u v : ℕ) (before : List ℕ) → pay.edge u v s ≡ true
      → in_credit a pay s (v ∷ u ∷ before) ≡ true
  paid_now s u v before e = rw e refl

  -- if a set that the node does not access is not in credit, the edge did not pay and it was not
  none_before : (s u v : ℕ) (before : List ℕ) → a.set u ≢ s
      → in_credit a pay s (v ∷ u ∷ before) ≡ false
      → (pay.edge u v s ≡ false) × (in_credit a pay s (u ∷ before) ≡ false)
  none_before s u v before ne e =
      or_parts (pay.edge u v s) (in_credit a pay s (u ∷ before))
      (sym (credit_other s u v before ne) ∙ e)

  -- by one step
  credit_at : (s u v : ℕ) (before : List ℕ)
      → one_if (in_credit a pay s (v ∷ u ∷ before))
      + only (a.set u) (one_if (in_credit a pay (a.set u) (u ∷ before))) s
      ≤ one_if (pay.edge u v s) + one_if (in_credit a pay s (u ∷ before))
  credit_at s u v before =
      elim (cases_eq (a.set u) s) [
        | inl e ↦
            let same : only (a.set u) (one_if (in_credit a pay (a.set u) (u ∷ before))) s
            ≡ one_if (in_credit a pay s (u ∷ before)) =
            subst (λ z. only (a.set u) (one_if (in_credit a pay (a.set u) (u ∷ before))) z
            ≡ one_if (in_credit a pay z (u ∷ before))) e
            (only_same (a.set u) (one_if (in_credit a pay (a.set u) (u ∷ before)))) in
            let now = ap one_if (credit_own s u v before e) in
            let le = one_or (pay.edge u v s) false in
            omega (arith, same, now, le)
        | inr ne ↦
            let none = only_other (a.set u) (one_if (in_credit a pay (a.set u) (u ∷ before))) s
            (λ q. ne (sym q)) in
            let now = ap one_if (credit_other s u v before ne) in
            let le = one_or (pay.edge u v s) (in_credit a pay s (u ∷ before)) in
            omega (arith, none, now, le)
      ]

  pub credit_step : (n u v : ℕ) (before : List ℕ) → a.set u < n
      → credits a pay n (v ∷ u ∷ before) + one_if (in_credit a pay (a.set u) (u ∷ before))
      ≤ count_sets (pay.edge u v) n + credits a pay n (u ∷ before)
  credit_step n u v before l =
      let le = sum_le
      (λ s. one_if (in_credit a pay s (v ∷ u ∷ before))
      + only (a.set u) (one_if (in_credit a pay (a.set u) (u ∷ before))) s)
      (λ s. one_if (pay.edge u v s) + one_if (in_credit a pay s (u ∷ before))) n
      (λ s k. credit_at s u v before) in
      let left = sum_add (λ s. one_if (in_credit a pay s (v ∷ u ∷ before)))
      (only (a.set u) (one_if (in_credit a pay (a.set u) (u ∷ before)))) n in
      let right = sum_add (λ s. one_if (pay.edge u v s))
      (λ s. one_if (in_credit a pay s (u ∷ before))) n in
      let here = sum_only (a.set u) (one_if (in_credit a pay (a.set u) (u ∷ before))) n l in
      omega (arith, le, left, right, here)

  pub credit_one : (n s : ℕ) (w : List ℕ) → s < n → one_if (in_credit a pay s w) ≤ credits a pay n w
  credit_one n s w l = sum_ge (λ z. one_if (in_credit a pay z w)) n s l

no_credit : (a : Accesses) (pay : Payments) (n : ℕ) → credits a pay n [] ≡ 0
no_credit a pay zero = refl
no_credit a pay (suc n) = let z = no_credit a pay n in omega (arith, z)

pub credit_law : CreditLaw
credit_law a pay n [] below = let z = no_credit a pay n in omega (arith, z)
credit_law a pay n (y ∷ []) below = omega arith
credit_law a pay n (v ∷ u ∷ before) below =
    let so_far = credit_law a pay n (u ∷ before) below in
    let step = credit_step a pay n u v before (below u) in
    omega (arith, so_far, step)

module _ (g : Graph) (a : Accesses) (pay : Payments) (holds : ℕ → ℕ → ℕ → Type 0)
    (P : ArePrepaid g a pay holds) where
  pub prepaid : (y s m : ℕ) (before : List ℕ) → IsWalk g (y ∷ before) → holds y s m
      → (in_credit a pay s (y ∷ before) ≡ true) ⊎ (last_access a s before ≡ Some m)
  prepaid y s m [] walk h = inl (P.first s m (subst (λ z. holds z s m) walk h))
  prepaid y s m (u ∷ before) walk h =
      elim (P.edges u y s m walk.0 h) [
        | inl paid ↦ inl (paid_now a pay s u y before paid)
        | inr after ↦ elim after [
          | inl own ↦ inr (last_here a s u m before own.0 own.1)
          | inr on ↦ elim (prepaid u s m before walk.1 on.1) [
            | inl c ↦ inl (credit_other a pay s u y before on.0 ∙ or_right (pay.edge u y s) _ c)
            | inr last ↦ inr (last_on a s u before on.0 ∙ last)
          ]
        ]
      ]

  pub prepaid_after : (y s m : ℕ) (before : List ℕ) → IsWalk g (y ∷ before) → After a holds y s m
      → ((a.set y ≢ s) × (in_credit a pay s (y ∷ before) ≡ true))
      ⊎ (last_access a s (y ∷ before) ≡ Some m)
  prepaid_after y s m before walk (inl own) = inr (last_here a s y m before own.0 own.1)
  prepaid_after y s m before walk (inr on) =
      elim (prepaid y s m before walk on.1) [
        | inl c ↦ inl (on.0, c)
        | inr last ↦ inr (last_on a s y before on.0 ∙ last)
      ]

pub prepaid_law : PrepaidLaw
prepaid_law g a pay state y s m before P walk h =
    prepaid g a pay (λ y s m. state y s ≡ Some m) P y s m before walk h

pub prepaid_after_law : PrepaidAfterLaw
prepaid_after_law g a pay state y s m before P walk h =
    prepaid_after g a pay (λ y s m. state y s ≡ Some m) P y s m before walk h

-- an earlier end of a walk
pub ends_walk : (g : Graph) (later : List ℕ) (z y : ℕ) (before : List ℕ)
    → IsWalk g (z ∷ onto later (y ∷ before)) → IsWalk g (y ∷ before)
ends_walk g [] z y before walk = walk.1
ends_walk g (v ∷ later) z y before walk = (ends_walk g later z v (y ∷ before) walk).1

-- what is useful at the end of a walk that has not accessed or paid for it is useful at its start
module _ (g : Graph) (a : Accesses) (pay : Payments) (hit : ℕ → Bool) (useful : ℕ → ℕ → Bool)
    (U : AreUseful g a pay hit useful) where
  carried : (s z y : ℕ) (before later : List ℕ) → IsWalk g (z ∷ onto later (y ∷ before))
      → useful z s ≡ true → in_credit a pay s (z ∷ onto later (y ∷ before)) ≡ false
      → first_access a s (y ∷ later) ≡ None
      → (useful y s ≡ true) × (in_credit a pay s (y ∷ before) ≡ false)
  carried s z y before [] walk used none away =
      let ne : a.set y ≢ s = λ e. absurd (let h = first_here a s y [] e in cc) in
      let b = none_before a pay s y z before ne none in
      (U.edges y z s walk.0 ne b.0 used, b.1)
  carried s z y before (v ∷ later) walk used none away =
      let ne : a.set y ≢ s = λ e. absurd (let h = first_here a s y (v ∷ later) e in cc) in
      let rest = first_on a s y (v ∷ later) ne in
      let on = carried s z v (y ∷ before) later walk used none (sym rest ∙ away) in
      let b = none_before a pay s y v before ne on.1 in
      (U.edges y v s (ends_walk g later z v (y ∷ before) walk).0 ne b.0 on.0, b.1)

pub credit_carry_law : CreditCarryLaw
credit_carry_law g a pay hit useful y z before later edges U walk h none away =
    let used = U.own z (below later y before walk) h in
    (carried g a pay hit useful U (a.set z) z y before later walk used none away).0
  where
    below : (later : List ℕ) (y : ℕ) (before : List ℕ) → IsWalk g (z ∷ onto later (y ∷ before))
        → z < g.size
    below [] y before walk = edges y z walk.0
    below (v ∷ later) y before walk = below later v (y ∷ before) walk
