-- The sets of the nodes that are hits, found in sequence.
use Rattle.std.proofs.Common.{◌≡◌, ◌≢◌, ℕ, ◌+◌, ◌<◌, ◌==◌, if◌then◌else◌, List, IsTrue, refl, ◌↔◌}
use Rattle.std.proofs.Common.{Bool, false, sym, ap, ◌∙◌, ⊎_elim, arith, eq-eqb, ne_eqb}
use Rattle.std.proofs.lemmas.Bool.{cases_eq, false≢true}
use Rattle.crpd_base.specs.Sets.{member, has}

-- a set is included if one of the first nodes is a hit in it
abbrev pub AreSetsOf : (ℕ → Bool) → (ℕ → ℕ) → ℕ → List ℕ → Type 0
AreSetsOf hit set n sets =
    (s : ℕ) → IsTrue (has sets s) ↔ ((z : ℕ) × (z < n) × IsTrue (hit z) × (set z ≡ s))

module _ (hit : ℕ → Bool) (set : ℕ → ℕ) (n : ℕ) (old new : List ℕ) where
  pub sets_none : ((t : ℕ) → member old t ≡ 0) → AreSetsOf hit set 0 old
  sets_none none s = (
    λ h. absurd (false≢true (sym (ap (λ m. m == 1) (none s)) ∙ h)),
    λ h. absurd (omega (arith, h.1)),
  )

  pub sets_more : AreSetsOf hit set n old
      → ((t : ℕ) → member new t ≡ (if t == set n then 1 else member old t)) → IsTrue (hit n)
      → AreSetsOf hit set (n + 1) new
  sets_more before is here s = ⊎_elim
      (λ (e : s ≡ set n).
      let one : member new s ≡ 1 = is s ∙ rw (eq-eqb s (set n) e) refl in
      (λ h. (n, omega arith, here, sym e), λ h. ap (λ m. m == 1) one))
      (λ (off : s ≢ set n).
      let same : member new s ≡ member old s = is s ∙ rw (ne_eqb s (set n) off) refl in (
        λ h. let b =
            (before s).0 (sym (ap (λ m. m == 1) same) ∙ h) in (b.0, omega (arith, b.1), b.2, b.3),
        λ h. ap (λ m. m == 1) same
            ∙ (before s).1 (
              h.0,
              ⊎_elim (λ (e : h.0 ≡ n). absurd (off (sym h.3 ∙ ap set e)))
                  (λ (ne : h.0 ≢ n). omega (arith, h.1)) (cases_eq h.0 n),
              h.2,
              h.3,
            ),
      ))
      (cases_eq s (set n))

  pub sets_same : AreSetsOf hit set n old → hit n ≡ false → AreSetsOf hit set (n + 1) old
  sets_same before miss s = (
    λ h. let b = (before s).0 h in (b.0, omega (arith, b.1), b.2, b.3),
    λ h. (before s).1 (
      h.0,
      ⊎_elim (λ (e : h.0 ≡ n). absurd (false≢true (sym miss ∙ ap hit (sym e) ∙ h.2)))
          (λ (ne : h.0 ≢ n). omega (arith, h.1)) (cases_eq h.0 n),
      h.2,
      h.3,
    ),
  )
