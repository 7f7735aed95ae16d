-- The sets of the nodes so far, as they are collected.
use Rattle.std.proofs.Common.{◌≡◌, ◌≢◌, ℕ, ◌+◌, ◌<◌, List, IsTrue, ◌↔◌, refl, sym, ◌∙◌, ap, ⊎_elim}
use Rattle.std.proofs.Common.{arith, ne_eqb, eq-eqb, if◌then◌else◌, ◌==◌, true, false}
use Rattle.std.proofs.lemmas.Bool.{cases_eq, eqb-true}
use Rattle.crpd_base.specs.Sets.{member, has}
use Rattle.icache.specs.Accesses.{Accesses}
use Rattle.evict_sets.specs.Evicting.{IsAccessedBelow}

pub none_accessed : (a : Accesses) (words : List ℕ) → ((t : ℕ) → member words t ≡ 0) → (s : ℕ)
    → IsTrue (has words s) ↔ IsAccessedBelow a 0 s
none_accessed a words none s = (
  λ h. absurd (omega (arith, none s, eqb-true (member words s) 1 h)),
  λ b. absurd (omega (arith, b.1)),
)

pub more_accessed : (a : Accesses) (old new : List ℕ) (n x : ℕ) → a.set n ≡ x
    → ((t : ℕ) → member new t ≡ (if t == x then 1 else member old t))
    → ((s : ℕ) → IsTrue (has old s) ↔ IsAccessedBelow a n s)
    → (s : ℕ) → IsTrue (has new s) ↔ IsAccessedBelow a (n + 1) s
more_accessed a old new n x at is so_far s =
    ⊎_elim
    (λ (same : s ≡ x).
    let b : (s == x) ≡ true = eq-eqb s x same in
    (λ h. (n, omega arith, at ∙ sym same), λ h. eq-eqb (member new s) 1 (is s ∙ rw b refl)))
    (λ (ne : s ≢ x).
    let b : (s == x) ≡ false = ne_eqb s x ne in
    let other : member new s ≡ member old s = is s ∙ rw b refl in
    let same : has new s ≡ has old s = ap (λ m. m == 1) other in (
      λ h.
          let o = (so_far s).0 (sym same ∙ h) in (o.0, omega (arith, o.1), o.2),
      λ o. same ∙ (so_far s).1 (o.0, below o.0 o.1 o.2 ne, o.2),
    ))
    (cases_eq s x) where
      below : (y : ℕ) → y < n + 1 → a.set y ≡ s → s ≢ x → y < n
      below y lt there ne =
          ⊎_elim (λ (e : y ≡ n). absurd (ne (sym there ∙ ap a.set e ∙ at))) (λ other. omega arith)
          (cases_eq y n)
