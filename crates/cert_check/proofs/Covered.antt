-- Sets that include others.
use Rattle.std.proofs.Common.{◌≡◌, ◌↔◌, ℕ, ◌<◌, ◌≤◌, Bool, true, false, List, Option, Some, None}
use Rattle.std.proofs.Common.{MatchOption, IsTrue, refl, sym, ⊎_elim, arith, eq-eqb, eqb-true}
use Rattle.std.specs.Prelude.{is_some, not}
use Rattle.std.proofs.lemmas.Bool.{cases_lt, false≢true}
use Rattle.crpd_base.specs.Sets.{member, has, IsFirstMissing}

-- each of the others is included, if none is missing
pub covered : (sets others : List ℕ) (o : Option ℕ) (b : Bool)
    → ((t : ℕ) → 512 ≤ t → member others t ≡ 0)
    → MatchOption o ((t : ℕ) → t < 512 → member others t ≡ 1 → member sets t ≡ 1)
    (λ s. IsFirstMissing sets others 512 s)
    → is_some o ≡ not b → IsTrue b ↔ ((t : ℕ) → IsTrue (has others t) → IsTrue (has sets t))
covered sets others None b within all e = (
  (λ h t there. eq-eqb (member sets t) 1 (each t (eqb-true (member others t) 1 there))),
  (λ h. is_true b e),
)
  where
    each : (t : ℕ) → member others t ≡ 1 → member sets t ≡ 1
    each t one =
        ⊎_elim (λ lt. all t lt one) (λ le. absurd (let z = within t le in omega (arith, z, one)))
        (cases_lt t 512)

    is_true : (b : Bool) → false ≡ not b → IsTrue b
    is_true true e = refl
    is_true false e = absurd (false≢true e)
covered sets others (Some s) b within first e = (
  (λ h. absurd (no_true b e h)),
  (λ all. absurd (let one =
      eqb-true (member sets s) 1 (all s (eq-eqb (member others s) 1 first.there)) in
      let z = first.lacks in omega (arith, one, z))),
)
  where
    no_true : (b : Bool) → true ≡ not b → IsTrue b → ⊥
    no_true true e h = false≢true (sym e)
    no_true false e h = false≢true h
