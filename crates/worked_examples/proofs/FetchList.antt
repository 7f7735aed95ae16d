-- The fetches of a run's steps, as a list that computes.
use Rattle.std.proofs.Common.{◌≡◌, ℕ, zero, suc, ◌+◌, ◌<◌, ◌≤◌, List, [], ◌∷◌, Option, Some, None}
use Rattle.std.proofs.Common.{Contains, sym, ap, subst, inl, inr, arith}
use Rattle.std.proofs.lemmas.Bool.{cases_eq}
use Rattle.preempt_machine.specs.Machine.{System, Machine}
use Rattle.preempt_machine.specs.Step.{step, Fetch, Start, state, fetch, fetch_at}

-- the fetch of step t, if there is one, before later ones
abbrev pub noted : ℕ → Option Fetch → List (ℕ × Fetch) → List (ℕ × Fetch)
noted t None later = later
noted t (Some f) later = (t, f) ∷ later

-- the fetches of n steps from a state, whose step is number t
abbrev pub fetches_from : System → ℕ → ℕ → Machine → List (ℕ × Fetch)
fetches_from sys zero t m = []
fetches_from sys (suc n) t m = noted t (fetch sys m) (fetches_from sys n (suc t) (step sys m))

noted_first : (t : ℕ) (o : Option Fetch) (later : List (ℕ × Fetch)) (f : Fetch) → o ≡ Some f
    → Contains (noted t o later) (t, f)
noted_first t None later f e = absurd (let x = e in cc)
noted_first t (Some g) later f e =
    (0, omega arith, ap (λ (h : Fetch). (t, h)) (let x = e in cc))

noted_later : (t : ℕ) (o : Option Fetch) (later : List (ℕ × Fetch)) (e : ℕ × Fetch)
    → Contains later e → Contains (noted t o later) e
noted_later t None later e c = c
noted_later t (Some g) later e c = let l = c.1 in (suc c.0, omega (arith, l), c.2)

-- each fetch of these steps is among them
pub fetch_is_listed : (s : Start) (n a t : ℕ) (f : Fetch) → a ≤ t → t < a + n
    → fetch_at s t ≡ Some f → Contains (fetches_from s.system n a (state s a)) (t, f)
fetch_is_listed s zero a t f le lt e = absurd (omega (arith, le, lt))
fetch_is_listed s (suc n) a t f le lt e =
    let later = fetches_from s.system n (suc a) (state s (suc a)) in
    elim (cases_eq t a) [
      | inl q ↦
          subst (λ u. Contains (noted a (fetch_at s a) later) (u, f)) (sym q)
          (noted_first a (fetch_at s a) later f (subst (λ u. fetch_at s u ≡ Some f) q e))
      | inr ne ↦
          noted_later a (fetch_at s a) later (t, f)
          (fetch_is_listed s n (suc a) t f (omega (arith, le, ne)) (omega (arith, lt)) e)
    ]
