-- Lists that are written entry by entry.
use Rattle.std.proofs.Common.{ℕ, ◌+◌, ◌<◌, List, length, get_or, set, sym, subst, arith, inl, inr}
use Rattle.std.proofs.Common.{get_or-set_same, get_or-set_other}
use Rattle.std.proofs.lemmas.Bool.{cases_eq}

-- a fact about each entry below i holds at i too, once that entry is written
pub written_each : (P : ℕ → ℕ → Type 0) (xs : List ℕ) (i x : ℕ) → i < length xs
    → ((k : ℕ) → k < i → P k (get_or xs k 0)) → P i x
    → (k : ℕ) → k < i + 1 → P k (get_or (set xs i x) k 0)
written_each P xs i x room each here k lt =
    elim (cases_eq k i) [
      | inl e ↦
          subst (λ (q : ℕ). P q (get_or (set xs i x) q 0)) (sym e)
          (subst (P i) (sym (get_or-set_same xs i x 0 room)) here)
      | inr ne ↦
          subst (P k) (sym (get_or-set_other xs i k x 0 ne)) (each k (omega (arith, lt, ne)))
    ]
