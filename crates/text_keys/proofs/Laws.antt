-- What follows if reading found no error.
use Rattle.std.proofs.Common.{◌≡◌, ℕ, ◌+◌, Bool, true, false, cond, List, [], ◌∷◌, length, Result}
use Rattle.std.proofs.Common.{Ok, Err, refl, ap, subst, sym, arith}
use Rattle.std.specs.List.{AllByRecursion}
use Rattle.crpd_base.proofs.Results.{bind_ok, ok_is}
use Rattle.text_keys.specs.Paths.{each}

-- a test that found no error
pub guard_ok : {A E : Type 0} (b : Bool) (d : E) (r : Result A E) (y : A) → cond b (Err d) r ≡ Ok y
    → (b ≡ false) × (r ≡ Ok y)
guard_ok true d r y e = absurd cc
guard_ok false d r y e = (refl, e)

pub each_all : {T A E : Type 0} (P : A → Type 0) (read : ℕ → T → Result A E)
    → ((i : ℕ) (ms : T) (x : A) → read i ms ≡ Ok x → P x)
    → (i : ℕ) (ts : List T) (xs : List A) → each read i ts ≡ Ok xs → AllByRecursion P xs
unfolding each
each_all P read one i [] xs e = subst (AllByRecursion P) (ok_is [] xs e) tt
each_all P read one i (t ∷ ts) xs e =
    let a = bind_ok (read i t) _ xs e in
    let b = bind_ok (each read (i + 1) ts) _ xs a.2 in
    subst (AllByRecursion P) (ok_is (a.0 ∷ b.0) xs b.2) (
      one i t a.0 a.1,
      each_all P read one (i + 1) ts b.0 b.1,
    )

pub each_length : {T A E : Type 0} (read : ℕ → T → Result A E) (i : ℕ) (ts : List T) (xs : List A)
    → each read i ts ≡ Ok xs → length xs ≡ length ts
unfolding each
each_length read i [] xs e = ap length (sym (ok_is [] xs e))
each_length read i (t ∷ ts) xs e =
    let a = bind_ok (read i t) _ xs e in
    let b = bind_ok (each read (i + 1) ts) _ xs a.2 in
    subst (λ l. length l ≡ length (t ∷ ts)) (ok_is (a.0 ∷ b.0) xs b.2)
    (omega (arith, each_length read (i + 1) ts b.0 b.1))
