-- Steps in sequence that fail in one way.
use Rattle.std.proofs.Common.{◌≡◌, ℕ, List, Result, Ok, Err, sym, ap, ◌∙◌, subst, inl, inr, arith}
use Rattle.std.proofs.lemmas.Bool.{cases_lt}
use Rattle.crpd_base.proofs.Elements.{some_at}
use Rattle.crpd_base.proofs.Results.{ok_not_err}
use Rattle.task_shapes.specs.Steps.{EachBelow, Exactly, Then}

-- a step ends with values, or with one error
pub record IsRefusedOnce {A E : Type 0} (P : Result A E → Type 0) : Type 0 where
  pub exclusive : (x : A) (r : E) → P (Ok x) → P (Err r) → ⊥
  pub one : (r s : E) → P (Err r) → P (Err s) → r ≡ s

module _ {A E : Type 0} (P : ℕ → Result A E → Type 0) (once : (k : ℕ) → IsRefusedOnce (P k))
    (n : ℕ) where
  each_exclusive : (xs : List A) (r : E) → EachBelow P n (Ok xs) → EachBelow P n (Err r) → ⊥
  each_exclusive xs r all e =
      let x = some_at xs e.0 (omega (arith, all.0, e.1)) in
      (once e.0).exclusive x.0 r (all.1 e.0 x.0 x.1) e.2

  each_one : (r s : E) → EachBelow P n (Err r) → EachBelow P n (Err s) → r ≡ s
  each_one r s e f =
      elim (cases_lt e.0 f.0) [
        | inl lt ↦ let y = f.3 e.0 lt in absurd ((once e.0).exclusive y.0 r y.1 e.2)
        | inr ge ↦ elim (cases_lt f.0 e.0) [
          | inl lt ↦ let y = e.3 f.0 lt in absurd ((once f.0).exclusive y.0 s y.1 f.2)
          | inr le ↦ let same : f.0 ≡ e.0 =
              omega (arith, ge, le) in (once e.0).one r s e.2 (subst (λ k. P k (Err s)) same f.2)
        ]
      ]

  pub each_once : IsRefusedOnce (EachBelow P n)
  each_once = record { exclusive = each_exclusive; one = each_one }

pub exactly_once : {A E : Type 0} (meant : Result A E) → IsRefusedOnce (Exactly meant)
exactly_once meant = record { exclusive = λ x r a b. absurd cc; one = λ r s a b. cc }

same_err : {A E : Type 0} (r s p q : E) → ◌≡◌ {A = Result A E} (Err r) (Err p)
    → ◌≡◌ {A = Result A E} (Err s) (Err q) → p ≡ q → r ≡ s
same_err r s p q a b e = cc

-- a step with at most one value, and then a step that fails in one way
module _ {A B E : Type 0} (P : Result A E → Type 0) (next : A → Result B E → Type 0)
    (once : IsRefusedOnce P) (same : (x y : A) → P (Ok x) → P (Ok y) → x ≡ y)
    (later : (x : A) → IsRefusedOnce (next x)) where
  then_exclusive : (x : B) (r : E) → Then P next (Ok x) → Then P next (Err r) → ⊥
  then_exclusive x r (inl a) (inl b) =
      (later a.0).exclusive x r a.2 (subst (λ v. next v (Err r)) (sym (same a.0 b.0 a.1 b.1)) b.2)
  then_exclusive x r (inl a) (inr b) = once.exclusive a.0 b.0 a.1 b.1
  then_exclusive x r (inr a) b = ok_not_err x a.0 a.2

  then_refused : (r s : E) → Then P next (Err r) → Then P next (Err s) → r ≡ s
  then_refused r s (inl a) (inl b) =
      (later a.0).one r s a.2 (subst (λ v. next v (Err s)) (sym (same a.0 b.0 a.1 b.1)) b.2)
  then_refused r s (inl a) (inr b) = absurd (once.exclusive a.0 b.0 a.1 b.1)
  then_refused r s (inr a) (inl b) = absurd (once.exclusive b.0 a.0 b.1 a.1)
  then_refused r s (inr a) (inr b) = same_err {A = B} r s a.0 b.0 a.2 b.2 (once.one a.0 b.0 a.1 b.1)

  pub then_once : IsRefusedOnce (Then P next)
  then_once = record { exclusive = then_exclusive; one = then_refused }

-- a step, and then a value that is computed from its value
module _ {A B E : Type 0} (P : Result A E → Type 0) (f : A → B) (once : IsRefusedOnce P) where
  value_exclusive : (x : B) (r : E) → Then P (λ v. Exactly (Ok (f v))) (Ok x)
      → Then P (λ v. Exactly (Ok (f v))) (Err r) → ⊥
  value_exclusive x r a (inl b) = ok_not_err (f b.0) r b.2
  value_exclusive x r (inl a) (inr b) = once.exclusive a.0 b.0 a.1 b.1
  value_exclusive x r (inr a) (inr b) = ok_not_err x a.0 a.2

  value_refused : (r s : E) → Then P (λ v. Exactly (Ok (f v))) (Err r)
      → Then P (λ v. Exactly (Ok (f v))) (Err s) → r ≡ s
  value_refused r s (inl a) b = absurd (ok_not_err (f a.0) r a.2)
  value_refused r s (inr a) (inl b) = absurd (ok_not_err (f b.0) s b.2)
  value_refused r s (inr a) (inr b) =
      same_err {A = B} r s a.0 b.0 a.2 b.2 (once.one a.0 b.0 a.1 b.1)

  pub value_once : IsRefusedOnce (Then P (λ v. Exactly (Ok (f v))))
  value_once = record { exclusive = value_exclusive; one = value_refused }

-- the ends after a step that fails in one way, if what follows its values ends alike
module _ {A B E : Type 0} (P : Result A E → Type 0) (next other : A → Result B E → Type 0)
    (once : IsRefusedOnce P)
    (same : (x y : A) → P (Ok x) → P (Ok y) → (r s : Result B E) → next x r → other y s
    → r ≡ s) where
  pub thens_one : (r s : Result B E) → Then P next r → Then P other s → r ≡ s
  thens_one r s (inl a) (inl b) = same a.0 b.0 a.1 b.1 r s a.2 b.2
  thens_one r s (inl a) (inr b) = absurd (once.exclusive a.0 b.0 a.1 b.1)
  thens_one r s (inr a) (inl b) = absurd (once.exclusive b.0 a.0 b.1 a.1)
  thens_one r s (inr a) (inr b) = a.2 ∙ ap (λ e. Err e) (once.one a.0 b.0 a.1 b.1) ∙ sym b.2
