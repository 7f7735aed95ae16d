-- A step for each number below a limit, up to the first error.
use Rattle.std.proofs.Common.{◌≡◌, ◌≢◌, ℕ, ◌<◌, List, [], ◌∷◌, ◌++◌, length, Some, Ok, Err, ap, sym}
use Rattle.std.proofs.Common.{◌∙◌, subst, inl, inr, arith, Result, slice_get}
use Rattle.crpd_base.proofs.Elements.{some_at, at_more}
use Rattle.task_shapes.specs.Steps.{EachBelow}

-- values for the first numbers
abbrev pub HasValues : {B E : Type 0} → (ℕ → Result B E → Type 0) → List B → Type 0
HasValues {B} P ys = (k : ℕ) (y : B) → slice_get ys k ≡ Some y → P k (Ok y)

module _ {B E : Type 0} (P : ℕ → Result B E → Type 0) where
  pub value_more : (ys zs : List B) (n : ℕ) (y : B) → HasValues P ys → length ys ≡ n → P n (Ok y)
      → zs ≡ ys ++ y ∷ [] → HasValues P zs
  value_more ys zs n y has count here e k x at =
      elim (at_more ys y k x (ap (λ (l : List B). slice_get l k) (sym e) ∙ at)) [
        | inl old ↦ has k x old
        | inr new ↦
            subst (λ i. P i (Ok x)) (sym (new.0 ∙ count)) (subst (λ z. P n (Ok z)) new.1 here)
      ]

  -- the error of one step is that of the whole sequence
  pub refused_below : (ys : List B) (n m : ℕ) (memory e : E) → HasValues P ys → length ys ≡ m
      → m < n → (e ≢ memory → P m (Err e)) → e ≢ memory → EachBelow P n (Err e)
  refused_below ys n m memory e has count below here not_memory = (
    m,
    below,
    here not_memory,
    λ j l. let x = some_at ys j (omega (arith, count, l)) in (x.0, has j x.0 x.1),
  )
