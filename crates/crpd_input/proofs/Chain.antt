-- Steps in sequence that may have more than one end.
use Rattle.std.proofs.Common.{◌≡◌, Result, Ok, Err, IsErrAnd, refl, inl, inr}
use Rattle.std.proofs.lemmas.Result.{err_from_is_err_and}
use Rattle.crpd_input.specs.declared.halt.Halt.{Halt}
use Rattle.crpd_input.specs.declared.halt.Halt.TheVariants.{Refused, Memory, Fault}
use Rattle.crpd_input.specs.Steps.{MeansBy, StopsBy, Then}

module _ {A B : Type 0} (P : Result A Halt → Type 0) (next : A → Result B Halt → Type 0) where
  -- a step gave a value, and the next ones end with this result
  pub goes_on : (value : A) (result : Result B Halt) → P (Ok value) → MeansBy (next value) result
      → MeansBy (Then P next) result
  goes_on value (Ok x) here later = inl (value, here, later)
  goes_on value (Err (Refused r)) here later = inl (value, here, later)
  goes_on value (Err Memory) here later = tt
  goes_on value (Err Fault) here later = tt

  -- a step stopped
  pub stopped : (halt : Halt) → StopsBy P halt → StopsBy (Then P next) halt
  stopped (Refused r) here = inr (Refused r, here, refl)
  stopped Memory here = tt
  stopped Fault here = tt

-- a stop that `?` returns
pub stops_so : {T : Type 0} (P : Result T Halt → Type 0) (r : Result T Halt) (halt : Halt)
    → IsErrAnd r (λ h. h ≡ halt) → StopsBy P halt → MeansBy P r
stops_so P r halt e stops = let p = err_from_is_err_and r e in rw (p.1, p.2) stops
