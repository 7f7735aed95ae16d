-- A step, and then a reader of its value.
use Rattle.std.proofs.Common.{◌≡◌, ◌∙◌, Result, Ok, Err, refl, ap, sym, IsErrOf}
use Rattle.crpd_input.specs.declared.halt.Halt.{Halt}
use Rattle.crpd_input.specs.declared.halt.Halt.TheVariants.{Refused, Memory, Fault}
use Rattle.crpd_input.specs.Steps.{IsRefusal, Stops, and_then, or_refused}

module _ {X A E : Type 0} (halt_of : E → Halt) (reading : X → Result A E) where
  -- the step gave a value, and so did the reader
  pub read : (step : Result X Halt) (x : X) (a : A) → step ≡ Ok x → reading x ≡ Ok a
      → and_then step (λ y. or_refused halt_of (reading y)) ≡ Ok a
  read step x a given is = rw (given, is) refl

  -- the step gave a value, and the reader refused it, or was out of memory
  pub refused : (step : Result X Halt) (x : X) (memory e : E) (halt : Halt) → step ≡ Ok x
      → halt_of memory ≡ Memory → ((e ≡ memory → ⊥) → reading x ≡ Err e)
      → IsRefusal (halt_of e) halt
      → Stops (and_then step (λ y. or_refused halt_of (reading y))) halt
  refused step x memory e (Refused r) given want is stop =
      let told : reading x ≡ Err e =
      is (λ same. let no : Refused r ≡ Memory = stop ∙ ap halt_of same ∙ want in absurd cc) in
      rw (given, told) (ap (λ h. Err h) (sym stop))
  refused step x memory e Memory given want is stop = tt
  refused step x memory e Fault given want is stop = tt

-- a refusal, or out of memory, is not a fault
pub no_fault : {A : Type 0} (meant halt : Halt) → IsRefusal meant halt
    → IsErrOf {T = A} (Err halt) Fault → ⊥
no_fault meant (Refused r) stop e = absurd cc
no_fault meant Memory stop e = absurd cc
no_fault meant Fault stop e = stop
