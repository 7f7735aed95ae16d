-- Steps in sequence that have one end each, and what a sequence of steps leaves of the files.
use Rattle.std.proofs.Common.{◌≡◌, ◌∙◌, ℕ, List, Option, Result, Ok, Err, IsErrOf, IsErrAnd, ap}
use Rattle.std.proofs.Common.{refl, subst, sym, arith}
use Rattle.std.proofs.lemmas.Result.{err_from_is_err_and}
use Rattle.crpd_io.specs.Outside.{Contents, FileAnswer}
use Rattle.crpd_io.proofs.Logs.{adds_both}
use Rattle.crpd_input.specs.declared.halt.Halt.{Halt}
use Rattle.crpd_input.specs.declared.halt.Halt.TheVariants.{Refused, Memory, Fault}
use Rattle.crpd_input.specs.Steps.{IsRefusal, LeavesFiles, Means, Stops, and_then}

module _ {A B : Type 0} (step : Result A Halt) (next : A → Result B Halt) where
  pub stops_first : (halt : Halt) → Stops step halt → Stops (and_then step next) halt
  stops_first (Refused r) is = rw is refl
  stops_first Memory is = tt
  stops_first Fault is = tt

  -- the first step stopped
  pub ends_first : (halt : Halt) (result : Result B Halt) → IsErrAnd result (λ h. h ≡ halt)
      → Stops step halt → Means (and_then step next) result
  ends_first halt result is stops =
      let p = err_from_is_err_and result is in rw (p.1, p.2) (stops_first halt stops)

  -- the first step gave a value
  pub goes_first : (x : A) (result : Result B Halt) → step ≡ Ok x → Means (next x) result
      → Means (and_then step next) result
  goes_first x result is later =
      let P : Result A Halt → Type 0 = λ s. Means (and_then s next) result in
      subst P (sym is) later

-- a refusal, or out of memory, instead of this stop
pub one_stop : {A : Type 0} (meant : Result A Halt) (stop halt : Halt) → meant ≡ Err stop
    → IsRefusal stop halt → Stops meant halt
one_stop meant stop (Refused r) is here = is ∙ ap (λ (h : Halt). Err h) (sym here)
one_stop meant stop Memory is here = tt
one_stop meant stop Fault is here = tt

-- a stop stays what it is at another type of values
pub same_stop : {A B : Type 0} (halt : Halt) → IsErrOf {T = A} (Err halt) Fault
    → IsErrOf {T = B} (Err halt) Fault
same_stop halt fault = let same : halt ≡ Fault = cc in ap (λ (h : Halt). Err h) same

-- a step that passes a stop on stops at a fault only if that was one
pub passed_on : {A B : Type 0} (halt : Halt) (result : Result A Halt)
    → IsErrAnd result (λ h. h ≡ halt) → IsErrOf result Fault → IsErrOf {T = B} (Err halt) Fault
passed_on halt result is fault =
    let p = err_from_is_err_and result is in
    let same : p.0 ≡ Fault = cc in ap (λ (h : Halt). Err h) (sym p.2 ∙ same)

-- what two steps leave of the files, if the second is the one that may stop at a fault
pub leaves_both : {F A B C : Type 0} (contents : F → Option Contents) (faults : F → ℕ)
    (log : F → List FileAnswer) (first middle last : F) (one : Result A Halt)
    (two : Result B Halt) (result : Result C Halt)
    → LeavesFiles contents faults log first middle one
    → LeavesFiles contents faults log middle last two
    → (IsErrOf result Fault → IsErrOf two Fault)
    → LeavesFiles contents faults log first last result
leaves_both contents faults log first middle last one two result before after fault = (
  after.0 ∙ before.0,
  omega (arith, before.1, after.1),
  λ e. omega (arith, after.2 (fault e), before.1),
  adds_both before.3 after.3 before.0,
)
