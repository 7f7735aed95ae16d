-- A command is a sequence of steps. Each step gives a value, or the reason why the command stops.
use Rattle.std.specs.Prelude.{◌≡◌, ℕ, ◌≤◌, List, [], ◌∷◌, Option, Some, Result, Ok, Err, IsErrOf}
use Rattle.std.specs.Prelude.{codes}
pub use Rattle.crpd_base.specs.Limits.{file_bytes, certificate_bytes}
pub use Rattle.task_shapes.specs.Steps.{EachBelow, Exactly, Then}
pub use Rattle.crpd_io.specs.Outside.{HoldsFor}
use Rattle.crpd_io.specs.Outside.{AddsAnswers, Contents, FileAnswer, Rose}
use Rattle.crpd_io.specs.Whole.{file_within, FileRefusal, no_file, too_long}
use Rattle.crpd_input.specs.declared.cause.Cause.{Cause}
use Rattle.crpd_input.specs.declared.cause.Cause.TheVariants as cause
use Rattle.crpd_input.specs.declared.halt.Halt.{Halt}
use Rattle.crpd_input.specs.declared.halt.Halt.TheVariants.{Refused, Memory, Fault}

-- two steps in sequence: the first stop ends them
abbrev pub and_then : {A B : Type 0} → Result A Halt → (A → Result B Halt) → Result B Halt
and_then (Ok value) next = next value
and_then (Err halt) next = Err halt

-- a step for each item, up to the first stop
unfoldable pub each : {A B : Type 0} → (A → Result B Halt) → List A → Result (List B) Halt
each step [] = Ok []
each step (x ∷ xs) = and_then (step x) (λ y. and_then (each step xs) (λ ys. Ok (y ∷ ys)))

-- the refusal of a file or a task for this cause, with a detail
abbrev pub refusal : Cause → List ℕ → List ℕ → Halt
refusal why subject detail = Refused (record { cause = why; subject = subject; detail = detail })

-- the refusal without a detail
abbrev pub plain_refusal : Cause → List ℕ → Halt
plain_refusal why subject = refusal why subject (codes "-")

-- what a reader gives, with its error as the command's stop
abbrev pub or_refused : {A E : Type 0} → (E → Halt) → Result A E → Result A Halt
or_refused halt_of (Ok value) = Ok value
or_refused halt_of (Err e) = Err (halt_of e)

-- a file's bytes, with the refusal of the file as the command's stop
abbrev pub refused_file : {A : Type 0} → List ℕ → Result A FileRefusal → Result A Halt
refused_file name (Ok bytes) = Ok bytes
refused_file name (Err no_file) = Err (plain_refusal cause.NoFile name)
refused_file name (Err too_long) = Err (plain_refusal cause.FileTooLong name)

-- a file's bytes, or why there are none
abbrev pub bytes_in : ℕ → Contents → List ℕ → Result (List ℕ) Halt
bytes_in most contents name = refused_file name (file_within most (contents name))

-- a fact about the contents, if these are given
abbrev pub HoldsWhereTold : Option Contents → (Contents → Type 0) → Type 0
HoldsWhereTold told P = (c : Contents) → told ≡ Some c → P c

-- the result is this stop, unless it is out of memory or a fault
abbrev pub Stops : {A : Type 0} → Result A Halt → Halt → Type 0
Stops meant (Refused refusal) = meant ≡ Err (Refused refusal)
Stops meant Memory = Unit {0}
Stops meant Fault = Unit {0}

-- the code's result is the defined one, unless it is out of memory or a fault
abbrev pub Means : {A : Type 0} → Result A Halt → Result A Halt → Type 0
Means meant (Ok value) = meant ≡ Ok value
Means meant (Err halt) = Stops meant halt

-- this stop, or out of memory
abbrev pub IsRefusal : Halt → Halt → Type 0
IsRefusal meant (Refused refusal) = Refused refusal ≡ meant
IsRefusal meant Memory = Unit {0}
IsRefusal meant Fault = ⊥

-- a step leaves the files unchanged: their contents stay, their count of faults never falls, the
-- step stops at a fault only if the count rose, and answers are only added
abbrev pub LeavesFiles : {F A : Type 0} → (F → Option Contents) → (F → ℕ)
    → (F → List FileAnswer) → (old new : F) → Result A Halt → Type 0
LeavesFiles contents faults log old new result =
    (contents new ≡ contents old) × (faults old ≤ faults new)
    × (IsErrOf result Fault → Rose (faults old) (faults new))
    × AddsAnswers (contents old) (log old) (log new)

-- ---- steps with more than one possible end

-- as a step of a command: its error is the command's stop
abbrev pub AsStep : {A E : Type 0} → (E → Halt) → (Result A E → Type 0) → Result A Halt → Type 0
AsStep halt_of P (Ok value) = P (Ok value)
AsStep {A} {E} halt_of P (Err halt) = (error : E) × P (Err error) × (halt ≡ halt_of error)

-- the stop is one of the defined ones, unless it is out of memory or a fault
abbrev pub StopsBy : {A : Type 0} → (Result A Halt → Type 0) → Halt → Type 0
StopsBy P (Refused refusal) = P (Err (Refused refusal))
StopsBy P Memory = Unit {0}
StopsBy P Fault = Unit {0}

-- the code's result is one of the defined ones, unless it is out of memory or a fault
abbrev pub MeansBy : {A : Type 0} → (Result A Halt → Type 0) → Result A Halt → Type 0
MeansBy P (Ok value) = P (Ok value)
MeansBy P (Err halt) = StopsBy P halt
