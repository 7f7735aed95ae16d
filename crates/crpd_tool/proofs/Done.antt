-- The steps from which outputs with the status Done result.
use Rattle.std.proofs.Common.{◌≡◌, ℕ, List, Some, Result, Ok, Err, refl, ap, sym, subst, ◌∙◌, inl}
use Rattle.std.proofs.Common.{inr}
use Rattle.cert_check.specs.declared.outcome.Verdict.{Verdict}
use Rattle.cert_check.specs.declared.outcome.Verdict.TheVariants.{Yes, No}
use Rattle.crpd_io.specs.Outside.{Contents}
use Rattle.crpd_input.specs.declared.halt.Halt.{Halt}
use Rattle.crpd_input.specs.declared.halt.Halt.TheVariants.{Refused, Memory, Fault}
use Rattle.task_shapes.specs.Inputs.{SetWithCode}
use Rattle.task_shapes.specs.Shapes.{SetWithShapes}
use Rattle.crpd_input.specs.Shapes.{ShapedFrom}
use Rattle.crpd_input.specs.Steps.{Exactly, Then}
use Rattle.crpd_tool.specs.Check.{verdict_outcome}
use Rattle.crpd_tool.specs.Commands.{Command, command_of}
use Rattle.crpd_tool.specs.Output.{Ends, IsOut, Output, ending_output, status_of}
use Rattle.crpd_tool.specs.declared.answer.Answer.{Answer}
use Rattle.crpd_tool.specs.declared.status.Status.TheVariants.{Done}
use Rattle.crpd_tool.proofs.Finish.{some-out}
use Rattle.crpd_tool.proofs.ReadSet.{IsReadFrom, read_from}

-- what holds of the texts of a command's ends with Done holds of its output
pub output_done : (words : List (List ℕ)) (contents : Contents) (command : Command)
    (output : Output) (P : List ℕ → Type 0)
    → ((ending : Result Answer Halt) → Ends command contents ending
    → (ending_output ending).status ≡ Done → P (ending_output ending).text)
    → command_of words ≡ Some command → IsOut words contents output → output.status ≡ Done
    → P output.text
output_done words contents command output P ended is out e =
    let given = some-out words contents command output is out in
    subst P (sym (ap (λ (o : Output). o.text) given.2))
    (ended given.0 given.1 (ap (λ (o : Output). o.status) (sym given.2) ∙ e))

-- a stop has a status other than Done
pub refused_done : (r : Halt) (ending : Result Answer Halt) → ending ≡ Err r
    → (ending_output ending).status ≡ Done → ⊥
refused_done r (Ok a) is e = cc
refused_done r (Err (Refused s)) is e = cc
refused_done r (Err Memory) is e = cc
refused_done r (Err Fault) is e = cc

-- the value with which a step continued
pub then_done : {A : Type 0} (P : Result A Halt → Type 0) (next : A → Result Answer Halt → Type 0)
    (ending : Result Answer Halt) → Then P next ending → (ending_output ending).status ≡ Done
    → (x : A) × P (Ok x) × next x ending
then_done P next ending (inl went) e = went
then_done P next ending (inr stopped) e = absurd (refused_done stopped.0 ending stopped.2 e)

-- the set with its shapes, with which a command continued
pub shapes_done : (given : Result SetWithCode Halt)
    (next : SetWithShapes → Result Answer Halt → Type 0) (ending : Result Answer Halt)
    → Then (Then (Exactly given) ShapedFrom) next ending → (ending_output ending).status ≡ Done
    → (shaped : SetWithShapes) × IsReadFrom given shaped × next shaped ending
shapes_done given next ending is e =
    let shaped = then_done (Then (Exactly given) ShapedFrom) next ending is e in
    (shaped.0, read_from given shaped.0 shaped.1, shaped.2)

pub yes_only : (v : Verdict) → status_of (verdict_outcome v) ≡ Done → v ≡ Yes
yes_only Yes e = refl
yes_only (No task clause place) e = absurd cc
