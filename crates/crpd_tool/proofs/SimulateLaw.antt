-- A run has one report, and with the status Done the text is such a report.
use Rattle.std.proofs.Common.{◌≡◌, ◌++◌, ℕ, List, Result, Ok, ap, sym, ◌∙◌}
use Rattle.std.proofs.lemmas.Bool.Decides.{same_from_decides}
use Rattle.crpd_base.specs.declared.data.Script.{Script}
use Rattle.crpd_base.specs.declared.data.TaskSet.{TaskSet}
use Rattle.crpd_base.specs.Arrivals.{IsLegal}
use Rattle.preempt_machine.specs.Machine.{Machine}
use Rattle.preempt_machine.specs.Safe.{IsKept}
use Rattle.crpd_io.specs.Outside.{Contents}
use Rattle.crpd_report.specs.Simulate.{job_lines, run_line}
use Rattle.task_shapes.specs.Inputs.{SetWithCode}
use Rattle.crpd_input.specs.declared.halt.Halt.{Halt}
use Rattle.crpd_input.specs.Reading.{input_in}
use Rattle.crpd_input.specs.Script.{script_in}
use Rattle.crpd_input.specs.Steps.{Exactly, Then}
use Rattle.crpd_tool.specs.Output.{ending_output}
use Rattle.crpd_tool.specs.SimulateLaw.{DoneIsReported, IsReported}
use Rattle.crpd_tool.specs.Simulate.{IsRunLine, ReportOf, SimulateEnds, completions_of, run_of}
use Rattle.crpd_tool.specs.Commands.{simulate}
use Rattle.crpd_tool.specs.declared.answer.Answer.{Answer}
use Rattle.crpd_tool.specs.declared.answer.Outcome.TheVariants as outcome
use Rattle.crpd_tool.specs.declared.status.Status.TheVariants.{Done}
use Rattle.crpd_tool.proofs.Done.{output_done, then_done}

-- a run has one line
pub one_line : (set : TaskSet) (script : Script) (m : Machine) (one other : List ℕ)
    → IsRunLine set script m one → IsRunLine set script m other → one ≡ other
one_line set script m one other a b =
    let legal = same_from_decides {P = IsLegal set script.jobs} a.legal b.legal a.legal_so
    b.legal_so in
    let kept = same_from_decides {P = IsKept m} a.kept b.kept a.kept_so b.kept_so in
    a.line_is ∙ ap (λ x. run_line x a.kept) legal ∙ ap (run_line b.legal) kept ∙ sym b.line_is

pub one_report : (input : SetWithCode) (script : Script) (r s : Result Answer Halt)
    → ReportOf input script r → ReportOf input script s → r ≡ s
one_report input script r s a b =
    let m = run_of input script in
    a.2
    ∙ ap (λ last. Ok (record {
      text = job_lines input.set script.jobs (completions_of m) ++ last;
      outcome = outcome.Done;
    })) (one_line input.set script m a.0 b.0 a.1 b.1)
    ∙ sym b.2

module _ (contents : Contents) (set script : List ℕ) where
  ended : (ending : Result Answer Halt) → SimulateEnds contents set script ending
      → (ending_output ending).status ≡ Done
      → IsReported contents set script (ending_output ending).text
  ended ending is e =
      let input = then_done (Exactly (input_in contents set))
      (λ input. Then (Exactly (script_in contents script input.set)) (ReportOf input))
      ending is e in
      let stated = then_done (Exactly (script_in contents script input.0.set))
      (ReportOf input.0) ending input.2 e in
      let report = stated.2 in
      record {
        input = input.0;
        stated = stated.0;
        last = report.0;
        input_is = input.1;
        script_is = stated.1;
        line = report.1;
        text_is = ap (λ (r : Result Answer Halt). (ending_output r).text) report.2;
      }

pub done_is_reported : (words : List (List ℕ)) (contents : Contents) → DoneIsReported words contents
done_is_reported words contents set script output =
    output_done words contents (simulate set script) output (IsReported contents set script)
    (ended contents set script)
