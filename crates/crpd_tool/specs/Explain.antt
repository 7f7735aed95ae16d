-- The steps of `explain SET CERT SCRIPT`.
use Rattle.std.specs.Prelude.{◌≡◌, ℕ, List, ◌++◌, Result, Ok}
use Rattle.crpd_base.specs.declared.data.Certificate.{Certificate}
use Rattle.crpd_base.specs.declared.data.Script.{Script}
use Rattle.crpd_base.specs.declared.data.TaskSet.{TaskSet}
use Rattle.cert_check.specs.FirstFailing.{answer_of}
use Rattle.cert_check.specs.Verdict.{IsJudged}
use Rattle.cert_check.specs.declared.outcome.Verdict.{Verdict}
use Rattle.cert_check.specs.declared.outcome.Verdict.TheVariants.{Yes, No}
use Rattle.run_account.specs.Account.{IsAccount}
use Rattle.preempt_machine.specs.Starts.{start_of_script}
use Rattle.run_account.specs.declared.told.Account.{Account}
use Rattle.crpd_io.specs.Outside.{Contents}
use Rattle.crpd_report.specs.Explain.{delay_lines, reload_lines}
use Rattle.crpd_input.specs.declared.halt.Halt.{Halt}
use Rattle.task_shapes.specs.Shapes.{SetWithShapes}
use Rattle.crpd_input.specs.Reading.{certificate_in}
use Rattle.crpd_input.specs.Script.{script_in}
use Rattle.crpd_input.specs.Steps.{Exactly, Then}
use Rattle.crpd_tool.specs.Check.{verdict_answer}
use Rattle.crpd_tool.specs.Shaped.{graphs_of}
use Rattle.crpd_input.specs.Shapes.{ShapedIn}
use Rattle.crpd_tool.specs.Simulate.{IsRunLine, run_of}
use Rattle.crpd_tool.specs.declared.answer.Answer.{Answer}
use Rattle.crpd_tool.specs.declared.answer.Outcome.TheVariants.{Done}

-- the answer with an account: the lines of its reloads and of the certificate's delays, and the
-- line of the run
abbrev pub account_answer : TaskSet → Certificate → Account → List ℕ → Answer
account_answer set certificate account last =
    record {
      text = reload_lines set account.entries ++ delay_lines set certificate ++ last;
      outcome = Done;
    }

-- the account of the script's run over the graphs of all tasks, with the line of the run in the
-- state after the script's cycles
abbrev pub AccountOf : SetWithShapes → Certificate → Script → Result Answer Halt → Type 0
AccountOf shaped certificate script r =
    let input = shaped.input in
    (account : Account) × (last : List ℕ)
    × IsAccount (start_of_script input.set input.code script) (graphs_of shaped) certificate
    script.cycles account
    × IsRunLine input.set script (run_of input script) last
    × (r ≡ Ok (account_answer input.set certificate account last))

-- the account after a yes, otherwise the line of the no
abbrev pub ExplainedBy : SetWithShapes → Certificate → Script → Verdict → Result Answer Halt
    → Type 0
ExplainedBy shaped certificate script Yes r = AccountOf shaped certificate script r
ExplainedBy shaped certificate script (No task clause place) r =
    r ≡ Ok (verdict_answer shaped.input.set certificate (No task clause place))

-- what follows the checker's verdict on a certificate, over the graphs of all tasks with the
-- regions of their loops
abbrev pub ExplanationOf : SetWithShapes → Certificate → Script → Result Answer Halt → Type 0
ExplanationOf shaped certificate script r =
    (verdict : Verdict)
    × IsJudged shaped.input.set (graphs_of shaped) certificate (answer_of verdict)
    × ExplainedBy shaped certificate script verdict r

-- from the certificate on: the script, and then the verdict
abbrev pub ExplainFromCertificate : Contents → List ℕ → SetWithShapes → Certificate
    → Result Answer Halt → Type 0
ExplainFromCertificate contents script shaped stated =
    Then (Exactly (script_in contents script shaped.input.set)) (ExplanationOf shaped stated)

-- from the graphs and regions on: the certificate, the script, and then the verdict
abbrev pub ExplainFromShapes : Contents → List ℕ → List ℕ → SetWithShapes
    → Result Answer Halt → Type 0
ExplainFromShapes contents certificate script shaped =
    Then (Exactly (certificate_in contents certificate))
    (ExplainFromCertificate contents script shaped)

-- the whole command: the set with its code, the graphs of all tasks and the regions of their loops,
-- the certificate, the script, and then the verdict
abbrev pub ExplainEnds : Contents → List ℕ → List ℕ → List ℕ → Result Answer Halt → Type 0
ExplainEnds contents set certificate script =
    Then (ShapedIn contents set) (ExplainFromShapes contents certificate script)
