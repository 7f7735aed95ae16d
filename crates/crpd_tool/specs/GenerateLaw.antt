-- What `generate` writes with the status Done, and that no job of a kept run is late.
use Rattle.std.specs.Prelude.{◌≡◌, ◌↔◌, IsTrue, ℕ, Bool, true, List, ◌++◌, Some, Ok}
use Rattle.crpd_base.specs.declared.data.Certificate.{Certificate}
use Rattle.crpd_base.specs.Arrivals.{IsLegal}
use Rattle.cert_build.specs.Best.{IsBest}
use Rattle.cert_check.specs.JudgeInput.{responses}
use Rattle.cert_check.specs.Verdict.{IsJudged, Yes}
use Rattle.crpd_tool.specs.Shaped.{graphs_of}
use Rattle.cert_check.specs.declared.outcome.Verdict.TheVariants as verdict
use Rattle.preempt_machine.specs.Safe.{IsKept, IsSafeWith}
use Rattle.crpd_io.specs.Outside.{Contents}
use Rattle.crpd_report.specs.Generate.{generate_text, jobs_line, late_count}
use Rattle.crpd_report.specs.Simulate.{is_legal, run_line}
use Rattle.gen_tasks.specs.GeneratedInput.{made}
use Rattle.task_shapes.specs.Shapes.{SetWithShapes}
use Rattle.crpd_input.specs.Shapes.{ShapedFrom}
use Rattle.crpd_tool.specs.Generate.{made_input, node_count}
use Rattle.crpd_tool.specs.Output.{IsOut, Output}
use Rattle.crpd_tool.specs.Simulate.{completions_of, run_of}
use Rattle.crpd_tool.specs.Commands.{command_of, generate}
use Rattle.crpd_tool.specs.declared.status.Status.TheVariants.{Done}

-- the generated input has a certificate of the analysis, which the checker accepts, so the set is
-- safe with its responses; the script is legal; the text is that of the certificate and of the run;
-- if the last line says that the run is legal and kept, the line before it says that no job is late
pub record IsGenerated (n : ℕ) (text : List ℕ) : Type 0 where
  pub shaped : SetWithShapes
  pub found : Certificate
  pub kept : Bool
  pub input_is : made_input n ≡ Ok shaped.input
  pub shapes_are : ShapedFrom shaped.input (Ok shaped)
  pub best : IsBest shaped.input.set (graphs_of shaped) found
  pub judged : IsJudged shaped.input.set (graphs_of shaped) found Yes
  pub safe : IsSafeWith shaped.input.set shaped.input.code (responses found)
  pub legal : IsLegal shaped.input.set (made n).script.jobs
  pub legal_said : is_legal shaped.input.set (made n).script.jobs ≡ true
  pub kept_so : IsTrue kept ↔ IsKept (run_of shaped.input (made n).script)
  pub text_is : text ≡ generate_text n (node_count shaped.graphs) shaped.input.set found verdict.Yes
      (made n).script (completions_of (run_of shaped.input (made n).script)) kept
  pub none_late : IsTrue kept
      → late_count (made n).script found (completions_of (run_of shaped.input (made n).script)) ≡ 0
  pub late_0 : (front : List ℕ) → text ≡ front ++ run_line true true
      → (before : List ℕ) × (jobs : ℕ) × (answered : ℕ)
      × (text ≡ before ++ jobs_line jobs answered 0 ++ run_line true true)

-- this holds of each output of `generate N` with the status Done
abbrev pub DoneIsGenerated : List (List ℕ) → Contents → Type 0
DoneIsGenerated words contents =
    (n : ℕ) (output : Output) →
    command_of words ≡ Some (generate n) → IsOut words contents output → output.status ≡ Done
    → IsGenerated n output.text
