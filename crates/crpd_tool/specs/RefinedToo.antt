-- Where `analyze` gives a certificate, `refine` gives windows, none of them longer.
use Rattle.std.specs.Prelude.{◌≡◌, ℕ, ◌<◌, ◌≤◌, List, length, Some, Ok}
use Rattle.crpd_base.specs.declared.data.Certificate.{Certificate}
use Rattle.crpd_base.specs.declared.data.RefinedTask.{RefinedTask}
use Rattle.cert_check.specs.JudgeInput.{window_at as certified_window}
use Rattle.delay_point.specs.Refined.{window_at}
use Rattle.task_shapes.specs.Inputs.{SetWithCode}
use Rattle.crpd_io.specs.Outside.{Contents}
use Rattle.crpd_input.specs.Reading.{input_in}
use Rattle.crpd_report.specs.Refine.{refined_text}
use Rattle.crpd_tool.specs.CheckedText.{IsCheckedText}
use Rattle.crpd_tool.specs.Commands.{analyze, command_of, refine}
use Rattle.crpd_tool.specs.Output.{IsOut, Output}
use Rattle.crpd_tool.specs.declared.status.Status.TheVariants.{Done}

-- the files mean a set with its code; the first text is that of a certificate of it, and the second
-- that of windows of which none is longer than in the certificate
pub record IsRefinedToo (contents : Contents) (set analyzed refined : List ℕ) : Type 0 where
  pub input : SetWithCode
  pub made : Certificate
  pub tasks : List RefinedTask
  pub input_is : input_in contents set ≡ Ok input
  pub certificate : IsCheckedText input made analyzed
  pub text_is : refined ≡ refined_text input.set tasks
  pub no_longer : (k : ℕ) → k < length input.set.tasks
      → window_at tasks k ≤ certified_window made k

-- if an output of `analyze SET` has the status Done, so has every output of `refine SET` over the
-- same contents
abbrev pub AnalyzedIsRefined : List (List ℕ) → Contents → Type 0
AnalyzedIsRefined words contents =
    (others : List (List ℕ)) (set : List ℕ) (output other : Output) →
    command_of words ≡ Some (analyze set) → IsOut words contents output → output.status ≡ Done
    → command_of others ≡ Some (refine set) → IsOut others contents other
    → (other.status ≡ Done) × IsRefinedToo contents set output.text other.text
