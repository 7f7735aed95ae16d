-- What `classic` writes is the certificate with the plain union delays, which the checker accepts.
use Rattle.std.specs.Prelude.{◌≡◌, ℕ, List, Some, Ok}
use Rattle.crpd_base.specs.declared.data.Certificate.{Certificate}
use Rattle.cert_check.specs.JudgeInput.{responses}
use Rattle.cert_check.specs.Verdict.{IsJudged, Yes}
use Rattle.crpd_tool.specs.Shaped.{graphs_of}
use Rattle.delay_classic.specs.Classic.{HasBest, IsClassic}
use Rattle.preempt_machine.specs.Safe.{IsSafeWith}
use Rattle.crpd_io.specs.Outside.{Contents}
use Rattle.crpd_tool.specs.declared.status.Status.TheVariants.{Done}
use Rattle.task_shapes.specs.Shapes.{SetWithShapes}
use Rattle.crpd_tool.specs.CheckedText.{IsCheckedText}
use Rattle.crpd_tool.specs.Output.{IsOut, Output}
use Rattle.crpd_input.specs.Reading.{input_in}
use Rattle.crpd_input.specs.Shapes.{ShapedFrom}
use Rattle.crpd_tool.specs.Commands.{classic, command_of}

-- the files mean a set with its code, which has graphs and regions; the text is that of the one
-- certificate with the plain union delays of these, and is read as it
pub record IsSoundClassic (contents : Contents) (set text : List ℕ) : Type 0 where
  pub shaped : SetWithShapes
  pub made : Certificate
  pub input_is : input_in contents set ≡ Ok shaped.input
  pub shapes_are : ShapedFrom shaped.input (Ok shaped)
  -- `check` accepts this text
  pub checked : IsCheckedText shaped.input made text
  pub is : IsClassic shaped.input.set (graphs_of shaped) made
  pub only : (c : Certificate) → IsClassic shaped.input.set (graphs_of shaped) c
      → c ≡ made
  -- the checker accepts it, so no job misses its certified response
  pub judged : IsJudged shaped.input.set (graphs_of shaped) made Yes
  pub safe : IsSafeWith shaped.input.set shaped.input.code (responses made)
  -- there is the analysis' certificate too, and none of its windows is longer
  pub best : HasBest shaped.input.set (graphs_of shaped) made

-- this holds of each output of `classic SET` with the status Done
abbrev pub DoneIsClassic : List (List ℕ) → Contents → Type 0
DoneIsClassic words contents =
    (set : List ℕ) (output : Output) →
    command_of words ≡ Some (classic set) → IsOut words contents output → output.status ≡ Done
    → IsSoundClassic contents set output.text
