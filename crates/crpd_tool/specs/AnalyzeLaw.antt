-- What `analyze` writes is the analysis' certificate, which the checker accepts.
use Rattle.std.specs.Prelude.{◌≡◌, ℕ, List, Some, Ok}
use Rattle.crpd_base.specs.declared.data.Certificate.{Certificate}
use Rattle.cert_build.specs.Best.{IsBest}
use Rattle.crpd_tool.specs.Shaped.{graphs_of}
use Rattle.cert_check.specs.Verdict.{IsJudged, Yes}
use Rattle.crpd_io.specs.Outside.{Contents}
use Rattle.crpd_tool.specs.declared.status.Status.TheVariants.{Done}
use Rattle.task_shapes.specs.Shapes.{SetWithShapes}
use Rattle.crpd_tool.specs.CheckedText.{IsCheckedText}
use Rattle.crpd_tool.specs.Output.{IsOut, Output}
use Rattle.crpd_input.specs.Reading.{input_in}
use Rattle.crpd_input.specs.Shapes.{ShapedFrom}
use Rattle.crpd_tool.specs.Commands.{analyze, command_of}

-- the files mean a set with its code, which has graphs and regions; the text is that of the
-- analysis' certificate of these, and is read as it, and the checker accepts it
pub record IsAnalyzed (contents : Contents) (set text : List ℕ) : Type 0 where
  pub shaped : SetWithShapes
  pub made : Certificate
  pub input_is : input_in contents set ≡ Ok shaped.input
  pub shapes_are : ShapedFrom shaped.input (Ok shaped)
  -- `check` accepts this text
  pub checked : IsCheckedText shaped.input made text
  pub best : IsBest shaped.input.set (graphs_of shaped) made
  pub judged : IsJudged shaped.input.set (graphs_of shaped) made Yes

-- this holds of each output of `analyze SET` with the status Done
abbrev pub DoneIsBest : List (List ℕ) → Contents → Type 0
DoneIsBest words contents =
    (set : List ℕ) (output : Output) →
    command_of words ≡ Some (analyze set) → IsOut words contents output → output.status ≡ Done
    → IsAnalyzed contents set output.text
