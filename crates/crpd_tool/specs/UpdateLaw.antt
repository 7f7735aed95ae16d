-- What `update` writes is the update of the old certificate, which the checker accepts. It is what
-- `analyze` writes for the new set, if the old certificate is what `analyze` makes for the old one.
use Rattle.std.specs.Prelude.{◌≡◌, ℕ, List, Some, Ok}
use Rattle.crpd_base.specs.declared.data.Certificate.{Certificate}
use Rattle.cert_build.specs.Best.{IsBest}
use Rattle.crpd_tool.specs.Shaped.{graphs_of}
use Rattle.cert_check.specs.Verdict.{IsJudged, Yes}
use Rattle.cert_update.specs.Update.{IsUpdate}
use Rattle.crpd_io.specs.Outside.{Contents}
use Rattle.task_shapes.specs.Shapes.{SetWithShapes}
use Rattle.crpd_input.specs.Reading.{certificate_in, input_in}
use Rattle.crpd_input.specs.Shapes.{ShapedFrom}
use Rattle.crpd_tool.specs.declared.answer.Outcome.TheVariants as ended
use Rattle.crpd_tool.specs.declared.status.Status.TheVariants.{Done}
use Rattle.crpd_tool.specs.Analyze.{AnalyzeEnds}
use Rattle.crpd_tool.specs.CheckedText.{IsCheckedText}
use Rattle.crpd_tool.specs.Output.{IsOut, Output}
use Rattle.crpd_tool.specs.Update.{shaped_side}
use Rattle.crpd_tool.specs.Commands.{command_of, update}

-- the files mean an old set, its certificate and a new set, with graphs and regions; the text is
-- that of the update of the old certificate to the new set, and is read as it, and the checker
-- accepts it
pub record IsUpdateWritten (contents : Contents)
    (old_set old_certificate new_set text : List ℕ) : Type 0 where
  pub old : SetWithShapes
  pub stated : Certificate
  pub new : SetWithShapes
  pub made : Certificate
  pub old_is : input_in contents old_set ≡ Ok old.input
  pub old_shapes_are : ShapedFrom old.input (Ok old)
  pub stated_is : certificate_in contents old_certificate ≡ Ok stated
  pub new_is : input_in contents new_set ≡ Ok new.input
  pub new_shapes_are : ShapedFrom new.input (Ok new)
  -- `check` accepts this text
  pub checked : IsCheckedText new.input made text
  pub update : IsUpdate (shaped_side old) stated (shaped_side new) made
  pub judged : IsJudged new.input.set (graphs_of new) made Yes
  -- an update of the analysis' certificate is the analysis' certificate of the new set
  pub best : IsBest old.input.set (graphs_of old) stated
      → IsBest new.input.set (graphs_of new) made
  -- `analyze` then writes this text for each contents in which the new set is the same
  pub analyzes : IsBest old.input.set (graphs_of old) stated
      → (others : Contents) (file : List ℕ) →
      input_in others file ≡ Ok new.input
      → AnalyzeEnds others file (Ok (record { text = text; outcome = ended.Done }))

-- this holds of each output of `update OLDSET OLDCERT NEWSET` with the status Done
abbrev pub DoneIsUpdate : List (List ℕ) → Contents → Type 0
DoneIsUpdate words contents =
    (old_set old_certificate new_set : List ℕ) (output : Output) →
    command_of words ≡ Some (update old_set old_certificate new_set) → IsOut words contents output
    → output.status ≡ Done →
    IsUpdateWritten contents old_set old_certificate new_set output.text
