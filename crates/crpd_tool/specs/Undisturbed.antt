-- After a yes of `check`, an undisturbed job completes within a switch and its bound.
use Rattle.std.specs.Prelude.{◌≡◌, ℕ, List, length, Some, Ok}
use Rattle.crpd_base.specs.declared.data.Certificate.{Certificate}
use Rattle.crpd_io.specs.Outside.{Contents}
use Rattle.crpd_report.specs.Check.{yes_text}
use Rattle.sound_laws.specs.CheckedCode.{IsBoundedWith, bounds}
use Rattle.task_shapes.specs.Inputs.{SetWithCode}
use Rattle.crpd_input.specs.Reading.{certificate_in, input_in}
use Rattle.crpd_tool.specs.Output.{IsOut, Output}
use Rattle.crpd_tool.specs.Commands.{check, command_of}
use Rattle.crpd_tool.specs.declared.status.Status.TheVariants.{Done}

-- the files mean a set with its code, and a certificate; the text has the certificate's bounds, one
-- line for each task; from every cache and memory, in every kept run of any jobs, legal or not:
-- take the first step in which a job is the candidate. If it is the candidate for as many steps as
-- a switch and its task's bound take, or has ended sooner, it has completed when these steps end
pub record HasUndisturbedBounds (contents : Contents) (set certificate text : List ℕ) : Type 0 where
  pub input : SetWithCode
  pub stated : Certificate
  pub input_is : input_in contents set ≡ Ok input
  pub certificate_is : certificate_in contents certificate ≡ Ok stated
  pub text_is : text ≡ yes_text input.set stated
  pub count : length (bounds stated) ≡ length input.set.tasks
  pub bounded : IsBoundedWith input.set input.code (bounds stated)

-- this holds of each output of `check SET CERT` with the status Done
abbrev pub DoneIsBounded : List (List ℕ) → Contents → Type 0
DoneIsBounded words contents =
    (set certificate : List ℕ) (output : Output) →
    command_of words ≡ Some (check set certificate) → IsOut words contents output
    → output.status ≡ Done → HasUndisturbedBounds contents set certificate output.text
