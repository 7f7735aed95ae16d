-- What `simulate` writes is the script's run, and its last line is true of the run.
use Rattle.std.specs.Prelude.{◌≡◌, ℕ, List, ◌++◌, Some, Ok}
use Rattle.crpd_base.specs.declared.data.Script.{Script}
use Rattle.crpd_io.specs.Outside.{Contents}
use Rattle.crpd_report.specs.Simulate.{job_lines}
use Rattle.task_shapes.specs.Inputs.{SetWithCode}
use Rattle.crpd_input.specs.Reading.{input_in}
use Rattle.crpd_input.specs.Script.{script_in}
use Rattle.crpd_tool.specs.Output.{IsOut, Output}
use Rattle.crpd_tool.specs.Simulate.{IsRunLine, completions_of, run_of}
use Rattle.crpd_tool.specs.Commands.{command_of, simulate}
use Rattle.crpd_tool.specs.declared.status.Status.TheVariants.{Done}

-- the files mean a set with its code, and a script; the text is a line for each job, with its
-- standing after the script's cycles, and a line that says `legal` exactly if the script is legal
-- and `kept` exactly if no watch is broken then
pub record IsReported (contents : Contents) (set script text : List ℕ) : Type 0 where
  pub input : SetWithCode
  pub stated : Script
  pub last : List ℕ
  pub input_is : input_in contents set ≡ Ok input
  pub script_is : script_in contents script input.set ≡ Ok stated
  pub line : IsRunLine input.set stated (run_of input stated) last
  pub text_is : text ≡ job_lines input.set stated.jobs (completions_of (run_of input stated))
      ++ last

-- this holds of each output of `simulate SET SCRIPT` with the status Done
abbrev pub DoneIsReported : List (List ℕ) → Contents → Type 0
DoneIsReported words contents =
    (set script : List ℕ) (output : Output) →
    command_of words ≡ Some (simulate set script) → IsOut words contents output
    → output.status ≡ Done → IsReported contents set script output.text
