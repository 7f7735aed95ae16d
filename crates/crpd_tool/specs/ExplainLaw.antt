-- What `explain` writes after a yes: the account of the script's run, whose reloads are within the
-- certificate's delays.
use Rattle.std.specs.Prelude.{◌≡◌, ℕ, List, ◌++◌, Some, Ok}
use Rattle.crpd_base.specs.declared.data.Certificate.{Certificate}
use Rattle.crpd_base.specs.declared.data.Script.{Script}
use Rattle.crpd_base.specs.Arrivals.{IsLegal}
use Rattle.crpd_tool.specs.Shaped.{graphs_of}
use Rattle.cert_check.specs.Verdict.{IsJudged, Yes}
use Rattle.preempt_machine.specs.Safe.{IsKept}
use Rattle.run_account.specs.Account.{HasAccountFacts, IsAccount}
use Rattle.preempt_machine.specs.Starts.{start_of_script}
use Rattle.run_account.specs.declared.told.Account.{Account}
use Rattle.sound_laws.specs.CheckedCode.{IsWithinDelay, IsWithinDelays}
use Rattle.crpd_io.specs.Outside.{Contents}
use Rattle.crpd_report.specs.Explain.{delay_lines, reload_lines}
use Rattle.task_shapes.specs.Shapes.{SetWithShapes}
use Rattle.crpd_input.specs.Reading.{certificate_in, input_in}
use Rattle.crpd_input.specs.Script.{script_in}
use Rattle.crpd_input.specs.Shapes.{ShapedFrom}
use Rattle.crpd_tool.specs.Output.{IsOut, Output}
use Rattle.crpd_tool.specs.Simulate.{IsRunLine, run_of}
use Rattle.crpd_tool.specs.Commands.{command_of, explain}
use Rattle.crpd_tool.specs.declared.status.Status.TheVariants.{Done}

-- the files mean a set with its code, which has graphs and regions, a certificate that the checker
-- accepts, and a script; the text is a line for each reload of an account of the script's run, a
-- line with the certificate's delays for each task, and a line that says `legal` exactly if the
-- script is legal and `kept` exactly if no watch is broken at the end
pub record IsExplained (contents : Contents) (set certificate script text : List ℕ) : Type 0 where
  pub shaped : SetWithShapes
  pub stated : Certificate
  pub given : Script
  pub account : Account
  pub last : List ℕ
  pub input_is : input_in contents set ≡ Ok shaped.input
  pub shapes_are : ShapedFrom shaped.input (Ok shaped)
  pub certificate_is : certificate_in contents certificate ≡ Ok stated
  pub script_is : script_in contents script shaped.input.set ≡ Ok given
  pub judged : IsJudged shaped.input.set (graphs_of shaped) stated Yes
  pub is_account : IsAccount (start_of_script shaped.input.set shaped.input.code given)
      (graphs_of shaped) stated given.cycles account
  pub line : IsRunLine shaped.input.set given (run_of shaped.input given) last
  pub text_is : text ≡ reload_lines shaped.input.set account.entries
      ++ delay_lines shaped.input.set stated ++ last
  -- for every script, a reload's evictor and preemptor are of higher tasks, and its set is in the
  -- evictor's evicting set and in the useful set of the node at which the job resumed. No two
  -- reloads have the same evictor and the same set, and those of one preemptor are of one job and
  -- one node, and of different sets
  pub facts : HasAccountFacts (start_of_script shaped.input.set shaped.input.code given)
      (graphs_of shaped) stated given.cycles account
  -- after a legal and kept run, of the reloads of a job's window those with an evictor of a higher
  -- task take at most its UCB-union delay, and those with a preemptor of it at most its ECB-union
  -- delay, whichever method the certificate names
  pub within : IsLegal shaped.input.set given.jobs → IsKept (run_of shaped.input given)
      → IsWithinDelays shaped.input.set shaped.input.code given stated account
  -- after such a run all reloads of a job's window together take at most the delay in the line of
  -- the job's task
  pub within_line : IsLegal shaped.input.set given.jobs → IsKept (run_of shaped.input given)
      → IsWithinDelay shaped.input.set shaped.input.code given stated account

-- this holds of each output of `explain SET CERT SCRIPT` with the status Done
abbrev pub DoneIsExplained : List (List ℕ) → Contents → Type 0
DoneIsExplained words contents =
    (set certificate script : List ℕ) (output : Output) →
    command_of words ≡ Some (explain set certificate script) → IsOut words contents output
    → output.status ≡ Done →
    IsExplained contents set certificate script output.text
