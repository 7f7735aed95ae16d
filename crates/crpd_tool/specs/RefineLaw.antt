-- After `refine` with refined windows, no job is late in any run of the machine.
use Rattle.std.specs.Prelude.{◌≡◌, ℕ, ◌<◌, ◌≤◌, List, length, slice_index, Some, Ok}
use Rattle.crpd_base.specs.Tasks.{deadline_of}
use Rattle.crpd_base.specs.declared.data.Certificate.{Certificate}
use Rattle.crpd_base.specs.declared.data.RefinedTask.{RefinedTask}
use Rattle.cert_build.specs.Best.{IsBest}
use Rattle.cert_check.specs.JudgeInput.{window_at as certified_window}
use Rattle.delay_point.specs.Refined.{AreRefined, responses, window_at}
use Rattle.preempt_machine.specs.Safe.{IsSafeWith}
use Rattle.task_shapes.specs.Shapes.{SetWithShapes}
use Rattle.crpd_io.specs.Outside.{Contents}
use Rattle.crpd_input.specs.Reading.{input_in}
use Rattle.crpd_input.specs.Shapes.{ShapedFrom}
use Rattle.crpd_report.specs.Refine.{refined_text}
use Rattle.crpd_tool.specs.Commands.{command_of, refine}
use Rattle.crpd_tool.specs.Output.{IsOut, Output}
use Rattle.crpd_tool.specs.Shaped.{graphs_of}
use Rattle.crpd_tool.specs.declared.status.Status.TheVariants.{Done}

-- the files mean a set with its code, which has graphs and regions; the text has the refined
-- windows, of which there is one list, one line for each task; the response of each task is at most
-- its deadline; from every cache and memory, for every legal script, in every state in which no watch
-- is broken, no job is late by its refined response
pub record IsRefinedSafely (contents : Contents) (set text : List ℕ) : Type 0 where
  pub shaped : SetWithShapes
  pub tasks : List RefinedTask
  pub input_is : input_in contents set ≡ Ok shaped.input
  pub shapes_are : ShapedFrom shaped.input (Ok shaped)
  pub text_is : text ≡ refined_text shaped.input.set tasks
  pub refined : AreRefined shaped.input.set (graphs_of shaped) tasks
  pub only : (others : List RefinedTask) → AreRefined shaped.input.set (graphs_of shaped) others
      → others ≡ tasks
  pub count : length (responses tasks) ≡ length shaped.input.set.tasks
  pub in_deadline : (k : ℕ) → k < length shaped.input.set.tasks
      → slice_index (responses tasks) k ≤ deadline_of shaped.input.set k
  pub safe : IsSafeWith shaped.input.set shaped.input.code (responses tasks)
  -- if the analysis gives a certificate, no window is longer than in it
  pub no_longer : (c : Certificate) → IsBest shaped.input.set (graphs_of shaped) c → (k : ℕ)
      → k < length shaped.input.set.tasks → window_at tasks k ≤ certified_window c k

-- this holds of each output of `refine SET` with the status Done
abbrev pub DoneIsRefined : List (List ℕ) → Contents → Type 0
DoneIsRefined words contents =
    (set : List ℕ) (output : Output) →
    command_of words ≡ Some (refine set) → IsOut words contents output → output.status ≡ Done
    → IsRefinedSafely contents set output.text
