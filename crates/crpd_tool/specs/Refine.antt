-- The steps of `refine SET`.
use Rattle.std.specs.Prelude.{◌≡◌, ◌≢◌, ◌⊎◌, ℕ, List, Result, Ok, Err}
use Rattle.crpd_base.specs.Tasks.{task_name}
use Rattle.crpd_base.specs.declared.data.RefinedTask.{RefinedTask}
use Rattle.crpd_base.specs.declared.data.TaskSet.{TaskSet}
use Rattle.delay_point.specs.Refined.{AreRefined}
use Rattle.delay_point.specs.RefineErrors.{IsRefineError}
use Rattle.delay_point.specs.declared.error.RefineError.{RefineError}
use Rattle.delay_point.specs.declared.error.RefineError.TheVariants as refine_error
use Rattle.crpd_io.specs.Outside.{Contents}
use Rattle.crpd_report.specs.Refine.{refined_text}
use Rattle.crpd_input.specs.declared.cause.Cause.TheVariants as cause
use Rattle.crpd_input.specs.declared.halt.Halt.{Halt}
use Rattle.crpd_input.specs.declared.halt.Halt.TheVariants as halt
use Rattle.crpd_input.specs.Shapes.{ShapedIn, refused_at}
use Rattle.crpd_input.specs.Steps.{Then}
use Rattle.task_shapes.specs.Shapes.{SetWithShapes}
use Rattle.crpd_tool.specs.Shaped.{graphs_of}
use Rattle.crpd_tool.specs.Analyze.{no_window_answer}
use Rattle.crpd_tool.specs.declared.answer.Answer.{Answer}
use Rattle.crpd_tool.specs.declared.answer.Outcome.TheVariants.{Done}

-- the answer with refined windows
abbrev pub refined_answer : TaskSet → List RefinedTask → Answer
refined_answer set tasks = record { text = refined_text set tasks; outcome = Done }

-- the end of the command if there are none: a bound that is too large is a refusal of the task, and
-- a task without a window is an answer. Out of memory is not an end.
abbrev pub without_windows : TaskSet → RefineError → Result Answer Halt
without_windows set refine_error.Memory = Err halt.Memory
without_windows set (refine_error.TooLarge task address) =
    Err (refused_at cause.BoundTooLarge (task_name set task) address)
without_windows set (refine_error.Unschedulable task) =
    Ok (no_window_answer (task_name set task))

-- the refined windows of all tasks, over their graphs and the regions of their loops, or the reason
-- why there are none
abbrev pub RefinedOf : SetWithShapes → Result Answer Halt → Type 0
RefinedOf shaped r =
    let set = shaped.input.set in
    ((tasks : List RefinedTask) × AreRefined set (graphs_of shaped) tasks
    × (r ≡ Ok (refined_answer set tasks)))
    ⊎ ((e : RefineError) × (e ≢ refine_error.Memory) × IsRefineError set (graphs_of shaped) e
    × (r ≡ without_windows set e))

-- the whole command: the set with its code, the graphs of all tasks and the regions of their loops,
-- and then the refined windows
abbrev pub RefineEnds : Contents → List ℕ → Result Answer Halt → Type 0
RefineEnds contents set = Then (ShapedIn contents set) RefinedOf
