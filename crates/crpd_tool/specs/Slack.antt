-- The steps of `slack SET`.
use Rattle.std.specs.Prelude.{◌≡◌, ℕ, List, Result, Ok}
use Rattle.crpd_base.specs.declared.data.TaskSet.{TaskSet}
use Rattle.loop_regions.specs.TaskGraph.{TaskGraph}
use Rattle.sensitivity.specs.Costs.{with_miss, with_switch}
use Rattle.sensitivity.specs.Slack.{IsSlack}
use Rattle.crpd_base.specs.declared.data.Slack.{Slack}
use Rattle.crpd_io.specs.Outside.{Contents}
use Rattle.crpd_tool.specs.declared.answer.Answer.{Answer}
use Rattle.crpd_tool.specs.declared.answer.Outcome.TheVariants.{Done}
use Rattle.crpd_input.specs.declared.halt.Halt.{Halt}
use Rattle.task_shapes.specs.Shapes.{SetWithShapes}
use Rattle.crpd_tool.specs.Shaped.{graphs_of}
use Rattle.crpd_input.specs.Shapes.{ShapedIn}
use Rattle.crpd_input.specs.Steps.{Then}
use Rattle.crpd_report.specs.Slack.{slack_text}

-- the largest accepted costs of a switch and of a reload, each with what stops the next one
pub record AreSlacks (set : TaskSet) (graphs : ℕ → TaskGraph) (first second : Slack) : Type 0 where
  pub by_switch : IsSlack (with_switch set) graphs first
  pub by_miss : IsSlack (with_miss set) graphs second

-- the answer with these
abbrev pub slack_answer : TaskSet → (first second : Slack) → Answer
slack_answer set first second = record { text = slack_text set first second; outcome = Done }

-- the text of these, over the graphs of the tasks and the regions of their loops
abbrev pub SlackOf : SetWithShapes → Result Answer Halt → Type 0
SlackOf shaped r =
    (first : Slack) × (second : Slack)
    × AreSlacks shaped.input.set (graphs_of shaped) first second
    × (r ≡ Ok (slack_answer shaped.input.set first second))

-- the whole command: the set with its code, the graphs of all tasks and the regions of their loops,
-- and then the text
abbrev pub SlackEnds : Contents → List ℕ → Result Answer Halt → Type 0
SlackEnds contents set = Then (ShapedIn contents set) SlackOf
