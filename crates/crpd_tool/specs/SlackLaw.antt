-- `slack` writes the largest accepted costs; smaller costs than accepted ones are accepted.
use Rattle.std.specs.Prelude.{◌≡◌, ℕ, ◌≤◌, List, Some, Ok}
use Rattle.crpd_tool.specs.Shaped.{graphs_of}
use Rattle.delay_count.specs.Laws.{DelayGrows, DemandGrows}
use Rattle.sensitivity.specs.Accepted.{IsAccepted}
use Rattle.sensitivity.specs.Costs.{with_costs, with_miss, with_switch}
use Rattle.sensitivity.specs.Laws.{BoundGrows, LongestGrows, WindowsGrow}
use Rattle.crpd_base.specs.declared.data.Slack.{Slack}
use Rattle.crpd_io.specs.Outside.{Contents}
use Rattle.crpd_tool.specs.declared.status.Status.TheVariants.{Done}
use Rattle.task_shapes.specs.Shapes.{SetWithShapes}
use Rattle.crpd_tool.specs.Output.{IsOut, Output}
use Rattle.crpd_input.specs.Reading.{input_in}
use Rattle.crpd_input.specs.Shapes.{ShapedFrom}
use Rattle.crpd_tool.specs.AcceptedCosts.{IsGreatestByAnalyze, with_set}
use Rattle.crpd_tool.specs.Slack.{AreSlacks}
use Rattle.crpd_report.specs.Slack.{slack_text}
use Rattle.crpd_tool.specs.Commands.{slack, command_of}

-- the files mean a set with its code, which has graphs and regions; the text is that of the one
-- largest cost of a switch and the one of a reload
pub record HasGreatestCosts (contents : Contents) (set text : List ℕ) : Type 0 where
  pub shaped : SetWithShapes
  pub first : Slack
  pub second : Slack
  pub input_is : input_in contents set ≡ Ok shaped.input
  pub shapes_are : ShapedFrom shaped.input (Ok shaped)
  pub text_is : text ≡ slack_text shaped.input.set first second
  pub are : AreSlacks shaped.input.set (graphs_of shaped) first second
  pub only : (one two : Slack)
      → AreSlacks shaped.input.set (graphs_of shaped) one two
      → (one ≡ first) × (two ≡ second)
  -- if the set is accepted with some costs of a switch and of a reload, it is accepted with all
  -- smaller ones
  pub stays : (s m k d : ℕ) → s ≤ k → m ≤ d →
      IsAccepted (with_costs shaped.input.set k d) (graphs_of shaped)
      → IsAccepted (with_costs shaped.input.set s m) (graphs_of shaped)
  -- the two costs are the largest ones with which `analyze` accepts the set, and with these and all
  -- smaller ones no job is late
  pub by_switch : IsGreatestByAnalyze
      (λ c. with_set shaped.input (with_switch shaped.input.set c)) first.greatest
  pub by_miss : IsGreatestByAnalyze
      (λ c. with_set shaped.input (with_miss shaped.input.set c)) second.greatest

-- this holds of each output of `slack SET` with the status Done
abbrev pub DoneIsSlack : List (List ℕ) → Contents → Type 0
DoneIsSlack words contents =
    (set : List ℕ) (output : Output) →
    command_of words ≡ Some (slack set) → IsOut words contents output → output.status ≡ Done
    → HasGreatestCosts contents set output.text

-- as a switch and a reload cost more, no bound of a task, no longest cost of an instruction, no
-- delay of either method, no demand and no window falls
pub record CostsGrow : Type 0 where
  pub bound : BoundGrows
  pub longest : LongestGrows
  pub delay : DelayGrows
  pub demand : DemandGrows
  pub windows : WindowsGrow
