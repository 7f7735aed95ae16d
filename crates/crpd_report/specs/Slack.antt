-- The text of the largest accepted costs of a set.
use Rattle.std.specs.Prelude.{ℕ, List, [], ◌∷◌, ◌++◌, codes, Option, Some, None}
use Rattle.std.specs.Fmt.{decimal}
use Rattle.crpd_base.specs.declared.data.TaskSet.{TaskSet}
use Rattle.crpd_base.specs.declared.data.Slack.{Slack}
use Rattle.crpd_base.specs.declared.data.Stop.{Stop}
use Rattle.crpd_base.specs.declared.data.Stop.TheVariants.{Limit, Window, Bound}
use Rattle.crpd_base.specs.Tasks.{task_name}

-- the largest accepted cost, or that none is accepted
abbrev pub cost_text : Option ℕ → List ℕ
cost_text None = codes "none"
cost_text (Some cost) = decimal cost

-- the reason why it is not larger: the limit of a platform, or the first task without a window or
-- with too large a bound
abbrev pub stop_text : TaskSet → Stop → List ℕ
stop_text set Limit = codes "limit"
stop_text set (Window task) = codes "window " ++ task_name set task
stop_text set (Bound task) = codes "bound " ++ task_name set task

-- the line of a kind of cost
abbrev pub slack_line : List ℕ → TaskSet → Slack → List ℕ
slack_line kind set slack =
    kind ++ codes " " ++ cost_text slack.greatest ++ codes " "
    ++ stop_text set slack.stop ++ 10 ∷ []

-- the lines of both
abbrev pub slack_text : TaskSet → (by_switch by_miss : Slack) → List ℕ
slack_text set by_switch by_miss =
    slack_line (codes "switch") set by_switch ++ slack_line (codes "miss") set by_miss
