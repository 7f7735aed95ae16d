-- A set has one pair of slacks, for all regions of the same loops.
use Rattle.std.proofs.Common.{◌≡◌, ℕ, ◌<◌, List, length, Result, Ok, sym, ap, ◌∙◌}
use Rattle.crpd_base.specs.Tasks.{HasTimes}
use Rattle.crpd_base.specs.declared.data.Slack.{Slack}
use Rattle.loop_regions.specs.CodeNest.{CodeNest}
use Rattle.cert_check.proofs.Alike.{AllAlike}
use Rattle.sensitivity.specs.Laws.{IsLoopBounded}
use Rattle.sensitivity.proofs.AnyRegions.{one_by_miss, one_by_switch}
use Rattle.task_shapes.specs.Shapes.{SetWithShapes}
use Rattle.crpd_input.specs.declared.halt.Halt.{Halt}
use Rattle.crpd_tool.specs.declared.answer.Answer.{Answer}
use Rattle.crpd_tool.specs.Shaped.{graphs_of}
use Rattle.crpd_tool.specs.Slack.{SlackOf, slack_answer}
use Rattle.crpd_tool.proofs.OneMade.{with_nests}

pub one_slack_end : (x : SetWithShapes) (ms : List CodeNest) → HasTimes x.input.set
    → ((k : ℕ) → k < length x.input.set.tasks → IsLoopBounded (graphs_of x k))
    → AllAlike x.input.set x.nests ms → (r s : Result Answer Halt) → SlackOf x r
    → SlackOf (with_nests x ms) s → r ≡ s
one_slack_end x ms times bounded same r s a b =
    let set = x.input.set in
    let first = one_by_switch set x.graphs x.nests ms times bounded same a.0 b.0 a.2.by_switch
    b.2.by_switch in
    let second = one_by_miss set x.graphs x.nests ms times bounded same a.1 b.1 a.2.by_miss
    b.2.by_miss in
    a.3 ∙ ap (λ (y : Slack). Ok (slack_answer set y a.1)) first
    ∙ ap (λ (y : Slack). Ok (slack_answer set b.0 y)) second ∙ sym b.3
