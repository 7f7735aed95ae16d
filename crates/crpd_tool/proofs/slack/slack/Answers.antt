use Rattle.std.proofs.Common.{◌∙◌, Ok, ap, sym}
use Rattle.crpd_input.specs.Shapes.{ShapedIn}
use Rattle.crpd_input.proofs.Chain.{goes_on, stopped, stops_so}
use Rattle.crpd_tool.specs.Slack.{SlackOf, SlackEnds}
use Rattle.crpd_tool.specs.declared.answer.Answer.{Answer}
use Rattle.crpd_tool.specs.declared.answer.Outcome.TheVariants.{Done}
use Rattle.crpd_input.proofs.Asking.{asks_end, asks_stop}
use Rattle.crpd_tool.proofs.slack.slack.Goals as goal

pub greatest_switch-requires-clause-tasks : goal.greatest_switch-requires-clause-tasks
greatest_switch-requires-clause-tasks g c =
    rw (c.set-set.ensures.is, c.graphs-graphs.ensures, c.nests-nests.ensures)
    c.shaped_law.ensures.shown

pub greatest_miss-requires-clause-tasks : goal.greatest_miss-requires-clause-tasks
greatest_miss-requires-clause-tasks g c =
    rw (c.set-set.ensures.is, c.graphs-graphs.ensures, c.nests-nests.ensures)
    c.shaped_law.ensures.shown

pub returns-clause-exact : goal.returns-clause-exact
returns-clause-exact g c = λ contents told.
    let answer : Answer = record { text = c.new.result; outcome = Done } in
    goes_on (ShapedIn contents c.args.file.now) SlackOf c.in_ok-shaped.shaped (Ok answer)
    (c.in_ok-shaped.ensures.exact contents told) (
      c.in_ok-by_switch.by_switch,
      c.in_ok-by_miss.by_miss,
      record {
        by_switch =
            rw (
              sym c.set-set.ensures.is,
              sym c.graphs-graphs.ensures,
              sym c.nests-nests.ensures,
            ) c.in_ok-by_switch.ensures;
        by_miss =
            rw (
              sym c.set-set.ensures.is,
              sym c.graphs-graphs.ensures,
              sym c.nests-nests.ensures,
            ) c.in_ok-by_miss.ensures;
      },
      ap (λ t. Ok (record { text = t; outcome = Done }))
          (c.new.ensures ∙ rw c.set-set.ensures.is at c.in_ok-text.ensures),
    )

pub returns-in_err-shaped-clause-exact : goal.returns-in_err-shaped-clause-exact
returns-in_err-shaped-clause-exact g c = λ contents told.
    let halt = c.in_err-shaped.field-0.0 in
    stops_so (SlackEnds contents c.args.file.now)
    c.from_residual.result halt c.from_residual.ensures.1
    (stopped (ShapedIn contents c.args.file.now)
    (SlackOf) halt
    (c.in_err-shaped.ensures.exact contents told))

pub returns-clause-asks : goal.returns-clause-asks
returns-clause-asks g c = asks_end c.in_ok-shaped.shaped c.in_ok-shaped.ensures.asks _

pub returns-in_err-by_switch-clause-asks : goal.returns-in_err-by_switch-clause-asks
returns-in_err-by_switch-clause-asks g c = asks_end c.in_ok-shaped.shaped c.in_ok-shaped.ensures.asks _

pub returns-in_err-by_miss-clause-asks : goal.returns-in_err-by_miss-clause-asks
returns-in_err-by_miss-clause-asks g c = asks_end c.in_ok-shaped.shaped c.in_ok-shaped.ensures.asks _

pub returns-in_err-text-clause-asks : goal.returns-in_err-text-clause-asks
returns-in_err-text-clause-asks g c = asks_end c.in_ok-shaped.shaped c.in_ok-shaped.ensures.asks _

pub returns-in_err-shaped-clause-asks : goal.returns-in_err-shaped-clause-asks
returns-in_err-shaped-clause-asks g c =
    asks_stop c.in_err-shaped.field-0.0 _ c.in_err-shaped.ensures.asks c.from_residual.result
    c.from_residual.ensures.1
