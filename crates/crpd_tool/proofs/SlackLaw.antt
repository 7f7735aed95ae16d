-- A whole text with the status Done on `slack` is that of the largest accepted costs.
use Rattle.std.proofs.Common.{◌≡◌, ℕ, ◌<◌, List, Result, length, ap}
use Rattle.crpd_tool.specs.Shaped.{graphs_of}
use Rattle.sensitivity.specs.Laws.{IsLoopBounded, StaysAccepted}
use Rattle.sensitivity.proofs.AnyRegions.{loop_bounded}
use Rattle.sensitivity.proofs.Slacks.{one_slack_by}
use Rattle.sensitivity.proofs.Trials.{with_ranges}
use Rattle.sound_laws.specs.Headline.{CheckedCodeIsSafe}
use Rattle.crpd_base.proofs.Times.{has_times}
use Rattle.crpd_io.specs.Outside.{Contents}
use Rattle.crpd_tool.specs.declared.answer.Answer.{Answer}
use Rattle.crpd_tool.specs.declared.status.Status.TheVariants.{Done}
use Rattle.crpd_input.specs.declared.halt.Halt.{Halt}
use Rattle.task_shapes.specs.Shapes.{SetWithShapes}
use Rattle.crpd_input.specs.Reading.{input_in}
use Rattle.crpd_input.proofs.Given.{input_good}
use Rattle.crpd_tool.proofs.ReadSet.{IsReadFrom, built_of}
use Rattle.crpd_tool.specs.Output.{ending_output}
use Rattle.crpd_tool.specs.Slack.{SlackEnds, SlackOf}
use Rattle.crpd_tool.specs.SlackLaw.{DoneIsSlack, HasGreatestCosts}
use Rattle.crpd_tool.specs.Commands.{slack}
use Rattle.crpd_tool.proofs.AcceptedCosts.{by_analyze}
use Rattle.crpd_tool.proofs.Done.{output_done, shapes_done}

module _ (stays_law : StaysAccepted) (safe_law : CheckedCodeIsSafe) (contents : Contents)
    (set : List ℕ) where
  greatest : (shaped : SetWithShapes) (ending : Result Answer Halt)
      → IsReadFrom (input_in contents set) shaped → SlackOf shaped ending
      → HasGreatestCosts contents set (ending_output ending).text
  greatest shaped ending read S =
      let is = shaped.input.set in
      let good = input_good contents set shaped.input read.input_is in
      let ranges = good.ranges in
      let times = has_times is ranges in
      let bounded : (k : ℕ) → k < length is.tasks → IsLoopBounded (graphs_of shaped k) = λ k lt.
      loop_bounded _ _ (graphs_of shaped k) (built_of shaped read.shapes_are k lt) in
      record {
        shaped = shaped;
        first = S.0;
        second = S.1;
        input_is = read.input_is;
        shapes_are = read.shapes_are;
        text_is = ap (λ (r : Result Answer Halt). (ending_output r).text) S.3;
        are = S.2;
        only = λ one two A. (
          (one_slack_by is (graphs_of shaped) one S.0 times bounded).0 A.by_switch S.2.by_switch,
          (one_slack_by is (graphs_of shaped) two S.1 times bounded).1 A.by_miss S.2.by_miss,
        );
        stays = λ s m k d switch miss A.
            stays_law is (graphs_of shaped) s m k d
            (record { times = times; bounded = bounded; switch = switch; miss = miss }) A;
        by_switch =
            by_analyze safe_law shaped good read.shapes_are (λ c. c) (λ c. is.platform.miss)
            (λ c le. with_ranges is c is.platform.miss ranges le ranges.platform.miss)
            (λ c S. S.platform.switch) S.0.greatest S.2.by_switch.greatest;
        by_miss =
            by_analyze safe_law shaped good read.shapes_are (λ c. is.platform.switch) (λ c. c)
            (λ c le. with_ranges is is.platform.switch c ranges ranges.platform.switch le)
            (λ c S. S.platform.miss) S.1.greatest S.2.by_miss.greatest;
      }

  ended : (ending : Result Answer Halt) → SlackEnds contents set ending
      → (ending_output ending).status ≡ Done
      → HasGreatestCosts contents set (ending_output ending).text
  ended ending is e =
      let given = shapes_done (input_in contents set) SlackOf ending is e in
      greatest given.0 ending given.1 given.2

pub done_is_slack : StaysAccepted → CheckedCodeIsSafe → (words : List (List ℕ))
    (contents : Contents) → DoneIsSlack words contents
done_is_slack stays_law safe_law words contents set output =
    output_done words contents (slack set) output (HasGreatestCosts contents set)
    (ended stays_law safe_law contents set)
