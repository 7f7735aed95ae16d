use Rattle.std.proofs.Common.{◌≡◌, Some, [], length, sym, ap, subst, ◌∙◌, option_and_then}
use Rattle.flow_watch.specs.declared.changes.Change.TheVariants.{Stay, Push, Pop, Unfollowed}
use Rattle.flow_watch.specs.Watch.{arrive}
use Rattle.flow_watch.specs.Iterations.{HasIterations}
use Rattle.flow_watch.proofs.Frames.{broken_is_not_empty}
use Rattle.flow_watch.proofs.Steps.{stepped, stays, breaks, has_turns-popped, arrived_from}
use Rattle.flow_watch.proofs.Steps.{pushed_some}
use Rattle.flow_watch.proofs.Watch.step.Goals as goal
use Rattle.flow_watch.proofs.Watch.step.Goals.{in-Stay, in-Push, in-Pop, in-Unfollowed}

pub arrive-requires : goal.arrive-requires
arrive-requires c =
    let m = length c.args.plan.now.loops in
    elim c.match-change_by.branch [
      | in-Stay w ↦ record { turns = subst (HasIterations m) (sym w.self-is) c.requires.turns }
      | in-Push w ↦ record { turns = subst (HasIterations m) (sym w.self-is) w.push.ensures.turns }
      | in-Pop w ↦ record {
        turns =
            subst (HasIterations m) (sym (w.self-is ∙ w.pop.ensures.popped))
            (has_turns-popped m c.args.to c.args.self.now c.requires.turns);
      }
      | in-Unfollowed w ↦ record {
        turns = subst (HasIterations m) (sym (w.self-is ∙ w.break_off.ensures)) tt;
      }
    ]

pub returns-clause-stepped : goal.returns-clause-stepped
returns-clause-stepped c =
    let plan = c.args.plan.now in
    let from = c.args.from in
    let ins = c.args.ins.now in
    let to = c.args.to in
    let now = c.args.self.now in
    elim c.match-change_by.branch [
      | in-Stay w ↦ c.arrive.ensures.arrived
          ∙ (ap (option_and_then (arrive plan to)) (w.self-is ∙ stays plan from to now)
          ∙ sym (stepped plan from ins to now Stay w.in-Stay.ensures))
      | in-Push w ↦ c.arrive.ensures.arrived
          ∙ (ap (option_and_then (arrive plan to)) (w.self-is ∙ w.push.ensures.pushed)
          ∙ sym (stepped plan from ins to now Push w.in-Push.ensures))
      | in-Pop w ↦ c.arrive.ensures.arrived
          ∙ (ap (option_and_then (arrive plan to)) (w.self-is ∙ w.pop.ensures.popped)
          ∙ sym (stepped plan from ins to now Pop w.in-Pop.ensures))
      | in-Unfollowed w ↦ c.arrive.ensures.arrived
          ∙ (ap (option_and_then (arrive plan to))
          (w.self-is ∙ (w.break_off.ensures ∙ breaks plan from to now))
          ∙ sym (stepped plan from ins to now Unfollowed w.in-Unfollowed.ensures))
    ]

pub returns-clause-ended : goal.returns-clause-ended
returns-clause-ended c empty =
    let before : c.match-change_by.self ≡ Some [] =
    arrived_from c.args.plan.now c.args.to c.match-change_by.self
    (sym c.arrive.ensures.arrived ∙ empty) in
    elim c.match-change_by.branch [
      | in-Stay w ↦ absurd (c.requires.under_way (sym w.self-is ∙ before))
      | in-Push w ↦
          absurd (pushed_some c.args.plan.now c.args.from c.args.self.now
          (sym (w.self-is ∙ w.push.ensures.pushed) ∙ before))
      | in-Pop w ↦ w.pop.ensures.ended (sym w.self-is ∙ before)
      | in-Unfollowed w ↦ broken_is_not_empty (sym (w.self-is ∙ w.break_off.ensures) ∙ before)
    ]
