use Rattle.std.proofs.Common.{◌-◌, ◌≡◌, ◌≤◌, ◌↔◌, true, IsTrue}
use Rattle.flow_watch.specs.Quiet.{AreQuiet}
use Rattle.flow_watch.specs.Watch.{is_unbroken}
use Rattle.preempt_machine.specs.Running.{system_by, HasPlan}
use Rattle.preempt_machine.specs.Jobs.{turn_by}
use Rattle.preempt_machine.specs.Inner.Addresses.{AreDecodedAddresses}
use Rattle.preempt_machine.specs.Inner.Moves.{HasMoved}
use Rattle.preempt_machine.proofs.moves.FastCore.run.Given as goal

abbrev pub invariant-loop-now : goal.invariant-loop-now
invariant-loop-now g l =
    record {
      moved : HasMoved (system_by l.initial.self.geometry.platform l.dispatch.code.now) l.from l.now
          (turn_by l.initial.self.cache l.initial.self.memory 0 l.initial.job)
          (turn_by l.self.cache l.self.memory 0 l.job);
      within : l.now ≤ l.dispatch.until;
      plan : HasPlan l.dispatch.code.now.plans l.job;
      geometry : l.self.geometry ≡ l.initial.self.geometry;
      quiet : AreQuiet l.dispatch.plan.now l.job.watch l.quiet;
      decoded : AreDecodedAddresses l.initial.self.geometry.platform l.dispatch.code.now
          l.self.decoded.places.items;
      kept : IsTrue l.self.kept
          ↔ (IsTrue l.initial.self.kept × (is_unbroken l.job.watch ≡ true));
      observed : g.O.Observer.has_observed l.observer l.now;
      same : g.O.Observer.observed l.observer ≡ g.O.Observer.observed l.initial.observer;
    }

abbrev pub decreases-loop-now : goal.decreases-loop-now
decreases-loop-now g l = l.dispatch.until - l.now
