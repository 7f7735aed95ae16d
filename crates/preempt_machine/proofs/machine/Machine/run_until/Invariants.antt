use Rattle.std.proofs.Common.{◌≡◌, ◌-◌, ◌≤◌}
use Rattle.preempt_machine.specs.Running.{running_after_steps, HasPlans}
use Rattle.preempt_machine.proofs.machine.Machine.run_until.Given as goal

abbrev pub invariant-loop-self : goal.invariant-loop-self
invariant-loop-self l =
    record {
      from : l.initial.self.state.time ≤ l.self.state.time;
      to : l.initial.self.state.time ≤ l.cycle → l.self.state.time ≤ l.cycle;
      past : l.cycle ≤ l.initial.self.state.time → l.self.state.time ≡ l.initial.self.state.time;
      state : l.self ≡ running_after_steps (l.self.state.time - l.initial.self.state.time) l.code
          l.initial.self;
      platform : l.self.platform ≡ l.initial.self.platform;
      plans : HasPlans l.code l.self.state;
    }

abbrev pub decreases-loop-self : goal.decreases-loop-self
decreases-loop-self l = l.cycle - l.self.state.time
