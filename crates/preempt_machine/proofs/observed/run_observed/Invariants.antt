use Rattle.std.proofs.Common.{◌≡◌, ◌-◌, ◌≤◌}
use Rattle.preempt_machine.specs.Starts.{start_of_script}
use Rattle.preempt_machine.specs.Inner.Stretches.{RunsAs}
use Rattle.preempt_machine.proofs.observed.run_observed.Given as goal

abbrev pub invariant-loop-parts : goal.invariant-loop-parts
invariant-loop-parts g l =
    record {
      runs : RunsAs (start_of_script l.set l.code l.script) l.code l.parts;
      within : l.parts.schedule.steps ≤ l.script.cycles;
      observed : g.O.Observer.has_observed l.observer l.parts.schedule.steps;
      same : g.O.Observer.observed l.observer ≡ g.O.Observer.observed l.initial.observer;
    }

abbrev pub decreases-loop-parts : goal.decreases-loop-parts
decreases-loop-parts g l = l.script.cycles - l.parts.schedule.steps
