use Rattle.preempt_machine.specs.Running.{HasPlans}
use Rattle.layer_tests.proofs.cycles.pass.Given as goal

abbrev pub invariant-loop-step : goal.invariant-loop-step
invariant-loop-step g l = HasPlans l.code l.machine.state
