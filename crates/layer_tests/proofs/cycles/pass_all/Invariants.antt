use Rattle.preempt_machine.specs.Running.{HasPlans}
use Rattle.layer_tests.proofs.cycles.pass_all.Given as goal

abbrev pub invariant-loop-stretch : goal.invariant-loop-stretch
invariant-loop-stretch g l = HasPlans l.code l.machine.state
