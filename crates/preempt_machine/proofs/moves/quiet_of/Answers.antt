use Rattle.std.proofs.Common.{subst}
use Rattle.flow_watch.specs.Watch.{Watch}
use Rattle.flow_watch.specs.Quiet.{AreQuiet}
use Rattle.preempt_machine.proofs.moves.quiet_of.Goals as goal

pub returns : goal.returns
returns c =
    subst (λ (w : Watch). AreQuiet c.args.plan.now w c.quiet.result) c.watch.ensures
    c.quiet.ensures.quiet
