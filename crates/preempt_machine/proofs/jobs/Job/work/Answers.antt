use Rattle.std.proofs.Common.{◌∙◌, ap, arith}
use Rattle.std.proofs.lemmas.Result.{on_ok_weaker}
use Rattle.preempt_machine.specs.Step.{turn_after_effect}
use Rattle.preempt_machine.specs.Jobs.{turn_by}
use Rattle.preempt_machine.proofs.Turns.{works_last}
use Rattle.preempt_machine.proofs.jobs.Job.work.Goals as goal

pub returns-clause-ok : goal.returns-clause-ok
returns-clause-ok c =
    on_ok_weaker c.finish.result
    (λ h sys cache k plan.
    h sys cache k c.args.now (omega arith) plan
    ∙ ap (turn_after_effect sys c.args.now c.args.ins.now
    (turn_by cache c.args.memory.now k c.args.self.now)) c.next.ensures
    ∙ works_last sys c.args.now c.args.ins.now cache c.args.memory.now k c.args.left c.args.self.now
    c.if-left-gt1.false)
    c.finish.ensures.ok
