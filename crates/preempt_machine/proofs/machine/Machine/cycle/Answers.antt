use Rattle.std.proofs.Common.{◌+◌, subst}
use Rattle.std.proofs.lemmas.Result.{on_ok_weaker}
use Rattle.preempt_machine.specs.Inner.Parts.{HasMade}
use Rattle.preempt_machine.proofs.SeveralSteps.{made_once}
use Rattle.preempt_machine.proofs.machine.Machine.cycle.Goals as goal

pub returns-clause-ok : goal.returns-clause-ok
returns-clause-ok c =
    on_ok_weaker c.advance.result
    (λ h. made_once c.args.code.now c.args.self.now c.advance.new.self
    (subst (λ n. HasMade c.args.code.now (n + 1) c.args.self.now c.advance.new.self)
    c.steps.ensures h))
    c.advance.ensures.ok
