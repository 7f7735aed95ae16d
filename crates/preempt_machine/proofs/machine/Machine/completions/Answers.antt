use Rattle.std.proofs.Common.{◌∙◌, ap}
use Rattle.preempt_machine.specs.Running.{Running}
use Rattle.preempt_machine.specs.Safe.{completions}
use Rattle.preempt_machine.specs.Inner.Parts.{machine_of}
use Rattle.preempt_machine.proofs.Starting.{ends_are}
use Rattle.preempt_machine.proofs.machine.Machine.completions.Goals as goal

pub returns-clause-ends : goal.returns-clause-ends
returns-clause-ends c =
    rw c.as_slice.ensures.value
    (ends_are (machine_of c.self.inside.parts) c.self.inside.parts.schedule.completions.items
    c.self.invariant.machine.told c.self.invariant.machine.completions
    ∙ ap (λ (r : Running). completions r.state) c.self.view_is)
