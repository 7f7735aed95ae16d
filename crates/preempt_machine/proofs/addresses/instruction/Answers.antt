use Rattle.std.proofs.Common.{refl, sym, ◌∙◌}
use Rattle.preempt_machine.specs.Machine.{ins_at}
use Rattle.preempt_machine.proofs.addresses.instruction.Goals as goal

pub returns-in-Some-Ebreak-clause-is : goal.returns-in-Some-Ebreak-clause-is
unfolding ins_at
returns-in-Some-Ebreak-clause-is c platform =
    rw (
      sym c.word.ensures.is ∙ c.in_ok-word.was,
      sym c.decode.ensures.row ∙ c.in-Some-Ebreak.is,
      c.in-Some-Ebreak.field-0-is,
    ) refl

pub returns-in-Some-Ebreak-clause-in_range : goal.returns-in-Some-Ebreak-clause-in_range
returns-in-Some-Ebreak-clause-in_range c = tt
