use Rattle.std.proofs.Common.{◌-◌, ap, ◌∙◌, slice_index}
use Rattle.delay_count.specs.Demand.{greatest_from}
use Rattle.delay_count.proofs.window_demand.longest_begun.Goals as goal

pub returns-in-Instruction-clause-is : goal.returns-in-Instruction-clause-is
returns-in-Instruction-clause-is c =
    rw c.in-Instruction.is
    (c.longest_from.ensures.is
    ∙ ap (greatest_from (λ k. slice_index c.args.longest.now k - 1) c.args.i) c.len.ensures)
