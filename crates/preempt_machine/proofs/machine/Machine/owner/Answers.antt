use Rattle.std.proofs.Common.{arith}
use Rattle.preempt_machine.proofs.machine.Machine.owner.Goals as goal

pub index-requires : goal.index-requires
index-requires c =
    omega (
      arith,
      (c.self.invariant.machine.owner c.in-Some.place c.in-Some.is).below,
      c.self.invariant.machine.told,
    )
