use Rattle.std.proofs.Common.{arith, rules, slice_index}
use Rattle.response.proofs.Jumps.{demanded_low}
use Rattle.response.proofs.bounds.lower_bound.Goals as goal

pub loop-bound-init : goal.loop-bound-init
loop-bound-init c = record {
  onward = omega arith;
  most = c.requires.most;
  lower = λ v takes more steep fits.
      demanded_low c.args.own c.args.demanded c.args.task.0 v (slice_index c.args.higher.now) takes
      c.requires.demanded more fits;
}

pub returns-then-next-bound-clause-settled : goal.returns-then-next-bound-clause-settled
returns-then-next-bound-clause-settled c = search rules
