use Rattle.std.proofs.Common.{◌+◌, subst, sym, arith}
use Rattle.loop_regions.specs.Inner.Least.{IsLeastNumber}
use Rattle.loop_regions.proofs.SameHeads.{IsSameBelow, one_more, all_heads}
use Rattle.loop_regions.proofs.same_head.least_same_head.Goals as goal

pub loop-j-init : goal.loop-j-init
loop-j-init c = λ a s. absurd (omega (arith, s.1))

pub loop-j-preserved : goal.loop-j-preserved
loop-j-preserved c =
    subst (λ o. IsLeastNumber (IsSameBelow c.args.loops.now (c.loop-j.j + 1)) o)
    (sym c.lesser-least.ensures)
    (one_more c.args.loops.now c.loop-j.j c.loop-j.least c.repeated_head.result c.loop-j.invariant
    c.repeated_head.ensures)

pub returns : goal.returns
returns c = all_heads c.args.loops.now c.loop-j.j c.loop-j.least (omega arith) c.loop-j.invariant
