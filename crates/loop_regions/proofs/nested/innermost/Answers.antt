use Rattle.std.proofs.Common.{◌+◌, take, sym, subst, arith}
use Rattle.loop_regions.proofs.Lines.{IsBest, best_more, best_of_all}
use Rattle.loop_regions.proofs.nested.innermost.Goals as goal

pub loop-r-preserved : goal.loop-r-preserved
loop-r-preserved c =
    subst (λ o. IsBest c.args.around.now c.args.among.now
    (take (c.loop-r.r-index + 1) c.args.among.now) c.args.besides o) (sym c.better-best.ensures)
    (best_more c.args.around.now c.args.among.now c.args.besides c.requires c.loop-r.r-index
    c.loop-r.best (omega arith) c.loop-r.invariant)

pub returns : goal.returns
returns c =
    best_of_all c.args.around.now c.args.among.now c.loop-r.r-index c.args.besides c.loop-r.best
    (omega arith) c.loop-r.invariant
