use Rattle.std.proofs.Common.{◌≡◌, arith, slice_index, subst}
use Rattle.delay_point.specs.Inner.Lists.{list_by}
use Rattle.delay_point.specs.Inner.Windows.{counted_needs}
use Rattle.delay_point.proofs.Best.{Best, best_more, refined_best}
use Rattle.delay_point.proofs.windows.refined_window.Goals as goal

pub loop-method-preserved : goal.loop-method-preserved
loop-method-preserved c =
    best_more c.args.set.now
    (counted_needs c.args.set.now (list_by c.args.parts.now) (slice_index c.args.longest.now)
    (slice_index c.args.windows.now) c.args.task.0) c.args.task.0 c.loop-method.method-index _
    c.loop-method.best c.shorter-best.result c.window_by-window.result c.loop-method-test.true
    c.window_by-window.ensures c.loop-method.invariant c.shorter-best.ensures

pub returns : goal.returns
returns c =
    let all : c.loop-method.method-index ≡ 5 = omega arith in
    refined_best c.args.set.now
    (counted_needs c.args.set.now (list_by c.args.parts.now) (slice_index c.args.longest.now)
    (slice_index c.args.windows.now) c.args.task.0) c.args.task.0 c.loop-method.best
    (subst (λ k. Best c.args.set.now
    (counted_needs c.args.set.now (list_by c.args.parts.now) (slice_index c.args.longest.now)
    (slice_index c.args.windows.now) c.args.task.0) c.args.task.0 k c.loop-method.best) all
    c.loop-method.invariant)
