-- The best window by the methods so far.
use Rattle.std.proofs.Common.{slice_index}
use Rattle.delay_point.specs.Inner.Lists.{list_by}
use Rattle.delay_point.specs.Inner.Windows.{counted_needs}
use Rattle.delay_point.proofs.Best.{Best}
use Rattle.delay_point.proofs.windows.refined_window.Given as goal

abbrev pub invariant-loop-method : goal.invariant-loop-method
invariant-loop-method l =
    Best l.set
    (counted_needs l.set (list_by l.parts) (slice_index l.longest) (slice_index l.windows)
    l.task.0) l.task.0 l.method-index l.best
