use Rattle.std.proofs.Common.{slice_index}
use Rattle.delay_point.specs.Inner.Lists.{list_by}
use Rattle.delay_point.proofs.Best.{counted_window}
use Rattle.delay_point.proofs.windows.window_by.Goals as goal

pub returns : goal.returns
returns c =
    counted_window c.args.set.now (list_by c.args.parts.now) (slice_index c.args.longest.now)
    (slice_index c.args.windows.now) c.args.task.0 c.args.method c.counted_by-counted.result.now
    c.multiset_by.result c.window.result c.counted_by-counted.ensures c.multiset_by.ensures
    c.window.ensures
