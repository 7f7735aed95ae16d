use Rattle.std.proofs.Common.{◌≢◌, Some, [], length}
use Rattle.flow_watch.specs.Iterations.{HasIterations}
use Rattle.layer_tests.proofs.watches.watch_after.Given as goal

abbrev pub invariant-loop-step : goal.invariant-loop-step
invariant-loop-step g l =
    record { turns : HasIterations (length l.plan.loops) l.watch; under_way : l.watch ≢ Some [] }
