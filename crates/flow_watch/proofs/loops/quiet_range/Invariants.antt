use Rattle.std.proofs.Common.{ℕ, ◌+◌, ◌^◌, ◌≤◌, ◌<◌}
use Rattle.flow_watch.specs.Quiet.{AreAmong}
use Rattle.flow_watch.specs.Inner.Quiet.{KeepsAllIterations}
use Rattle.flow_watch.proofs.Counts.{IsCounted}
use Rattle.flow_watch.proofs.loops.quiet_range.Given as goal

abbrev pub invariant-loop-i : goal.invariant-loop-i
invariant-loop-i l =
    record {
      still : (a : ℕ) → l.range.from ≤ a → a < l.range.until
          → IsCounted a l.loops l.turns l.i l.turns;
      near : l.near + 1 < 2 ^ 32 → KeepsAllIterations l.near l.loops l.turns
          → AreAmong l.range l.near;
    }
