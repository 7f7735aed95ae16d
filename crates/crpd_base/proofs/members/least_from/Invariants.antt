-- None of the numbers that were skipped is in the set.
use Rattle.std.proofs.Common.{◌≡◌, ℕ, ◌*◌, ◌-◌, ◌<◌, ◌≤◌}
use Rattle.crpd_base.specs.Sets.{member}
use Rattle.crpd_base.proofs.members.least_from.Given as goal

abbrev pub invariant-loop-from : goal.invariant-loop-from
invariant-loop-from g l =
    record {
      later : l.start ≤ l.from;
      passed : (t : ℕ) → l.start ≤ t → t < l.from → member l.set t ≡ 0;
    }

abbrev pub decreases-loop-from : goal.decreases-loop-from
decreases-loop-from g l = 64 * g.row.W - l.from
