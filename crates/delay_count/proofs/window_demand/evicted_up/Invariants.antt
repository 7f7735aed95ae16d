use Rattle.std.proofs.Common.{◌≡◌, ℕ}
use Rattle.crpd_base.specs.Sets.{has}
use Rattle.delay_count.specs.Gamma.{part_at, evicted_from}
use Rattle.delay_count.proofs.window_demand.evicted_up.Given as goal

abbrev pub invariant-loop-k : goal.invariant-loop-k
invariant-loop-k l = (c : ℕ) → has l.sets c ≡ evicted_from (part_at l.parts) l.k c
