use Rattle.std.proofs.Common.{◌≡◌, length}
use Rattle.loop_regions.proofs.ranks.count.Given as goal

abbrev pub invariant-loop-next : goal.invariant-loop-next
invariant-loop-next l = length l.arrivals.items ≡ length l.initial.arrivals.items
