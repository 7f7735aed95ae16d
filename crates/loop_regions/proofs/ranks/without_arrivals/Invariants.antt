use Rattle.std.proofs.Common.{◌<◌, length, All}
use Rattle.loop_regions.proofs.ranks.without_arrivals.Given as goal

abbrev pub invariant-loop-v : goal.invariant-loop-v
invariant-loop-v l = All (λ v. v < length l.arrivals) l.ready.items
