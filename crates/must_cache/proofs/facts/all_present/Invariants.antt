-- The first facts.
use Rattle.std.proofs.Common.{◌≡◌, Some, map, take}
use Rattle.must_cache.proofs.facts.all_present.Given as goal

abbrev pub invariant-loop-fact : goal.invariant-loop-fact
invariant-loop-fact g l = map Some l.all.items ≡ take l.fact-index l.facts
