-- The cache has four entries throughout.
use Rattle.std.proofs.Common.{◌≡◌, length}
use Rattle.layer_tests.proofs.accesses.hits_and_misses.Given as goal

abbrev pub invariant-loop-block : goal.invariant-loop-block
invariant-loop-block g l = length l.cache ≡ 4
