-- The sets below i of which a block is known are removed.
use Rattle.must_cache.proofs.PutAll.{AreUnmarkedBelow}
use Rattle.must_cache.proofs.state.MustState.unmark_known.Given as goal

abbrev pub invariant-loop-i : goal.invariant-loop-i
invariant-loop-i g l = AreUnmarkedBelow l.self-inside.blocks l.initial.sets l.sets l.i
