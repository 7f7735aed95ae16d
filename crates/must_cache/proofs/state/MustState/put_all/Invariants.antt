-- The sets below i have what the other state knows.
use Rattle.must_cache.proofs.PutAll.{ArePutBelow}
use Rattle.must_cache.proofs.state.MustState.put_all.Given as goal

abbrev pub invariant-loop-i : goal.invariant-loop-i
invariant-loop-i g l =
    ArePutBelow l.other-inside.blocks l.initial.self-inside.blocks l.self-inside.blocks l.i
