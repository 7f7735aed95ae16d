-- The sets below i are as they are to be, the others as they were.
use Rattle.must_cache.proofs.Forgotten.{AreForgottenBelow}
use Rattle.must_cache.proofs.state.MustState.forget.Given as goal

abbrev pub invariant-loop-i : goal.invariant-loop-i
invariant-loop-i g l =
    AreForgottenBelow l.sets l.initial.self-inside.blocks l.self-inside.blocks l.i
