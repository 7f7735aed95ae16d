use Rattle.std.proofs.Common.{⊎_elim, arith}
use Rattle.std.proofs.lemmas.Bool.{cases_lt}
use Rattle.evict_sets.proofs.FullBlocks.{past}
use Rattle.evict_sets.proofs.blocks.clear.Goals as goal

pub returns : goal.returns
returns c s =
    ⊎_elim (λ lt. c.loop-k.invariant s lt)
    (λ le. past c.loop-k.blocks s (omega (arith, le, c.loop-k-test.false))) (cases_lt s c.loop-k.k)
