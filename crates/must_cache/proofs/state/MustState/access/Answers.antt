use Rattle.std.proofs.Common.{arith}
use Rattle.must_cache.proofs.Blocks.{held_set}
use Rattle.must_cache.proofs.state.MustState.access.Goals as goal

pub returns : goal.returns
returns g c set =
    rw (← c.block-block.ensures, ← c.set.ensures, ← c.self.view_is)
    (held_set c.self.inside.blocks c.set.result set c.block-block.result (omega arith))
