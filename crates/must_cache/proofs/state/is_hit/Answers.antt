use Rattle.must_cache.proofs.Blocks.{is_some_block}
use Rattle.must_cache.proofs.state.is_hit.Goals as goal

pub returns : goal.returns
returns g c =
    rw (← c.block-block.ensures, ← c.set.ensures, ← c.at.ensures)
    (is_some_block c.at.result c.block-block.result c.eq.result c.eq.ensures)
