use Rattle.must_cache.proofs.Blocks.{held_none}
use Rattle.must_cache.proofs.state.MustState.empty.Goals as goal

pub returns : goal.returns
returns g c = held_none g.row.S
