use Rattle.delay_count.proofs.Bits.{product}
use Rattle.delay_classic.proofs.delays.reloads.Goals as goal

pub returns : goal.returns
returns c =
    product _ _ _ _ (product _ _ _ _ c.from.ensures c.from-2.ensures) c.from-3.ensures
