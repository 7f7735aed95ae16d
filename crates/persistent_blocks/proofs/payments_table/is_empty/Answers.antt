use Rattle.persistent_blocks.proofs.Removed.{has_none}
use Rattle.persistent_blocks.proofs.payments_table.is_empty.Goals as goal

pub returns-in-None : goal.returns-in-None
returns-in-None c t =
    has_none c.args.sets.now c.new.result 512 c.new.ensures c.in-None.ensures c.within_law.ensures
