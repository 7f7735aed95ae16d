use Rattle.evict_sets.proofs.FullBlocks.{none_held}
use Rattle.evict_sets.proofs.blocks.load.Goals as goal

pub loop-done-init : goal.loop-done-init
loop-done-init c s = none_held c.clear.new.blocks c.args.sure.now c.clear.ensures s
