use Rattle.std.proofs.Common.{rules}
use Rattle.delay_count.proofs.choice.next_value.Goals as goal

pub loop-k-preserved : goal.loop-k-preserved
loop-k-preserved c = search rules
