use Rattle.std.proofs.Common.{arith, length-set}
use Rattle.delay_count.proofs.Shares.{shared_more}
use Rattle.delay_count.proofs.choice.shared_sets.Goals as goal

pub loop-k-preserved : goal.loop-k-preserved
loop-k-preserved g c = record {
  room = simp length-set (c.loop-k.invariant.room);
  done =
      shared_more c.args.lower.now c.loop-k.values c.args.evicting_up.now c.loop-k.k _
      c.shared.result c.index-lower-k.result c.loop-k-test.true
      (omega (arith, c.loop-k.invariant.room)) c.index-lower-k.is c.shared.ensures.is
      c.loop-k.invariant.done;
}
