use Rattle.crpd_base.proofs.Elements.{copied_more}
use Rattle.loop_regions.proofs.ranges.ranged_loops.Goals as goal

pub loop-stated-preserved : goal.loop-stated-preserved
loop-stated-preserved c =
    copied_more c.args.loops.now c.loop-stated.ranged.items c.push.new.self.items
    c.loop-stated.stated-index c.stated-item.result _ c.loop-stated-test.true
    c.loop-stated.invariant c.stated-item.is c.in_ok-new.ensures c.in_ok-push.ensures.items
