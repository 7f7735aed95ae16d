use Rattle.flow_watch.proofs.Counts.{counted_all, counted_still, keeps_each}
use Rattle.flow_watch.proofs.loops.quiet_range.Goals as goal

pub loop-i-preserved : goal.loop-i-preserved
loop-i-preserved c =
    record {
      still = λ a low high.
          let s = c.still_range-range.ensures.still a low high in
          counted_still a c.args.loops.now c.args.turns.now c.loop-i.i c.index-loops-i.result
          (c.loop-i.invariant.still a s.0 s.1) c.loop-i-test.true c.index-loops-i.is s.2;
      near = λ small keeps.
          c.still_range-range.ensures.near small (c.loop-i.invariant.near small keeps)
          (keeps_each c.args.near c.args.loops.now c.args.turns.now c.loop-i.i
          c.index-loops-i.result c.requires keeps c.loop-i-test.true c.index-loops-i.is);
    }

pub returns-clause-still : goal.returns-clause-still
returns-clause-still c = λ a low high.
    counted_all a c.args.loops.now c.args.turns.now c.loop-i.i
    (c.loop-i.invariant.still a low high) c.loop-i-test.false
