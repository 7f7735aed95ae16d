use Rattle.std.proofs.Common.{◌≡◌, arith}
use Rattle.must_cache.proofs.PutAll.{none_unmarked, unmark_one, unmark_none, all_unmarked}
use Rattle.must_cache.proofs.state.MustState.unmark_known.Goals as goal
use Rattle.must_cache.proofs.state.MustState.unmark_known.Goals.{in-Some, in-None}

pub loop-i-init : goal.loop-i-init
loop-i-init g c = none_unmarked _ _

pub loop-i-preserved : goal.loop-i-preserved
loop-i-preserved g c = elim c.match-self-i.branch [
  | in-Some w ↦
      rw w.sets-is
      (unmark_one _ _ c.loop-i.sets c.loop-i.i c.loop-i.invariant w.remove.new.self _ w.in-Some.is
      w.remove.ensures)
  | in-None w ↦
      rw w.sets-is
      (unmark_none _ _ c.loop-i.sets c.loop-i.i c.loop-i.invariant w.in-None.is)
]

pub returns : goal.returns
returns g c =
    let last : c.loop-i.i ≡ g.row.S = omega arith in
    rw (← c.self.view_is)
    (all_unmarked _ _ _ c.loop-i.i c.loop-i.invariant g.row.S last c.self.told)
