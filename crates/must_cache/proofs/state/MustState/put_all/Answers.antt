use Rattle.std.proofs.Common.{◌≡◌, arith}
use Rattle.must_cache.proofs.PutAll.{none_put, put_one, all_put}
use Rattle.must_cache.proofs.state.MustState.put_all.Goals as goal

pub loop-i-init : goal.loop-i-init
loop-i-init g c = none_put _ _

pub loop-i-preserved : goal.loop-i-preserved
loop-i-preserved g c =
    put_one _ _ _ c.loop-i.i c.loop-i.invariant c.known_or-put.result (omega (arith, c.self.told))
    c.known_or-put.ensures

pub returns : goal.returns
returns g c =
    let last : c.loop-i.i ≡ g.row.S = omega arith in
    rw (← c.self.view_is, ← c.other.view_is)
    (all_put _ _ _ c.loop-i.i c.loop-i.invariant g.row.S last c.other.told)
