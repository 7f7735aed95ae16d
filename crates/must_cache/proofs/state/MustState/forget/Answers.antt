use Rattle.std.proofs.Common.{◌≡◌, arith}
use Rattle.must_cache.proofs.Forgotten.{none_forgotten, all_forgotten}
use Rattle.must_cache.proofs.state.MustState.forget.Goals as goal

pub loop-i-init : goal.loop-i-init
loop-i-init g c = none_forgotten _ _

pub returns : goal.returns
returns g c =
    let last : c.loop-i.i ≡ g.row.S = omega arith in
    rw (← c.self.view_is)
    (all_forgotten _ _ _ c.loop-i.i c.loop-i.invariant g.row.S last c.self.told)
