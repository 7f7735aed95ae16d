use Rattle.std.proofs.Common.{◌≡◌, ℕ, ◌<◌, suc, Bool, true, false, MatchBool, Some, refl, ap, arith}
use Rattle.dataflow.specs.Inner.Search.{rank}
use Rattle.dataflow.proofs.solver.absorb.Goals as goal

changed_fact : (V : Type 0) (height : V → ℕ) (changed : Bool) (old new : V)
    → MatchBool changed (height old < height new) (new ≡ old)
    → MatchBool changed (rank height (Some old) < suc (height new)) (Some new ≡ Some old)
changed_fact V height true old new rises = omega arith
changed_fact V height false old new same = ap Some same

pub returns-in-None-clause-value : goal.returns-in-None-clause-value
returns-in-None-clause-value g c = rw c.in-None.is refl

pub returns-in-Some-clause-value : goal.returns-in-Some-clause-value
returns-in-Some-clause-value g c = rw c.in-Some.is (ap Some c.join.ensures.value)

pub returns-in-Some-clause-changed : goal.returns-in-Some-clause-changed
returns-in-Some-clause-changed g c =
    rw c.in-Some.is (changed_fact _ (g.D.Domain.height c.args.domain.now) c.join.result _
    (g.D.Domain.view c.join.new.a) c.join.ensures.changed)
