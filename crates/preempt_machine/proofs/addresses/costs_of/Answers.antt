use Rattle.std.proofs.Common.{◌≡◌, Option, true, false, sym, subst, IfSome}
use Rattle.crpd_base.specs.declared.data.Platform.{Platform}
use Rattle.rv_decode.specs.declared.Ins.{Ins}
use Rattle.rv_decode.specs.Cost.{cost}
use Rattle.preempt_machine.specs.declared.addresses.Costs.{Costs}
use Rattle.preempt_machine.specs.Inner.Addresses.{AreCosts}
use Rattle.preempt_machine.proofs.addresses.costs_of.Goals as goal

costs_are : (p : Platform) (c : Costs) (ins : Ins) → c.hit ≡ cost p ins false false
    → c.hit_taken ≡ cost p ins false true → c.miss ≡ cost p ins true false
    → c.miss_taken ≡ cost p ins true true → AreCosts p c ins
costs_are p c ins e f g h false false = e
costs_are p c ins e f g h false true = f
costs_are p c ins e f g h true false = g
costs_are p c ins e f g h true true = h

pub returns-in-Some : goal.returns-in-Some
returns-in-Some c =
    let costs : Costs = record {
      hit = c.cost.result;
      hit_taken = c.cost-in-Some.result;
      miss = c.cost-in-Some-2.result;
      miss_taken = c.cost-in-Some-3.result;
    } in
    subst (λ (m : Option Ins). IfSome m (AreCosts c.args.platform.now costs)) (sym c.in-Some.is)
    (costs_are _ costs _ c.cost.ensures c.cost-in-Some.ensures c.cost-in-Some-2.ensures
    c.cost-in-Some-3.ensures)
