use Rattle.std.proofs.Common.{◌*◌, ◌≤◌, ◌^◌, ap, sym, subst}
use Rattle.persistent_blocks.specs.Inner.Paid.{sets_in}
use Rattle.persistent_blocks.proofs.PaidTable.{price_small}
use Rattle.persistent_blocks.proofs.payments_table.price.Goals as goal

pub returns-clause-is : goal.returns-clause-is
unfolding sets_in
returns-clause-is c = ap (λ k. c.args.miss * k) c.count.ensures

pub returns-clause-small : goal.returns-clause-small
unfolding sets_in
returns-clause-small c =
    subst (λ k. c.args.miss * k ≤ 2 ^ 25) (sym c.count.ensures)
    (price_small c.args.miss c.args.sets.now c.requires)
