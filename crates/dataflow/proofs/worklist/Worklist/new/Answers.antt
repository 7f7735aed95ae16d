use Rattle.std.proofs.Common.{◌≡◌, length, get_or, true, false, ap, sym, ◌∙◌, subst, arith}
use Rattle.std.proofs.lemmas.List.{get_or-replicate}
use Rattle.dataflow.specs.Inner.Search.{IsVisitOrder}
use Rattle.dataflow.proofs.worklist.Worklist.new.Goals as goal

pub returns-clause-nodes : goal.returns-clause-nodes
returns-clause-nodes c = omega (arith, c.in_ok-vec.field-0.ok, c.in_ok-vec.ensures.len)

pub returns-clause-all : goal.returns-clause-all
returns-clause-all c = λ n lt.
    ap (λ w. get_or w n false) (c.in_ok-vec.ensures.items_if_clones_equal (λ y same. same))
    ∙ get_or-replicate c.args.nodes n true false lt

pub invariant_of-result : goal.invariant_of-result
invariant_of-result c =
    let all : length c.in_ok-vec.field-0.items ≡ c.args.nodes =
    omega (arith, c.in_ok-vec.field-0.ok, c.in_ok-vec.ensures.len) in
    (subst (λ n. IsVisitOrder n c.args.order.items) (sym all) c.requires, omega arith)
