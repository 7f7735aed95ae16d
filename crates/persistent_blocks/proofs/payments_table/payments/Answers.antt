use Rattle.std.proofs.Common.{◌≡◌, ℕ, ◌+◌, List, [], ◌∷◌, length, sym, ap, ◌∙◌, subst, arith}
use Rattle.std.proofs.Common.{length-append}
use Rattle.crpd_base.proofs.Elements.{at_contains}
use Rattle.flat_graph.specs.CodeGraph.{graph_of}
use Rattle.persistent_blocks.specs.Inner.Brought.{region_events}
use Rattle.persistent_blocks.specs.Inner.Paid.{ArePaidBelow}
use Rattle.persistent_blocks.proofs.PaidTable.{paid_more, paid_all}
use Rattle.persistent_blocks.proofs.payments_table.payments.Goals as goal

pub paid_to-requires-clause-target : goal.paid_to-requires-clause-target
paid_to-requires-clause-target c v e =
    let g = graph_of c.args.brings.now.graph.now in
    c.graph_law.ensures.graph.edges c.loop-node.node v (
      omega (arith, c.loop-node-test.true, c.len-node-end.ensures),
      at_contains (g.next c.loop-node.node) 0 v (sym c.succ.ensures ∙ e),
    )

pub paid_to-requires-in-loop-node-clause-target : goal.paid_to-requires-in-loop-node-clause-target
paid_to-requires-in-loop-node-clause-target c v e =
    let g = graph_of c.args.brings.now.graph.now in
    c.graph_law.ensures.graph.edges c.loop-node.node v (
      omega (arith, c.loop-node-test.true, c.len-node-end.ensures),
      at_contains (g.next c.loop-node.node) 1 v (sym c.succ-in-loop-node.ensures ∙ e),
    )

pub loop-node-preserved : goal.loop-node-preserved
loop-node-preserved c =
    let b = c.args.brings.now in
    let g = graph_of b.graph.now in
    let e = region_events c.args.geometry.now.platform b.graph.now b.nest.now b.heads.items
    b.blocks.items in
    let old = c.loop-node.sets.items in
    let one = c.push.new.self.items in
    let two = c.push-in-loop-node.new.self.items in
    let first = c.paid_to.result in
    let second = c.paid_to-in-loop-node.result in
    let longer : length one ≡ length old + 1 =
    ap (λ (l : List (List ℕ)). length l) c.in_ok-push.ensures.items
    ∙ length-append old (first ∷ []) in
    let longest : length two ≡ length one + 1 =
    ap (λ (l : List (List ℕ)). length l) c.in_ok-push-2.ensures.items
    ∙ length-append one (second ∷ []) in
    record {
      count = omega (arith, longer, longest, c.loop-node.invariant.count);
      each = paid_more g e old one two first second c.loop-node.node c.loop-node.invariant.count
          c.in_ok-push.ensures.items c.in_ok-push-2.ensures.items
          (λ v s is. c.paid_to.ensures v s (c.succ.ensures ∙ is))
          (λ v s is. c.paid_to-in-loop-node.ensures v s (c.succ-in-loop-node.ensures ∙ is))
          c.loop-node.invariant.each;
    }

pub returns-clause-counts : goal.returns-clause-counts
returns-clause-counts c =
    let b = c.args.brings.now in
    let g = graph_of b.graph.now in
    let e = region_events c.args.geometry.now.platform b.graph.now b.nest.now b.heads.items
    b.blocks.items in
    let last : c.loop-node.node ≡ g.size =
    omega (arith, c.loop-node-test.false, c.loop-node.auto, c.len-node-end.ensures) in
    paid_all g e c.loop-node.sets.items c.graph_law.ensures.successors
    (subst (λ k. ArePaidBelow g e c.loop-node.sets.items k) last c.loop-node.invariant.each)
