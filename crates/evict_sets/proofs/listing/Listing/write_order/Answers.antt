use Rattle.std.proofs.Common.{◌+◌, sym, subst, ◌∙◌, arith}
use Rattle.flat_graph.specs.CodeGraph.{graph_of}
use Rattle.evict_sets.specs.ListedPart.{listed_of}
use Rattle.evict_sets.specs.Inner.OrderPrefix.{HasListedBelow}
use Rattle.evict_sets.proofs.Lines.{no_line, no_last, none_listed, listed_past, whole}
use Rattle.evict_sets.proofs.Chains.{OrderTo}
use Rattle.evict_sets.proofs.listing.Listing.write_order.Goals as goal
use Rattle.evict_sets.proofs.listing.Listing.write_order.Goals.{then-is_listed, else-is_listed}

pub loop-node-init : goal.loop-node-init
loop-node-init c = record {
  line =
      no_line (graph_of c.args.self.now.graph.now) (listed_of c.args.self.now.part.now)
      c.args.order.now;
  closed =
      no_last (graph_of c.args.self.now.graph.now) (listed_of c.args.self.now.part.now)
      c.args.order.now;
  all =
      none_listed (graph_of c.args.self.now.graph.now) (listed_of c.args.self.now.part.now)
      c.args.order.now;
}

pub loop-node-preserved : goal.loop-node-preserved
loop-node-preserved c =
    elim c.if-is_listed.branch [
      | then-is_listed w ↦
          subst (λ o. OrderTo (graph_of c.args.self.now.graph.now)
          (listed_of c.args.self.now.part.now) o c.if-is_listed.count (c.loop-node.node + 1))
          (sym w.order-is)
          (subst (λ k. OrderTo (graph_of c.args.self.now.graph.now)
          (listed_of c.args.self.now.part.now) w.write_chain-count.new.order k
          (c.loop-node.node + 1)) (sym w.count-is)
          (record {
            line = w.write_chain-count.ensures.line;
            closed = w.write_chain-count.ensures.closed;
            all = w.write_chain-count.ensures.all;
          }))
      | else-is_listed w ↦
          subst (λ o. OrderTo (graph_of c.args.self.now.graph.now)
          (listed_of c.args.self.now.part.now) o c.if-is_listed.count (c.loop-node.node + 1))
          (sym w.order-is)
          (subst (λ k. OrderTo (graph_of c.args.self.now.graph.now)
          (listed_of c.args.self.now.part.now) c.loop-node.order k (c.loop-node.node + 1))
          (sym w.count-is)
          (record {
            line = c.loop-node.invariant.line;
            closed = c.loop-node.invariant.closed;
            all =
                listed_past (graph_of c.args.self.now.graph.now)
                (listed_of c.args.self.now.part.now) c.loop-node.order c.loop-node.count
                c.loop-node.node (sym c.is_listed.ensures ∙ w.if-is_listed.false)
                c.loop-node.invariant.all;
          }))
    ]

pub returns : goal.returns
returns c =
    whole (graph_of c.args.self.now.graph.now) (listed_of c.args.self.now.part.now)
    c.loop-node.order c.loop-node.count c.graph_law.ensures.graph c.requires.case.leaders
    (omega (arith, c.loop-node.auto.order, c.requires.count)) c.loop-node.invariant.line
    c.loop-node.invariant.closed
    (subst (λ n. HasListedBelow (graph_of c.args.self.now.graph.now)
    (listed_of c.args.self.now.part.now) c.loop-node.order c.loop-node.count n)
    (omega (arith, c.loop-node-test.false, c.loop-node.auto.node-end, c.len-node-end.ensures))
    c.loop-node.invariant.all)
