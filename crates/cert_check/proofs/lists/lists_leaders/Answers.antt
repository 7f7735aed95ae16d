use Rattle.std.proofs.Common.{sym, ◌∙◌}
use Rattle.std.proofs.lemmas.Bool.{false≢true}
use Rattle.flat_graph.specs.CodeGraph.{graph_of}
use Rattle.evict_sets.specs.ListedPart.{listed_of}
use Rattle.cert_check.proofs.Leaders.{listed_more, other_more}
use Rattle.cert_check.proofs.lists.lists_leaders.Goals as goal
use Rattle.cert_check.proofs.lists.lists_leaders.Goals.{
  else-leader-via-then-leader+else-not-is_listed,
}
use Rattle.cert_check.proofs.lists.lists_leaders.Goals.{else-leader-via-else-leader}

pub loop-node-preserved : goal.loop-node-preserved
loop-node-preserved c =
    elim c.else-leader.branch [
      | else-leader-via-then-leader+else-not-is_listed w ↦
          listed_more (graph_of c.args.listing.now.graph.now)
          (listed_of c.args.listing.now.part.now) c.loop-node.node
          (sym w.is_listed.ensures ∙ w.if-not-is_listed.false) c.loop-node.invariant
      | else-leader-via-else-leader w ↦
          other_more (graph_of c.args.listing.now.graph.now) (listed_of c.args.listing.now.part.now)
          c.loop-node.node c.graph_law.ensures.graph
          (λ leads. false≢true (sym w.if-leader.false ∙ c.leader.ensures.1 leads))
          c.loop-node.invariant
    ]
