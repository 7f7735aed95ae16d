use Rattle.std.proofs.Common.{refl, arith, slice_index_or}
use Rattle.flat_graph.specs.CodeGraph.{graph_of}
use Rattle.evict_sets.specs.ListedPart.{listed_of}
use Rattle.evict_sets.specs.Listing.{node_accesses}
use Rattle.evict_sets.proofs.HitsTo.{hits_more, hits_all}
use Rattle.evict_sets.proofs.listing.Listing.mark_hits.Goals as goal

pub enter-requires-clause-follows : goal.enter-requires-clause-follows
enter-requires-clause-follows c =
    c.loop-k.invariant.state.follows (omega (arith, c.loop-k-test.true, c.requires.order.count))

pub loop-k-preserved : goal.loop-k-preserved
loop-k-preserved c =
    hits_more (graph_of c.args.self.now.graph.now)
    (node_accesses c.args.self.now.platform.now c.args.self.now.graph.now)
    (listed_of c.args.self.now.part.now) c.args.order.now c.loop-k.blocks c.leave.new.blocks
    c.loop-k.hits c.loop-k.k (slice_index_or c.args.order.now c.loop-k.k 0) c.leave.result
    c.requires.order c.requires.case.leaders
    (omega (arith, c.loop-k-test.true, c.requires.order.count)) refl
    (omega (arith, c.loop-k.auto.hits, c.requires.count))
    (omega (arith, c.leave.auto.blocks, c.enter.auto.blocks, c.loop-k.invariant.state.room))
    c.leave.ensures.after c.leave.ensures.hit c.loop-k.invariant

pub returns-clause-hits : goal.returns-clause-hits
returns-clause-hits c =
    hits_all (graph_of c.args.self.now.graph.now)
    (node_accesses c.args.self.now.platform.now c.args.self.now.graph.now)
    (listed_of c.args.self.now.part.now) c.args.order.now c.loop-k.blocks c.loop-k.hits c.loop-k.k
    c.requires.order (omega (arith, c.loop-k-test.false, c.requires.order.count)) c.loop-k.invariant

pub enter-requires-clause-room : goal.enter-requires-clause-room
enter-requires-clause-room c = c.loop-k.invariant.state.room

pub leave-requires : goal.leave-requires
leave-requires c = record {
  case = c.requires.case;
  node =
      c.requires.order.nodes c.loop-k.k (omega (arith, c.loop-k-test.true, c.requires.order.count));
  room = omega (arith, c.enter.auto.blocks, c.loop-k.invariant.state.room);
  state = c.enter.ensures;
}

pub returns-clause-count : goal.returns-clause-count
returns-clause-count c = omega (arith, c.loop-k.auto.hits, c.requires.count)
