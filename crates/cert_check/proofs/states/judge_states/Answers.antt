use Rattle.std.proofs.Common.{◌+◌, length, refl, sym, subst, arith, slice_index_or}
use Rattle.flat_graph.specs.CodeGraph.{graph_of}
use Rattle.evict_sets.specs.ListedPart.{listed_of}
use Rattle.evict_sets.specs.CacheClauses.{StatesMeet}
use Rattle.evict_sets.specs.Listing.{node_accesses}
use Rattle.evict_sets.proofs.HitsTo.{blocks_more}
use Rattle.cert_check.proofs.LeastSeen.{IsLeastSeen, SeenTo, lowest, seen_more}
use Rattle.cert_check.proofs.Judging.{states_least}
use Rattle.cert_check.proofs.states.judge_states.Goals as goal

pub enter-requires-clause-follows : goal.enter-requires-clause-follows
enter-requires-clause-follows c =
    c.loop-k.invariant.state.follows (omega (arith, c.loop-k-test.true, c.requires.order.count))

pub loop-k-preserved : goal.loop-k-preserved
loop-k-preserved c =
    record {
      state =
          blocks_more (graph_of c.args.listing.now.graph.now)
          (node_accesses c.args.listing.now.platform.now c.args.listing.now.graph.now)
          (listed_of c.args.listing.now.part.now) c.args.order.now c.leave.new.blocks c.loop-k.k
          (slice_index_or c.args.order.now c.loop-k.k 0) c.requires.order c.requires.case.leaders
          refl (omega (
            arith,
            c.leave.auto.blocks,
            c.enter.auto.blocks,
            c.loop-k.invariant.state.room,
          )) c.leave.ensures.after;
      seen =
          subst (λ y.
          IsLeastSeen
          (StatesMeet (graph_of c.args.listing.now.graph.now)
          (node_accesses c.args.listing.now.platform.now c.args.listing.now.graph.now)
          (listed_of c.args.listing.now.part.now)) (SeenTo c.args.order.now (c.loop-k.k + 1))
          (length c.args.listing.now.graph.now.nodes) y) (sym c.least_failing-least.ensures)
          (lowest (StatesMeet (graph_of c.args.listing.now.graph.now)
          (node_accesses c.args.listing.now.platform.now c.args.listing.now.graph.now)
          (listed_of c.args.listing.now.part.now)) (SeenTo c.args.order.now c.loop-k.k)
          (SeenTo c.args.order.now (c.loop-k.k + 1)) (length c.args.listing.now.graph.now.nodes)
          c.loop-k.least (slice_index_or c.args.order.now c.loop-k.k 0) c.state_holds.result
          (c.requires.order.nodes c.loop-k.k
          (omega (arith, c.loop-k-test.true, c.requires.order.count)))
          (λ u s ne. seen_more c.args.order.now c.loop-k.k
          (slice_index_or c.args.order.now c.loop-k.k 0) u refl s ne) c.state_holds.ensures
          c.loop-k.invariant.seen);
    }

pub returns : goal.returns
returns c =
    states_least (graph_of c.args.listing.now.graph.now)
    (node_accesses c.args.listing.now.platform.now c.args.listing.now.graph.now)
    (listed_of c.args.listing.now.part.now) c.args.order.now c.loop-k.blocks c.loop-k.least
    c.loop-k.k c.requires.order (omega (arith, c.loop-k-test.false, c.requires.order.count))
    c.loop-k.invariant
