use Rattle.std.proofs.Common.{ℕ, ◌<◌, ◌+◌, length, ap, ◌∙◌, arith}
use Rattle.std.proofs.lemmas.Grind.{get_or_default_zero}
use Rattle.flat_graph.specs.CodeGraph.{graph_of}
use Rattle.loop_regions.specs.CodeNest.{nest_of}
use Rattle.loop_regions.specs.Potentials.{item_potential}
use Rattle.evict_sets.specs.Listing.{counted}
use Rattle.loop_regions.proofs.Beside.{nested, one_last}
use Rattle.exec_bound.specs.Costs.{priced_costs, table_price, listed_potentials}
use Rattle.exec_bound.proofs.Values.{notes_same, notes_exit}
use Rattle.exec_bound.proofs.costed.Costed.note_exits.Goals as goal

pub loop-next-preserved-in-Exit : goal.loop-next-preserved-in-Exit
loop-next-preserved-in-Exit c =
    let n = nest_of c.args.self.now.nest.now in
    let N = nested c.args.self.now.graph.now c.args.self.now.nest.now c.requires.costed.beside in
    let so_far = c.loop-next.invariant in
    let price : ℕ = table_price (graph_of c.args.self.now.graph.now) c.args.self.now.prices.now
    c.args.node.0 c.in-Some.next.0 in
    let room : c.in-Exit.region < length c.loop-next.values.exits.items =
    omega (arith, c.in-Exit.ensures.1.0.0, so_far.exits.count, c.requires.exits) in
    record {
      settled = so_far.settled;
      nodes = so_far.nodes;
      loops = so_far.loops;
      exits =
          notes_exit n (priced_costs c.args.self.now.platform.now c.args.self.now.graph.now
          (counted c.args.self.now.hits.now) c.args.self.now.prices.now) _ c.args.node.0 c.loop-next.yielded c.in-Some.next _
          c.loop-next.values.exits.items so_far.exits c.in-Exit.region
          c.arrival-after.result c.max.result room
          (λ s l. one_last (graph_of c.args.self.now.graph.now) n c.graph_law.ensures.graph N
          c.args.node.0 c.in-Some.next.0 c.in-Exit.region s c.in-Exit.ensures.1 l)
          c.in-Exit.ensures
          (λ i a. c.arrival-after.ensures.is i a
          ∙ ap (λ x. price + item_potential (listed_potentials x c.loop-next.values.loops.items) i)
          so_far.nodes
          ∙ ap (λ x. price + item_potential (listed_potentials c.args.values.now.nodes.items x) i)
          so_far.loops)
          (omega (
            arith,
            c.max.ensures,
            c.index-before.ensures ∙ get_or_default_zero c.loop-next.values.exits.items
                c.in-Exit.region c.index-before.result.now room,
          ));
    }

pub loop-next-preserved : goal.loop-next-preserved
loop-next-preserved c =
    let so_far = c.loop-next.invariant in
    record {
      settled = so_far.settled;
      nodes = so_far.nodes;
      loops = so_far.loops;
      exits =
          notes_same _ _ _ c.args.node.0 c.loop-next.yielded c.in-Some.next _ _ so_far.exits
          c.edge_kind.result c.edge_kind.ensures c.in_default.not-Exit;
    }
