use Rattle.std.proofs.Common.{sym, subst}
use Rattle.flat_graph.specs.CodeGraph.{graph_of, places_of}
use Rattle.loop_regions.specs.Inner.Heads.{AreHeads}
use Rattle.loop_regions.proofs.FoundRegions.{found}
use Rattle.loop_regions.proofs.found.Regions.find.Goals as goal

pub invariant_of-result : goal.invariant_of-result
invariant_of-result c =
    let both = found (graph_of c.args.graph.now) (places_of c.args.graph.now) c.args.loops.now
    c.in_ok-heads.heads.items c.deref.result.now c.new.result c.new-2.result
    c.in_ok-holders.holders.items c.graph_law.ensures.few c.in_ok-heads.ensures c.deref.ensures.value
    c.new.ensures c.new-2.ensures c.in_ok-holders.ensures.nodes c.in_ok-holders.ensures.held in
    record {
      sound = both.0;
    }

pub returns-clause-regions : goal.returns-clause-regions
returns-clause-regions c =
    let both = found (graph_of c.args.graph.now) (places_of c.args.graph.now) c.args.loops.now
    c.in_ok-heads.heads.items c.deref.result.now c.new.result c.new-2.result
    c.in_ok-holders.holders.items c.graph_law.ensures.few c.in_ok-heads.ensures c.deref.ensures.value
    c.new.ensures c.new-2.ensures c.in_ok-holders.ensures.nodes c.in_ok-holders.ensures.held in
    both.1

pub holders-requires : goal.holders-requires
holders-requires c =
    subst (AreHeads (places_of c.args.graph.now) c.args.loops.now (graph_of c.args.graph.now).size)
    (sym c.deref.ensures.value) c.in_ok-heads.ensures
