use Rattle.std.proofs.Common.{◌∙◌, sym, ap, subst, length}
use Rattle.flat_graph.specs.CodeGraph.{graph_of, places_of}
use Rattle.loop_regions.specs.CodeNest.{CodeNest, nest_of}
use Rattle.loop_regions.specs.Stated.{IsRegions, HasNoLoopRefusals}
use Rattle.loop_regions.proofs.found_nest.nest_of_found.Goals as goal

pub returns-clause-regions : goal.returns-clause-regions
returns-clause-regions c =
    subst (λ (n : CodeNest). IsRegions (graph_of c.args.graph.now) (places_of c.args.graph.now)
    c.args.loops.now (nest_of n)) (sym c.new.ensures) c.requires.regions

pub returns-clause-accepted : goal.returns-clause-accepted
returns-clause-accepted c =
    subst (λ (n : CodeNest). HasNoLoopRefusals (graph_of c.args.graph.now) (nest_of n))
    (sym c.new.ensures) c.in_ok-parents.ensures.accepted

pub returns-clause-nodes : goal.returns-clause-nodes
returns-clause-nodes c =
    ap (λ (n : CodeNest). length n.holders) c.new.ensures ∙ c.requires.nodes
