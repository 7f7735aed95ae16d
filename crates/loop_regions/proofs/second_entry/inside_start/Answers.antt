use Rattle.std.proofs.Common.{subst, ℕ}
use Rattle.flat_graph.specs.CodeGraph.{graph_of}
use Rattle.loop_regions.specs.Inner.Least.{IsLeastNumber}
use Rattle.loop_regions.specs.Inner.FoundRegions.{nest_in, EntersAt}
use Rattle.loop_regions.specs.Inner.Heads.{nodes_of, bounds_of}
use Rattle.loop_regions.proofs.SecondEntries.{start_entered}
use Rattle.loop_regions.proofs.second_entry.inside_start.Goals as goal

pub returns : goal.returns
returns c =
    let r = c.args.regions.now in
    let o = c.entered_at.result in
    start_entered (graph_of c.args.graph.now) (nodes_of r.heads) (bounds_of r.heads) r.holders o c.requires
    (subst (λ (u : ℕ). IsLeastNumber (EntersAt (nest_in r) u (graph_of c.args.graph.now).first) o)
    c.len.ensures
    (subst (λ (v : ℕ). IsLeastNumber (EntersAt (nest_in r) c.len.result v) o) c.first.ensures
    c.entered_at.ensures))
