use Rattle.std.proofs.Common.{◌∷◌, ◌++◌, [], List, ℕ, map, sym, subst}
use Rattle.std.proofs.lemmas.List.{map-append}
use Rattle.std.proofs.lemmas.Iterator.Consumers.{YieldsList-end, YieldsList-from_first}
use Rattle.crpd_base.specs.declared.data.NodeId.{NodeId}
use Rattle.flat_graph.specs.CodeGraph.{graph_of}
use Rattle.loop_regions.specs.Inner.Least.{IsLeastNumber}
use Rattle.loop_regions.specs.Inner.FoundRegions.{nest_in, EntersSome}
use Rattle.loop_regions.proofs.SecondEntries.{enters_none, enters_more, enters_all}
use Rattle.loop_regions.proofs.second_entry.entered_from.Goals as goal

pub loop-next-init : goal.loop-next-init
loop-next-init c = enters_none (nest_in c.args.regions.now) c.args.u

pub loop-next-preserved : goal.loop-next-preserved
loop-next-preserved c =
    let n = nest_in c.args.regions.now in
    let vs = map (λ (n : NodeId). n.0) c.loop-next.yielded in
    let more = enters_more n c.args.u c.in-Some.next.0 vs c.loop-next.least c.entered_at.result
    c.loop-next.invariant c.entered_at.ensures in
    subst (λ ws. IsLeastNumber (EntersSome n c.args.u ws) c.lesser-least.result)
    (sym (map-append (λ (n : NodeId). n.0) c.loop-next.yielded (c.in-Some.next ∷ [])))
    (subst
    (λ o. IsLeastNumber (EntersSome n c.args.u (vs ++ c.in-Some.next.0 ∷ [])) o)
    (sym c.lesser-least.ensures) more)

pub returns : goal.returns
returns c =
    let n = nest_in c.args.regions.now in
    let g = graph_of c.args.graph.now in
    let all = YieldsList-end
    (YieldsList-from_first (λ (n : NodeId). n.0) (λ (left : List ℕ). left) (g.next c.args.u) cc)
    c.loop-next.yielded _ c.loop-next.yielded_by _ _ c.in-None.is c.next.ensures.steps in
    enters_all g n c.args.u c.loop-next.least c.requires.node
    (subst (λ ws. IsLeastNumber (EntersSome n c.args.u ws) c.loop-next.least) all.0
    c.loop-next.invariant)
