use Rattle.std.proofs.Common.{◌<◌, ◌∙◌, sym, subst, arith, All}
use Rattle.std.proofs.lemmas.List.Elements.{All-push}
use Rattle.flat_graph.specs.CodeGraph.{graph_of}
use Rattle.loop_regions.proofs.Turns.{next_below}
use Rattle.loop_regions.proofs.ranks.take_away.Goals as goal

pub loop-next-preserved-in-Continue-1 : goal.loop-next-preserved-in-Continue-1
loop-next-preserved-in-Continue-1 c =
    let g = graph_of c.args.graph.now in
    let lt = next_below g.size (g.next c.args.u) (cc) c.successors-next-items.ensures.nodes
    c.loop-next.yielded _ c.loop-next.yielded_by _ _ c.in-Some.next c.in-Some.is
    c.next.ensures.steps in (
      c.was_last.ensures ∙ c.loop-next.invariant.0,
      subst (All (λ v. v < g.size)) (sym c.in_ok-push.ensures.items)
          (All-push (λ v. v < g.size) c.loop-next.ready.items c.in-Some.next.0
          c.loop-next.invariant.1 lt),
    )

pub was_last-requires : goal.was_last-requires
was_last-requires c =
    let g = graph_of c.args.graph.now in
    let lt = next_below g.size (g.next c.args.u) (cc) c.successors-next-items.ensures.nodes
    c.loop-next.yielded _ c.loop-next.yielded_by _ _ c.in-Some.next c.in-Some.is
    c.next.ensures.steps in
    omega (arith, lt, c.loop-next.invariant.0, c.requires.all)
