use Rattle.loop_regions.proofs.Seen.{none_after}
use Rattle.std.proofs.Common.{◌≡◌, ◌∙◌, ◌+◌, ◌-◌, ◌/◌, sym, ap, subst, false, arith, is_some}
use Rattle.flat_graph.specs.CodeGraph.{places_of}
use Rattle.loop_regions.specs.Stated.{seen_from}
use Rattle.loop_regions.proofs.holding.past_seen.Goals as goal

pub loop-found-preserved : goal.loop-found-preserved
loop-found-preserved c =
    let p = places_of c.args.graph.now in
    let v = c.loop-found.found + (c.loop-found.past - c.loop-found.found) / 2 in
    let out = subst (λ f. is_some (seen_from f (p.context v) (p.address v)) ≡ false)
    c.context-from.ensures (sym (ap is_some c.seen.ensures) ∙ sym c.is_some.ensures
    ∙ c.if-is_some.false) in
    record {
      above = omega arith;
      ordered = omega arith;
      within = omega arith;
      after = λ y le lt.
          none_after c.args.graph.now c.graph_law.ensures.code c.args.head v y
          (omega arith) le lt out;
    }
