use Rattle.loop_regions.proofs.Seen.{none_before}
use Rattle.std.proofs.Common.{◌≡◌, ◌∙◌, ◌+◌, ◌-◌, ◌/◌, sym, ap, subst, false, arith, is_some}
use Rattle.flat_graph.specs.CodeGraph.{places_of}
use Rattle.loop_regions.specs.Stated.{seen_from}
use Rattle.loop_regions.proofs.holding.first_seen.Goals as goal

pub loop-first-preserved : goal.loop-first-preserved
loop-first-preserved c =
    let p = places_of c.args.graph.now in
    let v = c.loop-first.first + (c.loop-first.found - c.loop-first.first) / 2 in
    let out = subst (λ f. is_some (seen_from f (p.context v) (p.address v)) ≡ false)
    c.context-from.ensures (sym (ap is_some c.seen.ensures) ∙ sym c.is_some.ensures
    ∙ c.if-is_some.false) in
    record {
      ordered = omega arith;
      below = omega arith;
      before = λ y lt.
          none_before c.args.graph.now c.graph_law.ensures.code c.args.head v y c.requires
          (omega arith) out (omega arith);
    }
