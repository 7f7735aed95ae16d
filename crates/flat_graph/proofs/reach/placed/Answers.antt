use Rattle.std.proofs.Common.{◌≡◌, ◌∙◌, sym, ap, subst, arith, get_or, slice_get, Some, ℕ}
use Rattle.std.proofs.lemmas.List.{take_all}
use Rattle.flat_graph.specs.Inner.Points.{points_of}
use Rattle.flat_graph.specs.declared.points.FoundPoint.{FoundPoint}
use Rattle.flat_graph.specs.declared.points.ProgramPoint.{ProgramPoint}
use Rattle.flat_graph.proofs.Placed.{placed_more, places_more}
use Rattle.flat_graph.proofs.reach.placed.Goals as goal

pub loop-place-preserved : goal.loop-place-preserved
loop-place-preserved c =
    let none : ProgramPoint = record { context = 0; address = 0 } in
    let points = c.args.points.now in
    let k = c.loop-place.place in
    let point : ProgramPoint = get_or points k none in
    record {
      count = omega (arith, c.in_ok-push.ensures.len);
      plain = ap points_of c.in_ok-push.ensures.items
          ∙ placed_more points c.loop-place.placed.items k none (omega arith)
          c.loop-place.invariant.plain;
      places = subst (λ l. (j : ℕ) (p : FoundPoint) → slice_get l j ≡ Some p → p.place ≡ j)
          (sym c.in_ok-push.ensures.items)
          (places_more c.loop-place.placed.items point k c.loop-place.invariant.count
          c.loop-place.invariant.places);
    }

pub returns : goal.returns
returns c = record {
  plain = c.loop-place.invariant.plain
      ∙ take_all c.loop-place.place c.args.points.now (omega arith);
  places = c.loop-place.invariant.places;
}
