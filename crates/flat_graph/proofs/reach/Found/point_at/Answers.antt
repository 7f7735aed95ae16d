use Rattle.std.proofs.Common.{◌∙◌, ap, sym, length, arith, slice_get}
use Rattle.std.proofs.lemmas.Option.{slice_get-get_or}
use Rattle.flat_graph.specs.declared.points.ProgramPoint.{ProgramPoint}
use Rattle.flat_graph.proofs.reach.Found.point_at.Goals as goal

pub returns : goal.returns
returns c =
    let none : ProgramPoint = record { context = 0; address = 0 } in
    ap (λ l. slice_get l c.args.place) (sym c.as_slice-points.ensures.keys)
    ∙ slice_get-get_or c.as_slice-points.result.now c.args.place none
    (omega (arith, c.requires, ap length c.as_slice-points.ensures.keys))
