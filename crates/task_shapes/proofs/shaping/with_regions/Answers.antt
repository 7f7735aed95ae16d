use Rattle.std.proofs.Common.{List, Ok, Err, ap, inl, inr, refl, subst, sym}
use Rattle.flat_graph.specs.CodeGraph.{CodeGraph}
use Rattle.task_shapes.specs.Graphs.{RegionsOf}
use Rattle.task_shapes.specs.Shapes.{SetWithShapes}
use Rattle.task_shapes.proofs.shaping.with_regions.Goals as goal

pub returns-in_ok-shaped-in-Ok : goal.returns-in_ok-shaped-in-Ok
returns-in_ok-shaped-in-Ok c =
    inl (
      c.args.graphs,
      c.requires,
      inl (
        c.in-Ok.nests,
        subst (λ (gs : List CodeGraph). RegionsOf c.args.input gs (Ok c.in-Ok.nests))
            c.as_slice.ensures c.in-Ok.ensures.exact,
        ap (λ (s : SetWithShapes). Ok s) (sym c.in_ok-shaped-in-Ok.ensures),
      ),
    )

pub returns-in-Err : goal.returns-in-Err
returns-in-Err c = λ not_memory.
    inl (
      c.args.graphs,
      c.requires,
      inr (
        c.in-Err.error,
        subst (λ (gs : List CodeGraph). RegionsOf c.args.input gs (Err c.in-Err.error))
            c.as_slice.ensures (c.in-Err.ensures.exact not_memory),
        refl,
      ),
    )
