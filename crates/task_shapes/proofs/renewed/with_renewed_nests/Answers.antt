use Rattle.std.proofs.Common.{List, None, Ok, Err, ap, inl, inr, refl, subst, sym, arith}
use Rattle.std.specs.Prelude.{slice_index_or}
use Rattle.loop_regions.specs.TaskGraphs.{nest_at}
use Rattle.flat_graph.specs.CodeGraph.{CodeGraph}
use Rattle.task_shapes.specs.Graphs.{RegionsOf}
use Rattle.task_shapes.specs.Inner.SameTask.{IsTaken}
use Rattle.task_shapes.specs.SameTask.{AreTaken}
use Rattle.task_shapes.specs.Shapes.{SetWithShapes}
use Rattle.task_shapes.proofs.SameTask.{same_graph, source_is}
use Rattle.task_shapes.proofs.renewed.with_renewed_nests.Goals as goal

pub returns-in_ok-shaped-in-Ok-clause-exact : goal.returns-in_ok-shaped-in-Ok-clause-exact
returns-in_ok-shaped-in-Ok-clause-exact c =
    inl (
      c.args.graphs,
      c.requires.graphs,
      inl (
        c.in-Ok.nests,
        subst (λ (gs : List CodeGraph). RegionsOf c.args.input gs (Ok c.in-Ok.nests))
            c.as_slice.ensures c.in-Ok.ensures.exact,
        ap (λ (s : SetWithShapes). Ok s) (sym c.in_ok-shaped-in-Ok.ensures),
      ),
    )

pub returns-in-Err-clause-exact : goal.returns-in-Err-clause-exact
returns-in-Err-clause-exact c = λ not_memory.
    inl (
      c.args.graphs,
      c.requires.graphs,
      inr (
        c.in-Err.error,
        subst (λ (gs : List CodeGraph). RegionsOf c.args.input gs (Err c.in-Err.error))
            c.as_slice.ensures (c.in-Err.ensures.exact not_memory),
        refl,
      ),
    )

pub returns-in_ok-shaped-in-Ok-clause-taken : goal.returns-in_ok-shaped-in-Ok-clause-taken
returns-in_ok-shaped-in-Ok-clause-taken c =
    let old = c.args.old.now in
    let input = c.args.input in
    let graphs = c.args.graphs in
    let shaped : SetWithShapes = record { input = input; graphs = graphs; nests = c.in-Ok.nests } in
    let taken : AreTaken old shaped = λ j k lt named same.
    let is = source_is old input j k (slice_index_or c.args.sources.now k None)
    (c.requires.sources.each k lt) named same in (
      same_graph old input graphs j k c.shaped_law.ensures same c.requires.graphs
          (omega (arith, lt, c.requires.graphs.0))
          (omega (arith, is.1, c.shaped_law.ensures.shown.all_graphs)),
      subst (λ o. IsTaken old.nests o (nest_at c.in-Ok.nests k)) is.0
          (c.in-Ok.ensures.taken k lt),
    ) in
    subst (AreTaken old) (sym c.in_ok-shaped-in-Ok.ensures) taken
