use Rattle.std.proofs.Common.{◌≡◌, ◌∙◌, ap, sym, get_or, Some, slice_get}
use Rattle.std.proofs.lemmas.Option.{slice_get-get_or}
use Rattle.flat_graph.specs.CodeGraph.{CodeGraph}
use Rattle.task_shapes.specs.declared.error.ShapeError.TheVariants.{Loops}
use Rattle.task_shapes.proofs.Nests.{graph_there}
use Rattle.task_shapes.proofs.regions.task_regions.Goals as goal

pub returns-in-Ok-clause-exact : goal.returns-in-Ok-clause-exact
returns-in-Ok-clause-exact c =
    let here : slice_get c.args.graphs.now c.args.task.0 ≡ Some c.index-graphs-from.result =
    slice_get-get_or c.args.graphs.now c.args.task.0 c.index-graphs-from.result c.requires.has_graph
    ∙ ap (λ k. Some (get_or c.args.graphs.now k c.index-graphs-from.result)) (sym c.from.ensures)
    ∙ ap (λ (g : CodeGraph). Some g) (sym c.index-graphs-from.is) in (
      c.plan.result.now,
      c.index-graphs-from.result,
      c.plan.ensures.is,
      here,
      (c.in-Ok.ensures.one_head, c.in-Ok.ensures.regions, c.in-Ok.ensures.accepted),
    )

pub returns-in-Err-clause-exact : goal.returns-in-Err-clause-exact
returns-in-Err-clause-exact c = λ not_memory.
    let here : slice_get c.args.graphs.now c.args.task.0 ≡ Some c.index-graphs-from.result =
    slice_get-get_or c.args.graphs.now c.args.task.0 c.index-graphs-from.result c.requires.has_graph
    ∙ ap (λ k. Some (get_or c.args.graphs.now k c.index-graphs-from.result)) (sym c.from.ensures)
    ∙ ap (λ (g : CodeGraph). Some g) (sym c.index-graphs-from.is) in
    let why = c.no_regions.ensures not_memory in (
      c.plan.result.now,
      c.index-graphs-from.result,
      c.plan.ensures.is,
      here,
      (
        c.in-Err.error,
        why.0,
        c.in-Err.ensures.refused,
        why.1 ∙ ap (λ n. Loops n c.in-Err.error) c.name.ensures,
      ),
    )

pub returns-in-Ok-clause-shown : goal.returns-in-Ok-clause-shown
returns-in-Ok-clause-shown c =
    let here : slice_get c.args.graphs.now c.args.task.0 ≡ Some c.index-graphs-from.result =
    slice_get-get_or c.args.graphs.now c.args.task.0 c.index-graphs-from.result c.requires.has_graph
    ∙ ap (λ k. Some (get_or c.args.graphs.now k c.index-graphs-from.result)) (sym c.from.ensures)
    ∙ ap (λ (g : CodeGraph). Some g) (sym c.index-graphs-from.is) in
    graph_there c.args.graphs.now c.args.task.0 c.index-graphs-from.result c.in-Ok.nest here
    (c.in-Ok.ensures.nest c.plan.ensures.bounded)
