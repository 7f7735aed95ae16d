use Rattle.std.proofs.Common.{◌∙◌, ap, arith, subst, IfSome, slice_get}
use Rattle.crpd_base.proofs.Elements.{some_at}
use Rattle.rv_decode.specs.Flow.{flows}
use Rattle.code_map.specs.Words.{Code, word_at}
use Rattle.flat_graph.specs.CodeGraph.{IsCodeGraph}
use Rattle.flat_graph.specs.GraphErrors.{IsGraphError}
use Rattle.task_shapes.specs.declared.error.ShapeError.TheVariants.{Graph}
use Rattle.task_shapes.proofs.graphs.task_graph.Goals as goal

pub returns-in-Ok : goal.returns-in-Ok
returns-in-Ok c =
    let code = c.args.input.now.code in
    let k = c.args.task.0 in
    let plan = some_at code.plans k (omega (arith, c.requires, c.input_law.ensures.plans)) in
    let here = subst (λ (x : Code). IfSome (slice_get x.plans k)
    (λ p. IsCodeGraph (word_at x.images) p.entry c.in-Ok.graph)) c.code.ensures
    c.in-Ok.ensures.graph in (
      plan.0,
      plan.1,
      (
        subst (λ o. IfSome o (λ p. IsCodeGraph (word_at code.images) p.entry c.in-Ok.graph)) plan.1
            here,
        c.in-Ok.ensures.few,
      ),
    )

pub returns-in-Err : goal.returns-in-Err
returns-in-Err c = λ not_memory.
    let code = c.args.input.now.code in
    let k = c.args.task.0 in
    let plan = some_at code.plans k (omega (arith, c.requires, c.input_law.ensures.plans)) in
    let why = c.no_graph.ensures not_memory in
    let here = subst (λ (x : Code). IfSome (slice_get x.plans k)
    (λ p. IsGraphError (flows (word_at x.images)) p.entry c.in-Err.error)) c.code.ensures
    c.in-Err.ensures.refused in (
      plan.0,
      plan.1,
      (
        c.in-Err.error,
        why.0,
        subst (λ o. IfSome o (λ p. IsGraphError (flows (word_at code.images)) p.entry
            c.in-Err.error)) plan.1 here,
        why.1 ∙ ap (λ n. Graph n c.in-Err.error) c.name.ensures,
      ),
    )
