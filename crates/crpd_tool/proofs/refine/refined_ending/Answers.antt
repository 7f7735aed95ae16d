use Rattle.std.proofs.Common.{◌∙◌, ap, inl, inr, refl, sym}
use Rattle.crpd_tool.specs.Refine.{RefinedOf, refined_answer, without_windows}
use Rattle.crpd_tool.proofs.Making.{answer_meant, exactly_meant}
use Rattle.crpd_tool.proofs.refine.refined_ending.Goals as goal

pub refined-requires-clause-tasks : goal.refined-requires-clause-tasks
refined-requires-clause-tasks c =
    rw (c.set-set.ensures.is, c.graphs.ensures, c.nests.ensures) c.shaped_law.ensures.shown

pub returns-in-Ok-clause-exact : goal.returns-in-Ok-clause-exact
returns-in-Ok-clause-exact c =
    let shaped = c.args.shaped.now in
    let tasks = c.in-Ok.tasks.items in
    answer_meant (RefinedOf shaped) (refined_answer shaped.input.set tasks) c.refined_answer.result
    (rw (c.set-set.ensures.is, c.as_slice.ensures.value) at c.refined_answer.ensures.exact)
    (inl (
      tasks,
      rw (sym c.set-set.ensures.is, sym c.graphs.ensures, sym c.nests.ensures)
          c.in-Ok.ensures.exact,
      refl,
    ))

pub returns-in-Err-clause-exact : goal.returns-in-Err-clause-exact
returns-in-Err-clause-exact c =
    let shaped = c.args.shaped.now in
    let set = shaped.input.set in
    let error = c.in-Err.error in
    let exact = rw (c.set-set.ensures.is, c.graphs.ensures, c.nests.ensures)
    at c.in-Err.ensures.exact in
    exactly_meant (RefinedOf shaped) (without_windows set error) c.without_windows.result
    (rw c.set-set.ensures.is at c.without_windows.ensures.exact)
    (λ is free. inr (error, λ m. free (sym is ∙ ap (without_windows set) m), exact, sym is))
