use Rattle.std.proofs.Common.{◌∙◌, ap, inr, sym}
use Rattle.crpd_tool.specs.Generate.{GeneratedOf, without_made}
use Rattle.crpd_tool.proofs.Making.{exactly_meant}
use Rattle.crpd_tool.proofs.generate.analysis_answer.Goals as goal

pub certify-requires-clause-tasks : goal.certify-requires-clause-tasks
certify-requires-clause-tasks c =
    rw (c.set.ensures.is, c.graphs.ensures, c.nests.ensures) c.shaped_law.ensures.shown

pub certified_answer-requires-clause-best : goal.certified_answer-requires-clause-best
certified_answer-requires-clause-best c =
    rw (sym c.set.ensures.is, sym c.graphs.ensures, sym c.nests.ensures) c.in-Ok.ensures.exact

pub returns-in-Err-clause-exact : goal.returns-in-Err-clause-exact
returns-in-Err-clause-exact c =
    let n = c.args.number in
    let shaped = c.args.shaped.now in
    let error = c.in-Err.error in
    exactly_meant (GeneratedOf n c.args.script.now shaped) (without_made n shaped error)
    c.uncertified_answer.result c.uncertified_answer.ensures.exact
    (λ is free. inr (
      error,
      λ m. free (sym is ∙ ap (without_made n shaped) m),
      rw (sym c.set.ensures.is, sym c.graphs.ensures, sym c.nests.ensures) c.in-Err.ensures.exact,
      sym is,
    ))
