use Rattle.std.proofs.Common.{refl}
use Rattle.cert_check.specs.declared.outcome.Verdict.TheVariants as verdict
use Rattle.cert_check.proofs.InRange.{in_range}
use Rattle.crpd_tool.specs.Check.{verdict_answer}
use Rattle.crpd_tool.specs.Explain.{AccountOf, ExplanationOf}
use Rattle.crpd_tool.proofs.Making.{answer_meant, meant_as}
use Rattle.crpd_tool.proofs.explain.explanation.Goals as goal

pub verdict-found-requires-clause-tasks : goal.verdict-found-requires-clause-tasks
verdict-found-requires-clause-tasks c =
    rw (c.set-set.ensures.is, c.graphs.ensures, c.nests.ensures) c.shaped_law.ensures.shown

pub verdict-found-requires-clause-certificate : goal.verdict-found-requires-clause-certificate
verdict-found-requires-clause-certificate c = in_range c.args.certificate.now c.requires.ranges

pub account_answer-requires-clause-judged : goal.account_answer-requires-clause-judged
account_answer-requires-clause-judged c =
    rw (c.set-set.ensures.is, c.graphs.ensures, c.nests.ensures) at c.in-Yes.ensures

pub returns-in-Yes-clause-exact : goal.returns-in-Yes-clause-exact
returns-in-Yes-clause-exact c =
    let shaped = c.args.shaped.now in
    let stated = c.args.certificate.now in
    let judged = rw (c.set-set.ensures.is, c.graphs.ensures, c.nests.ensures)
    at c.in-Yes.ensures in
    meant_as (AccountOf shaped stated c.args.script.now)
    (ExplanationOf shaped stated c.args.script.now) c.account_answer.result
    c.account_answer.ensures.exact (λ account. (verdict.Yes, judged, account))

pub returns-in-No-clause-exact : goal.returns-in-No-clause-exact
returns-in-No-clause-exact c =
    let shaped = c.args.shaped.now in
    let stated = c.args.certificate.now in
    let no = verdict.No c.in-No.task c.in-No.clause c.in-No.place in
    answer_meant (ExplanationOf shaped stated c.args.script.now)
    (verdict_answer shaped.input.set stated no) c.write_verdict.result
    (rw (c.set-set.ensures.is, c.in-No.is) at c.write_verdict.ensures.exact) (
      no,
      rw (c.set-set.ensures.is, c.graphs.ensures, c.nests.ensures) at c.in-No.ensures,
      refl,
    )
