use Rattle.std.proofs.Common.{inl, inr, refl}
use Rattle.cert_check.specs.declared.outcome.Verdict.TheVariants as verdict
use Rattle.cert_check.proofs.InRange.{in_range}
use Rattle.crpd_tool.specs.Check.{verdict_answer}
use Rattle.crpd_tool.specs.Update.{ChangeOf, UpdateOf}
use Rattle.crpd_tool.proofs.Making.{answer_meant, meant_as}
use Rattle.crpd_tool.proofs.update.judged_change.Goals as goal

pub verdict-found-requires-clause-tasks : goal.verdict-found-requires-clause-tasks
verdict-found-requires-clause-tasks c =
    rw (c.set-old_set.ensures.is, c.graphs.ensures, c.nests.ensures) c.shaped_law.ensures.shown

pub verdict-found-requires-clause-certificate : goal.verdict-found-requires-clause-certificate
verdict-found-requires-clause-certificate c = in_range c.args.stated.now c.requires

pub change-requires-clause-judged : goal.change-requires-clause-judged
change-requires-clause-judged c =
    rw (c.set-old_set.ensures.is, c.graphs.ensures, c.nests.ensures) at c.in-Yes.ensures

pub returns-in-Yes-clause-exact : goal.returns-in-Yes-clause-exact
returns-in-Yes-clause-exact c =
    let file = c.args.file.now in
    let old = c.args.old.now in
    let stated = c.args.stated.now in
    let new = c.args.new.now in
    let judged = rw (c.set-old_set.ensures.is, c.graphs.ensures, c.nests.ensures)
    at c.in-Yes.ensures in
    meant_as (ChangeOf file old stated new) (UpdateOf file old stated new) c.change.result
    c.change.ensures.exact (λ change. inr (judged, change))

pub returns-in-No-clause-exact : goal.returns-in-No-clause-exact
returns-in-No-clause-exact c =
    let old = c.args.old.now in
    let stated = c.args.stated.now in
    let no = verdict.No c.in-No.task c.in-No.clause c.in-No.place in
    answer_meant (UpdateOf c.args.file.now old stated c.args.new.now)
    (verdict_answer old.input.set stated no) c.write_verdict.result
    (rw (c.set-old_set.ensures.is, c.in-No.is) at c.write_verdict.ensures.exact)
    (inl (
      c.in-No.task,
      c.in-No.clause,
      c.in-No.place,
      rw (c.set-old_set.ensures.is, c.graphs.ensures, c.nests.ensures) at c.in-No.ensures,
      refl,
    ))
