use Rattle.std.proofs.Common.{◌≡◌, ◌<◌, ◌≤◌, List, length, get_or, refl, sym, ap, ◌∙◌, subst, arith}
use Rattle.std.proofs.lemmas.Bool.{false≢true}
use Rattle.crpd_base.specs.declared.data.TaskPart.{TaskPart}
use Rattle.crpd_base.specs.declared.data.TaskSpec.{TaskSpec}
use Rattle.cert_check.specs.declared.outcome.Clause.TheVariants.{Platforms, HasTask, Names, Last}
use Rattle.cert_check.specs.Verdict.{ClauseHolds}
use Rattle.cert_check.proofs.Found.{fails_first, fails_later, names_before, names_hold}
use Rattle.cert_check.proofs.Names.{name_is, part_is}
use Rattle.cert_check.proofs.times.name_failure.Goals as goal
use Rattle.cert_check.proofs.times.name_failure.Goals.{
  else-i-tasks-via-then-i-tasks+else-parts-tasks,
}
use Rattle.cert_check.proofs.times.name_failure.Goals.{else-i-tasks-via-else-i-tasks}

pub returns-then-not-are_alike : goal.returns-then-not-are_alike
returns-then-not-are_alike c graphs =
    fails_first (ClauseHolds c.args.set.now graphs c.args.certificate.now c.args.i) Platforms refl
    (λ e. false≢true (sym c.if-not-are_alike.true ∙ c.are_alike.ensures.1 e))

pub returns-then-parts-i : goal.returns-then-parts-i
returns-then-parts-i c graphs =
    fails_later (ClauseHolds c.args.set.now graphs c.args.certificate.now c.args.i) HasTask
    (names_before (ClauseHolds c.args.set.now graphs c.args.certificate.now c.args.i) 1
    (λ b. (c.are_alike.ensures.0 c.if-not-are_alike.false)) (λ b. absurd (omega (arith, b)))
    (λ b. absurd (omega (arith, b))) (omega arith))
    (λ lt. absurd
    (omega (
      arith,
      lt,
      subst (λ (xs : List TaskPart). length xs ≤ c.args.i) c.as_slice-parts.ensures
          c.if-parts-i.true,
    )))

pub returns-then-not-are_same : goal.returns-then-not-are_same
returns-then-not-are_same c graphs =
    fails_later (ClauseHolds c.args.set.now graphs c.args.certificate.now c.args.i) Names
    (names_before (ClauseHolds c.args.set.now graphs c.args.certificate.now c.args.i) 2
    (λ b. (c.are_alike.ensures.0 c.if-not-are_alike.false))
    (λ b. (subst (λ (xs : List TaskPart). c.args.i < length xs) c.as_slice-parts.ensures
    c.if-parts-i.false)) (λ b. absurd (omega (arith, b))) (omega arith))
    (λ e. false≢true (sym c.if-not-are_same.true
    ∙ c.are_same.ensures.1
    (sym (ap (λ (t : TaskPart). t.name)
    (part_is c.args.certificate.now c.args.i c.index-parts-i.result
    (subst (λ (xs : List TaskPart). c.args.i < length xs) c.as_slice-parts.ensures
    c.if-parts-i.false)
    (subst (λ (xs : List TaskPart).
    c.index-parts-i.result ≡ get_or xs c.args.i c.index-parts-i.result) c.as_slice-parts.ensures
    c.index-parts-i.is))) ∙ e
    ∙ (name_is c.args.set.now c.args.i c.index-tasks-i.result c.requires
    (subst (λ (xs : List TaskSpec).
    c.index-tasks-i.result ≡ get_or xs c.args.i c.index-tasks-i.result) c.as_slice-tasks.ensures
    c.index-tasks-i.is)))))

pub returns-then-parts-tasks : goal.returns-then-parts-tasks
returns-then-parts-tasks c graphs =
    fails_later (ClauseHolds c.args.set.now graphs c.args.certificate.now c.args.i) Last
    (names_before (ClauseHolds c.args.set.now graphs c.args.certificate.now c.args.i) 3
    (λ b. (c.are_alike.ensures.0 c.if-not-are_alike.false))
    (λ b. (subst (λ (xs : List TaskPart). c.args.i < length xs) c.as_slice-parts.ensures
    c.if-parts-i.false)) (λ b.
    (ap (λ (t : TaskPart). t.name)
    (part_is c.args.certificate.now c.args.i c.index-parts-i.result
    (subst (λ (xs : List TaskPart). c.args.i < length xs) c.as_slice-parts.ensures
    c.if-parts-i.false)
    (subst (λ (xs : List TaskPart).
    c.index-parts-i.result ≡ get_or xs c.args.i c.index-parts-i.result) c.as_slice-parts.ensures
    c.index-parts-i.is)) ∙ c.are_same.ensures.0 c.if-not-are_same.false
    ∙ sym (name_is c.args.set.now c.args.i c.index-tasks-i.result c.requires
    (subst (λ (xs : List TaskSpec).
    c.index-tasks-i.result ≡ get_or xs c.args.i c.index-tasks-i.result) c.as_slice-tasks.ensures
    c.index-tasks-i.is)))) (omega arith))
    (λ h. c.if-parts-tasks.true
    (ap (λ (xs : List TaskPart). length xs) c.as_slice-parts.ensures
    ∙ h (omega (
      arith,
      c.if-i-tasks.true,
      ap (λ (xs : List TaskSpec). length xs) c.as_slice-tasks.ensures,
    )) ∙ sym (ap (λ (xs : List TaskSpec). length xs) c.as_slice-tasks.ensures)))

pub returns : goal.returns
returns c graphs =
    let tasks : length c.as_slice-tasks.result.now ≡ length c.args.set.now.tasks =
    ap (λ (xs : List TaskSpec). length xs) c.as_slice-tasks.ensures in
    let parts : length c.as_slice-parts.result.now ≡ length c.args.certificate.now.tasks =
    ap (λ (xs : List TaskPart). length xs) c.as_slice-parts.ensures in
    names_hold (ClauseHolds c.args.set.now graphs c.args.certificate.now c.args.i)
    (c.are_alike.ensures.0 c.if-not-are_alike.false)
    (subst (λ (xs : List TaskPart). c.args.i < length xs) c.as_slice-parts.ensures
    c.if-parts-i.false)
    (ap (λ (t : TaskPart). t.name)
    (part_is c.args.certificate.now c.args.i c.index-parts-i.result
    (subst (λ (xs : List TaskPart). c.args.i < length xs) c.as_slice-parts.ensures
    c.if-parts-i.false)
    (subst (λ (xs : List TaskPart).
    c.index-parts-i.result ≡ get_or xs c.args.i c.index-parts-i.result) c.as_slice-parts.ensures
    c.index-parts-i.is)) ∙ c.are_same.ensures.0 c.if-not-are_same.false
    ∙ sym (name_is c.args.set.now c.args.i c.index-tasks-i.result c.requires
    (subst (λ (xs : List TaskSpec).
    c.index-tasks-i.result ≡ get_or xs c.args.i c.index-tasks-i.result) c.as_slice-tasks.ensures
    c.index-tasks-i.is)))
    (elim c.else-i-tasks.branch [
      | else-i-tasks-via-then-i-tasks+else-parts-tasks w ↦ λ e.
          sym parts ∙ w.if-parts-tasks.false ∙ tasks
      | else-i-tasks-via-else-i-tasks w ↦ λ e. absurd (w.if-i-tasks.false (omega (arith, e, tasks)))
    ])
