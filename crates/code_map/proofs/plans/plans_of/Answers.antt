use Rattle.std.proofs.Common.{◌≡◌, ◌<◌, List, length, get_or, subst, arith}
use Rattle.std.proofs.lemmas.Result.{err_from_is_err_and}
use Rattle.crpd_base.specs.declared.data.Image.{Image}
use Rattle.code_map.specs.Words.{word_at}
use Rattle.code_map.proofs.Planned.{plan_more, plan_refused, plans_end}
use Rattle.code_map.proofs.plans.plans_of.Goals as goal

pub returns-in_err-plan_by-clause-is : goal.returns-in_err-plan_by-clause-is
returns-in_err-plan_by-clause-is c =
    let n = c.loop-i.i in
    let image = c.index-images-i.result in
    let too : n < length c.args.files.now = omega arith in
    let at = subst (λ (xs : List Image). image ≡ get_or xs n image) c.images-images.ensures
    c.index-images-i.is in
    let p = err_from_is_err_and c.from_residual.result
    c.from_residual.ensures.1 in
    rw (
      p.1,
      p.2,
    ) (λ ne. plan_refused (word_at c.args.files.now) c.loop-i.plans.items c.args.tasks.now
    c.args.files.now n c.index-tasks-i.result image c.loop-i-test.true too c.index-tasks-i.is at _
    c.loop-i.invariant.0
    c.in_err-plan_by.field-0.0 (c.in_err-plan_by.ensures ne))

pub loop-i-preserved : goal.loop-i-preserved
loop-i-preserved c =
    let n = c.loop-i.i in
    let image = c.index-images-i.result in
    let too : n < length c.args.files.now = omega arith in
    let at = subst (λ (xs : List Image). image ≡ get_or xs n image) c.images-images.ensures
    c.index-images-i.is in (
      rw c.in_ok-push.ensures.items
          (plan_more (word_at c.args.files.now) c.loop-i.plans.items c.args.tasks.now
          c.args.files.now n c.index-tasks-i.result image c.loop-i-test.true too c.index-tasks-i.is
          at _ c.loop-i.invariant.0
          c.in_ok-plan_by.field-0 c.in_ok-plan_by.ensures),
      grind arith,
    )

pub returns-clause-is : goal.returns-clause-is
returns-clause-is c =
    plans_end (word_at c.args.files.now) c.loop-i.plans.items c.args.tasks.now c.args.files.now
    c.loop-i.i _ (grind arith) c.loop-i.invariant.0

pub bounds-images-i : goal.bounds-images-i
bounds-images-i c =
    rw c.images-images.ensures (omega (arith, c.requires.one, c.loop-i-test.true))
