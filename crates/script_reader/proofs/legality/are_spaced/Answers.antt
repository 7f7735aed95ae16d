use Rattle.std.proofs.Common.{◌≡◌, ℕ, ◌<◌, ◌∙◌, List, sym, refl, ap, subst, length, get_or, arith}
use Rattle.std.proofs.Common.{below_more}
use Rattle.std.proofs.lemmas.Bool.{false≢true}
use Rattle.crpd_base.proofs.Times.{period_is}
use Rattle.crpd_base.specs.declared.data.TaskSpec.{TaskSpec}
use Rattle.crpd_base.specs.Tasks.{period_of}
use Rattle.script_reader.specs.Inner.Legal.{AreAllApart, arrivals_of}
use Rattle.script_reader.proofs.legality.are_spaced.Goals as goal

pub loop-t-preserved : goal.loop-t-preserved
loop-t-preserved c =
    let tasks = c.as_slice-tasks.ensures in
    let lt : c.loop-t.t < length c.args.set.now.tasks = omega (arith, ap length tasks) in
    let is : c.index-tasks-t.result
    ≡ get_or c.args.set.now.tasks c.loop-t.t c.index-tasks-t.result =
    c.index-tasks-t.is ∙ ap (λ (l : List TaskSpec). get_or l c.loop-t.t c.index-tasks-t.result)
    tasks in
    let p : period_of c.args.set.now c.loop-t.t ≡ c.index-tasks-t.result.period =
    period_is c.args.set.now c.loop-t.t c.index-tasks-t.result lt is in
    below_more _ _ c.loop-t.invariant
    (subst (λ (q : ℕ). AreAllApart q (arrivals_of c.loop-t.t c.args.jobs.now)) (sym p)
    (c.is_spaced.ensures.0 c.if-not-is_spaced.false))

pub returns-then-not-is_spaced : goal.returns-then-not-is_spaced
returns-then-not-is_spaced c =
    let tasks = c.as_slice-tasks.ensures in
    let lt : c.loop-t.t < length c.args.set.now.tasks = omega (arith, ap length tasks) in
    let is : c.index-tasks-t.result
    ≡ get_or c.args.set.now.tasks c.loop-t.t c.index-tasks-t.result =
    c.index-tasks-t.is ∙ ap (λ (l : List TaskSpec). get_or l c.loop-t.t c.index-tasks-t.result)
    tasks in
    let p : period_of c.args.set.now c.loop-t.t ≡ c.index-tasks-t.result.period =
    period_is c.args.set.now c.loop-t.t c.index-tasks-t.result lt is in (
      λ f. absurd (false≢true f),
      λ all. sym c.if-not-is_spaced.true ∙ c.is_spaced.ensures.1
          (subst (λ (q : ℕ). AreAllApart q (arrivals_of c.loop-t.t c.args.jobs.now)) p
          (all.tasks c.loop-t.t lt)),
    )

pub returns : goal.returns
returns c =
    let tasks = c.as_slice-tasks.ensures in (
      λ _. record { tasks = λ t lt. c.loop-t.invariant t (omega (arith, ap length tasks)) },
      λ _. refl,
    )
