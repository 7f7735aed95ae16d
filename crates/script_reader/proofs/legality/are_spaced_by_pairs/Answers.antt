use Rattle.std.proofs.Common.{◌≡◌, ℕ, ◌+◌, ◌<◌, ◌∙◌, List, sym, refl, ap, subst, length, get_or}
use Rattle.std.proofs.Common.{drop, arith, All}
use Rattle.std.proofs.lemmas.Bool.{false≢true}
use Rattle.std.proofs.lemmas.List.{get_or_default}
use Rattle.crpd_base.proofs.Times.{period_is}
use Rattle.crpd_base.specs.declared.data.ScriptJob.{ScriptJob}
use Rattle.crpd_base.specs.declared.data.TaskSpec.{TaskSpec}
use Rattle.crpd_base.specs.Tasks.{period_of}
use Rattle.script_reader.specs.Inner.Legal.{IsSpacedBy}
use Rattle.script_reader.proofs.Spacing.{below_all, below_next, pairs_at, rest_of}
use Rattle.script_reader.proofs.legality.are_spaced_by_pairs.Goals as goal

pub returns : goal.returns
returns c = (λ _. below_all _ _ c.loop-i.i c.loop-i-test.false c.loop-i.invariant, λ _. refl)

pub loop-i-preserved : goal.loop-i-preserved
loop-i-preserved c =
    let d0 : ScriptJob = record { task = record { 0 = 0 }; arrival = 0; release = 0 } in
    let x : ScriptJob = get_or c.args.jobs.now c.loop-i.i d0 in
    let lt : c.loop-i.i < length c.args.jobs.now = omega arith in
    let tasks = c.as_slice-tasks.ensures in
    let in_set : x.task.0 < length c.args.set.now.tasks = c.requires c.loop-i.i d0 lt in
    let lt2 : c.from.result < length c.args.set.now.tasks = omega (arith, c.from.ensures, in_set) in
    let is2 : c.index-tasks-from.result
    ≡ get_or c.args.set.now.tasks c.from.result c.index-tasks-from.result =
    c.index-tasks-from.is ∙ ap
    (λ (l : List TaskSpec). get_or l c.from.result c.index-tasks-from.result) tasks in
    let p : c.index-tasks-from.result.period ≡ period_of c.args.set.now x.task.0 =
    sym (period_is c.args.set.now c.from.result c.index-tasks-from.result lt2 is2)
    ∙ ap (λ n. period_of c.args.set.now n) c.from.ensures in
    let at_i : x ≡ get_or c.args.jobs.now c.loop-i.i x =
    get_or_default c.args.jobs.now c.loop-i.i d0 x lt in
    let rest = rest_of c.args.jobs.now c.loop-i.i in
    let here = subst (λ (l : List ScriptJob). All (IsSpacedBy c.index-tasks-from.result.period x) l)
    rest (c.is_spaced_from.ensures.0 c.if-not-is_spaced_from.false) in
    let spaced = subst (λ (q : ℕ). All (IsSpacedBy q x) (drop (c.loop-i.i + 1) c.args.jobs.now)) p
    here in
    below_next c.args.set.now c.args.jobs.now c.loop-i.i x lt at_i spaced c.loop-i.invariant

pub returns-then-not-is_spaced_from : goal.returns-then-not-is_spaced_from
returns-then-not-is_spaced_from c =
    let d0 : ScriptJob = record { task = record { 0 = 0 }; arrival = 0; release = 0 } in
    let x : ScriptJob = get_or c.args.jobs.now c.loop-i.i d0 in
    let lt : c.loop-i.i < length c.args.jobs.now = omega arith in
    let tasks = c.as_slice-tasks.ensures in
    let in_set : x.task.0 < length c.args.set.now.tasks = c.requires c.loop-i.i d0 lt in
    let lt2 : c.from.result < length c.args.set.now.tasks = omega (arith, c.from.ensures, in_set) in
    let is2 : c.index-tasks-from.result
    ≡ get_or c.args.set.now.tasks c.from.result c.index-tasks-from.result =
    c.index-tasks-from.is ∙ ap
    (λ (l : List TaskSpec). get_or l c.from.result c.index-tasks-from.result) tasks in
    let p : c.index-tasks-from.result.period ≡ period_of c.args.set.now x.task.0 =
    sym (period_is c.args.set.now c.from.result c.index-tasks-from.result lt2 is2)
    ∙ ap (λ n. period_of c.args.set.now n) c.from.ensures in
    let at_i : x ≡ get_or c.args.jobs.now c.loop-i.i x =
    get_or_default c.args.jobs.now c.loop-i.i d0 x lt in
    let rest = rest_of c.args.jobs.now c.loop-i.i in (
      λ f. absurd (false≢true f),
      λ h. sym c.if-not-is_spaced_from.true ∙ c.is_spaced_from.ensures.1
          (subst (λ (l : List ScriptJob). All (IsSpacedBy c.index-tasks-from.result.period x) l)
          (sym rest)
          (subst (λ (q : ℕ). All (IsSpacedBy q x) (drop (c.loop-i.i + 1) c.args.jobs.now)) (sym p)
          (pairs_at c.args.set.now c.args.jobs.now c.loop-i.i x lt at_i h))),
    )
