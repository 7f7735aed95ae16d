use Rattle.std.proofs.Common.{◌≡◌, ℕ, ◌≤◌, List, [], length, refl, sym, ap, ◌∙◌, subst}
use Rattle.std.proofs.Common.{All, arith, sum_by}
use Rattle.std.proofs.lemmas.Result.{err_from_is_err_and}
use Rattle.crpd_base.specs.declared.data.NodeState.{NodeState}
use Rattle.crpd_base.specs.CertificateRanges.{HasFewPairs}
use Rattle.cert_model.specs.Reading.{state_entries}
use Rattle.flat_graph.proofs.CodeGraphs.{code_is_graph}
use Rattle.cert_update.specs.Inner.Coded.{coded_side}
use Rattle.cert_update.specs.Inner.Parts.{AreNewParts, CountsNewEntries}
use Rattle.crpd_base.specs.Limits.{most_entries}
use Rattle.cert_build.specs.Assembly.{entries_of}
use Rattle.cert_build.specs.declared.one_task.Analysis.{Analysis}
use Rattle.cert_build.proofs.Counting.{few_states, few_pairs}
use Rattle.cert_update.proofs.NewParts.{kept_more, dropped_more, refused, many}
use Rattle.cert_update.proofs.parts.new_parts.Goals as goal
use Rattle.cert_update.proofs.parts.new_parts.Goals.{then-found-le-MOST_ENTRIES+in_ok-push}
use Rattle.cert_update.proofs.parts.new_parts.Goals.{else-found-le-MOST_ENTRIES}

pub returns-in_err-part-clause-parts : goal.returns-in_err-part-clause-parts
returns-in_err-part-clause-parts c =
    let p = err_from_is_err_and c.from_residual.result c.from_residual.ensures.1 in
    let old = coded_side c.args.change.now.old in
    let new = coded_side c.args.change.now.new in
    let codes = c.requires.codes in
    let count = c.requires.sources.tasks in
    let lt = c.loop-i-test.true in
    rw (p.1, p.2)
    (refused old c.args.change.now.certificate.now new (λ j l. code_is_graph _ (codes.code j l))
    c.loop-i.i c.loop-i.found c.loop-i.parts.items c.in_err-part.field-0.0
    (omega (arith, count, lt)) c.loop-i.invariant c.in_err-part.ensures)

pub task_entries-found-requires-clause-few : goal.task_entries-found-requires-clause-few
task_entries-found-requires-clause-few c =
    subst (λ (l : List NodeState). length l ≤ 16384) (sym c.as_slice.ensures)
    (few_states c.in_ok-part.part c.in_ok-part.ensures.ranges)

pub task_entries-found-requires-clause-each : goal.task_entries-found-requires-clause-each
task_entries-found-requires-clause-each c =
    subst (λ (l : List NodeState). All HasFewPairs l) (sym c.as_slice.ensures)
    (few_pairs c.in_ok-part.part c.in_ok-part.ensures.ranges)

pub loop-i-preserved : goal.loop-i-preserved
loop-i-preserved c =
    let old = coded_side c.args.change.now.old in
    let new = coded_side c.args.change.now.new in
    let is = c.task_entries-found.ensures.is
    ∙ ap (λ (l : List NodeState). sum_by state_entries l) c.as_slice.ensures in
    elim c.if-found-le-MOST_ENTRIES.branch [
      | then-found-le-MOST_ENTRIES+in_ok-push w ↦
          rw w.parts-is
          (kept_more old c.args.change.now.certificate.now new c.loop-i.i c.loop-i.found
          c.task_entries-found.result c.loop-i.parts.items _ c.in_ok-part.part c.loop-i.invariant
          c.in_ok-part.ensures is
          c.task_entries-found.ensures.bound w.in_ok-push.ensures.items)
      | else-found-le-MOST_ENTRIES w ↦
          rw w.parts-is
          (dropped_more old c.args.change.now.certificate.now new c.loop-i.i c.loop-i.found
          c.task_entries-found.result c.loop-i.parts.items _ c.in_ok-part.part c.loop-i.invariant
          c.in_ok-part.ensures is
          c.task_entries-found.ensures.bound w.if-found-le-MOST_ENTRIES.false)
    ]

pub returns-then-too_many-clause-parts :
    goal.returns-then-too_many-clause-parts
returns-then-too_many-clause-parts c =
    let old = coded_side c.args.change.now.old in
    let new = coded_side c.args.change.now.new in
    many old c.args.change.now.certificate.now new c.loop-i.found c.loop-i.parts.items
    (subst (λ n. CountsNewEntries old c.args.change.now.certificate.now new n c.loop-i.found
    c.loop-i.parts.items)
    (let count = c.requires.sources.tasks in let over = c.loop-i-test.false in
    let end = c.loop-i.auto.i-end in omega (arith, count, over, end)) c.loop-i.invariant)
    (omega arith)

pub part-requires-clause-source : goal.part-requires-clause-source
part-requires-clause-source c =
    c.requires.sources.each c.loop-i.i
    (omega (arith, c.requires.sources.tasks, c.loop-i-test.true))

pub loop-i-init : goal.loop-i-init
loop-i-init c = record {
  all = [];
  are = record { tasks = refl; each = λ i lt. absurd (omega (arith, lt)) };
  entries = refl;
  same = λ le. c.new-parts.ensures.items;
  small = omega arith;
}

pub overflow_add-found : goal.overflow_add-found
overflow_add-found c =
    let few = c.requires.codes.range.few in
    let tasks = c.requires.sources.tasks in
    let lt = c.loop-i-test.true in
    let small = c.loop-i.invariant.small in
    omega (arith, few, tasks, lt, small, c.task_entries-found.ensures.bound)

pub returns-clause-parts : goal.returns-clause-parts
returns-clause-parts c =
    let counted = c.loop-i.invariant in
    let all : c.loop-i.i ≡ length c.args.change.now.new.set.now.tasks =
    omega (arith, c.requires.sources.tasks, c.loop-i-test.false, c.loop-i.auto.i-end) in
    let few : c.loop-i.found ≤ most_entries = omega arith in
    let old = coded_side c.args.change.now.old in
    let new = coded_side c.args.change.now.new in
    subst (λ (l : List Analysis).
    AreNewParts old c.args.change.now.certificate.now new
    (length c.args.change.now.new.set.now.tasks) l) (sym (counted.same few))
    (subst (λ (n : ℕ). AreNewParts old c.args.change.now.certificate.now new n counted.all) all
    counted.are)

pub returns-clause-few : goal.returns-clause-few
returns-clause-few c =
    let counted = c.loop-i.invariant in
    let few : c.loop-i.found ≤ most_entries = omega arith in
    subst (λ (l : List Analysis). sum_by entries_of l ≤ most_entries) (sym (counted.same few))
    (omega (arith, counted.entries, few))
