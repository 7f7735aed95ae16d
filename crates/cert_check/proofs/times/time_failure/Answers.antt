use Rattle.std.proofs.Common.{Ok, Err, refl, sym, ap, ◌∙◌, arith, slice_index}
use Rattle.std.proofs.lemmas.Bool.{false≢true}
use Rattle.crpd_base.proofs.Times.{jitter_is, deadline_is}
use Rattle.crpd_base.specs.declared.data.TaskPart.{TaskPart}
use Rattle.cert_check.specs.declared.outcome.Clause.TheVariants.{Window, Response, Deadline}
use Rattle.cert_check.specs.Verdict.{TimesHold}
use Rattle.cert_check.proofs.Found.{then_found, found_first, fails_first, fails_later, window_holds}
use Rattle.cert_check.proofs.Found.{response_holds, response_before}
use Rattle.cert_check.proofs.Names.{part_is}
use Rattle.cert_check.proofs.times.time_failure.Goals as goal

pub returns-then-not-has_room : goal.returns-then-not-has_room
returns-then-not-has_room c =
    found_first
    (TimesHold c.args.set.now (slice_index c.args.longest.now) c.args.certificate.now c.args.i) 8 8
    9 Window (omega arith)
    (fails_first
    (TimesHold c.args.set.now (slice_index c.args.longest.now) c.args.certificate.now c.args.i)
    Window refl (λ h. false≢true (sym c.if-not-has_room.true ∙ c.has_room.ensures.1 h)))

pub returns-then-from : goal.returns-then-from
returns-then-from c =
    let part = part_is c.args.certificate.now c.args.i c.index-part.result.now
    c.requires.higher.tasks c.index-part.ensures in
    let r = ap (λ (t : TaskPart). t.response) part in
    let w = ap (λ (t : TaskPart). t.window) part in
    let j = jitter_is c.args.set.now c.args.i c.index-task.result.now c.requires.task
    c.index-task.ensures in
    then_found
    (TimesHold c.args.set.now (slice_index c.args.longest.now) c.args.certificate.now c.args.i) 8 8
    9 (Err Response) (omega arith) (omega arith)
    (window_holds
    (TimesHold c.args.set.now (slice_index c.args.longest.now) c.args.certificate.now c.args.i)
    (c.has_room.ensures.0 c.if-not-has_room.false))
    (fails_first
    (TimesHold c.args.set.now (slice_index c.args.longest.now) c.args.certificate.now c.args.i)
    Response refl
    (λ h. c.if-from.true
    (omega (arith, h, r, w, j, c.from.ensures, c.from-2.ensures, c.from-3.ensures))))

pub returns-then-part-task : goal.returns-then-part-task
returns-then-part-task c =
    let part = part_is c.args.certificate.now c.args.i c.index-part.result.now
    c.requires.higher.tasks c.index-part.ensures in
    let r = ap (λ (t : TaskPart). t.response) part in
    let w = ap (λ (t : TaskPart). t.window) part in
    let j = jitter_is c.args.set.now c.args.i c.index-task.result.now c.requires.task
    c.index-task.ensures in
    let d = deadline_is c.args.set.now c.args.i c.index-task.result.now c.requires.task
    c.index-task.ensures in
    then_found
    (TimesHold c.args.set.now (slice_index c.args.longest.now) c.args.certificate.now c.args.i) 8 8
    9 (Err Deadline) (omega arith) (omega arith)
    (window_holds
    (TimesHold c.args.set.now (slice_index c.args.longest.now) c.args.certificate.now c.args.i)
    (c.has_room.ensures.0 c.if-not-has_room.false))
    (fails_later
    (TimesHold c.args.set.now (slice_index c.args.longest.now) c.args.certificate.now c.args.i)
    Deadline
    (response_before
    (TimesHold c.args.set.now (slice_index c.args.longest.now) c.args.certificate.now c.args.i)
    (omega (arith, c.if-from.false, r, w, j, c.from.ensures, c.from-2.ensures, c.from-3.ensures)))
    (λ h. absurd (omega (arith, h, r, d, c.if-part-task.true))))

pub returns : goal.returns
returns c =
    let part = part_is c.args.certificate.now c.args.i c.index-part.result.now
    c.requires.higher.tasks c.index-part.ensures in
    let r = ap (λ (t : TaskPart). t.response) part in
    let w = ap (λ (t : TaskPart). t.window) part in
    let j = jitter_is c.args.set.now c.args.i c.index-task.result.now c.requires.task
    c.index-task.ensures in
    let d = deadline_is c.args.set.now c.args.i c.index-task.result.now c.requires.task
    c.index-task.ensures in
    then_found
    (TimesHold c.args.set.now (slice_index c.args.longest.now) c.args.certificate.now c.args.i) 8 8
    9 (Ok tt) (omega arith) (omega arith)
    (window_holds
    (TimesHold c.args.set.now (slice_index c.args.longest.now) c.args.certificate.now c.args.i)
    (c.has_room.ensures.0 c.if-not-has_room.false))
    (response_holds
    (TimesHold c.args.set.now (slice_index c.args.longest.now) c.args.certificate.now c.args.i)
    (omega (arith, c.if-from.false, r, w, j, c.from.ensures, c.from-2.ensures, c.from-3.ensures))
    (omega (arith, r, d, c.if-part-task.false)))
