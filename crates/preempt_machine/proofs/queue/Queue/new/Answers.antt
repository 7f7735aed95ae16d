use Rattle.std.proofs.Common.{◌≡◌, ℕ, ◌<◌, length, drop, sym, ◌∙◌, ap, subst, Option, None, arith}
use Rattle.std.proofs.lemmas.List.{get_or-replicate, length-replicate, take_at}
use Rattle.preempt_machine.specs.Schedule.{script_line}
use Rattle.preempt_machine.specs.Inner.Queue.{IsReleaseOrder, IsFirstFrom, position_at, IsLinked}
use Rattle.preempt_machine.proofs.queue.Queue.new.Goals as goal

pub link-requires-clause-due : goal.link-requires-clause-due
link-requires-clause-due c =
    subst (λ due. IsReleaseOrder c.args.lines.now due) (sym c.deref.ensures.value)
    c.in_ok-due.ensures

pub link-requires-clause-tasks : goal.link-requires-clause-tasks
link-requires-clause-tasks c x below =
    let all : length c.as_mut_slice-2.result.now ≡ c.args.tasks =
    ap length (c.as_mut_slice-2.ensures.value ∙ c.in_ok-heads.ensures)
    ∙ length-replicate {A = Option ℕ} c.args.tasks None in
    subst (λ n. (script_line c.args.lines.now x).task.0 < n) (sym all) (c.requires x below)

pub link-requires-clause-later : goal.link-requires-clause-later
link-requires-clause-later c =
    let all : length c.as_mut_slice.result.now ≡ c.len.result =
    ap length (c.as_mut_slice.ensures.value ∙ c.in_ok-later.ensures)
    ∙ length-replicate {A = Option ℕ} c.len.result None in
    omega (arith, all, c.len.ensures, ap length c.deref.ensures.value)

pub link-requires-clause-heads : goal.link-requires-clause-heads
link-requires-clause-heads c t below =
    let heads = c.as_mut_slice-2.ensures.value ∙ c.in_ok-heads.ensures in
    let inside : t < c.args.tasks =
    omega (arith, below, ap length heads, length-replicate {A = Option ℕ} c.args.tasks None) in
    ap (λ hs. position_at hs t) heads ∙ get_or-replicate c.args.tasks t None None inside

pub returns-clause-due : goal.returns-clause-due
returns-clause-due c = c.in_ok-due.ensures

pub returns-clause-linked : goal.returns-clause-linked
returns-clause-linked c =
    let new = c.link.new.later in
    let all : length new ≡ c.in_ok-later.later.len =
    omega (arith, c.link.auto.later, c.as_mut_slice.ensures.len) in
    subst (λ later. IsLinked c.args.lines.now c.in_ok-due.due.items later)
    (sym (take_at new (drop (length new) c.in_ok-later.later.items) c.in_ok-later.later.len all))
    (subst (λ due. IsLinked c.args.lines.now due new) c.deref.ensures.value c.link.ensures.linked)

pub returns-clause-tasks : goal.returns-clause-tasks
returns-clause-tasks c =
    let new = c.link.new.heads in
    let all : length new ≡ c.in_ok-heads.heads.len =
    omega (arith, c.link.auto.heads, c.as_mut_slice-2.ensures.len) in
    ap length
    (take_at new (drop (length new) c.in_ok-heads.heads.items) c.in_ok-heads.heads.len all)
    ∙ omega (
      arith,
      c.link.auto.heads,
      ap length (c.as_mut_slice-2.ensures.value ∙ c.in_ok-heads.ensures),
      length-replicate {A = Option ℕ} c.args.tasks None,
    )

pub returns-clause-each : goal.returns-clause-each
returns-clause-each c x below =
    subst (λ n. (script_line c.args.lines.now x).task.0 < n) (sym (returns-clause-tasks c))
    (c.requires x below)

pub returns-clause-heads : goal.returns-clause-heads
returns-clause-heads c t below =
    let new = c.link.new.heads in
    let all : length new ≡ c.in_ok-heads.heads.len =
    omega (arith, c.link.auto.heads, c.as_mut_slice-2.ensures.len) in
    let long : length c.as_mut_slice-2.result.now ≡ c.args.tasks =
    ap length (c.as_mut_slice-2.ensures.value ∙ c.in_ok-heads.ensures)
    ∙ length-replicate {A = Option ℕ} c.args.tasks None in
    subst (λ hs. IsFirstFrom c.args.lines.now c.in_ok-due.due.items t 0 (position_at hs t))
    (sym (take_at new (drop (length new) c.in_ok-heads.heads.items) c.in_ok-heads.heads.len all))
    (subst (λ due. IsFirstFrom c.args.lines.now due t 0 (position_at new t)) c.deref.ensures.value
    (c.link.ensures.heads t (omega (arith, below, long))))
