use Rattle.std.proofs.Common.{◌≡◌, ℕ, suc, ◌+◌, ◌-◌, ◌≤◌, ◌⊎◌, Some, None, refl, sym, ◌∙◌, ap}
use Rattle.std.proofs.Common.{subst, inl, inr, arith, is_some, max, length}
use Rattle.std.proofs.lemmas.Bool.{cases_lt}
use Rattle.icache.specs.Cache.{block_of}
use Rattle.flow_watch.specs.Watch.{Watch, is_unbroken}
use Rattle.flow_watch.specs.Quiet.{AreQuiet}
use Rattle.flow_watch.specs.Iterations.{HasIterations}
use Rattle.preempt_machine.specs.Machine.{System, Job, ins_at, plan_of}
use Rattle.preempt_machine.specs.Running.{system_by}
use Rattle.preempt_machine.specs.Step.{Turn, turn_after_fetch, is_open, turn_after_effect}
use Rattle.preempt_machine.specs.Step.{fetch_at}
use Rattle.preempt_machine.specs.Jobs.{turn_by}
use Rattle.preempt_machine.specs.Stretch.{AreAllCyclesLeft}
use Rattle.preempt_machine.specs.Inner.Moves.{HasMoved}
use Rattle.preempt_machine.proofs.TurnsInARow.{ends, faults, uses}
use Rattle.preempt_machine.proofs.Observing.{fault_fetch, passed_to, turn_here, unfetched}
use Rattle.preempt_machine.proofs.moves.FastCore.advance.Goals as goal

last_max : (left k : ℕ) → k ≡ max left 1 → AreAllCyclesLeft left k
last_max left k e =
    record {
      some = omega arith;
      all = omega arith;
      no_more = elim (cases_lt 1 left) [ inl l ↦ inr (omega arith) | inr g ↦ inl (omega arith) ];
    }

-- what the calls require
pub find-found-requires : goal.find-found-requires
find-found-requires g c = c.requires.decoded

pub fault-requires : goal.fault-requires
fault-requires g c = omega (arith, c.requires.before)

pub begin-requires-clause-costs : goal.begin-requires-clause-costs
begin-requires-clause-costs g c = c.find-found.ensures.is.costs

pub begin-requires-clause-next : goal.begin-requires-clause-next
begin-requires-clause-next g c = rw c.in-Some.is c.next-next.ensures

pub begin-requires-clause-room : goal.begin-requires-clause-room
begin-requires-clause-room g c = c.requires.room

pub begin-requires-clause-block : goal.begin-requires-clause-block
begin-requires-clause-block g c =
    c.find-found.ensures.is.block
    ∙ ap (block_of c.args.self.now.geometry.platform) (c.find-found.ensures.address ∙ c.pc.ensures)

pub begin-requires-clause-set : goal.begin-requires-clause-set
begin-requires-clause-set g c = c.find-found.ensures.is.set

pub begin-requires-clause-flagged : goal.begin-requires-clause-flagged
begin-requires-clause-flagged g c = c.requires.flagged

pub begin-requires-clause-before : goal.begin-requires-clause-before
begin-requires-clause-before g c = c.requires.before_now

pub returns-in_default-clause-moved : goal.returns-in_default-clause-moved
returns-in_default-clause-moved g c =
    let sys = system_by c.args.self.now.geometry.platform c.args.dispatch.code.now in
    let t = turn_by c.args.self.now.cache c.args.self.now.memory 0 c.args.job.now in
    let none : ins_at sys c.args.job.now.pc ≡ None =
    ap (ins_at sys) (sym c.pc.ensures ∙ sym c.find-found.ensures.address)
    ∙ sym c.find-found.ensures.is.meaning ∙ c.in_default.is in
    let u = turn_by c.args.self.now.cache c.args.self.now.memory 0 c.fault.new.job in
    subst (λ n. HasMoved sys c.args.now n t u) (sym c.fault.ensures.time)
    (faults sys c.args.now t _ refl (ap is_open c.requires.open) none
    (ap (turn_by c.args.self.now.cache c.args.self.now.memory 0) c.fault.ensures.job))

pub returns-then-outlasts-clause-moved : goal.returns-then-outlasts-clause-moved
returns-then-outlasts-clause-moved g c =
    let sys = system_by c.args.self.now.geometry.platform c.args.dispatch.code.now in
    let t = turn_by c.args.self.now.cache c.args.self.now.memory 0 c.args.job.now in
    let ins = c.in-Some.ins in
    let rest = c.args.dispatch.until - c.args.now in
    let cache = c.begin.new.self.cache in
    let memory = c.begin.new.self.memory in
    let job = c.begin.new.job in
    let found : ins_at sys c.args.job.now.pc ≡ Some ins =
    ap (ins_at sys) (sym c.pc.ensures ∙ sym c.find-found.ensures.address)
    ∙ sym c.find-found.ensures.is.meaning ∙ c.in-Some.is in
    let fetch : turn_by cache memory 0 job ≡ turn_after_fetch sys ins t =
    c.in_ok-begin.ensures.fetched sys 0 ins refl c.in-Some.is in
    let left : c.left-left.result ≡ (turn_after_fetch sys ins t).job.left =
    c.left-left.ensures ∙ ap (λ (u : Turn). u.job.left) fetch in
    uses sys c.args.now c.args.dispatch.until t _ ins refl (ap is_open c.requires.open) found
    c.requires.before (omega (arith, left, rw c.if-outlasts.true at c.outlasts.ensures))
    (ap (turn_by cache memory 0) c.set_left.ensures
    ∙ ap (λ x. turn_by cache memory 0 (record job { left = x - rest })) c.left-left.ensures
    ∙ ap (λ (u : Turn). record u { job = record u.job { left = u.job.left - rest } }) fetch)

pub returns-clause-moved : goal.returns-clause-moved
returns-clause-moved g c =
    let sys = system_by c.args.self.now.geometry.platform c.args.dispatch.code.now in
    let t = turn_by c.args.self.now.cache c.args.self.now.memory 0 c.args.job.now in
    let ins = c.in-Some.ins in
    let k = c.max.result in
    let n = c.args.now + k - 1 in
    let cache = c.begin.new.self.cache in
    let memory = c.begin.new.self.memory in
    let job = c.begin.new.job in
    let found : ins_at sys c.args.job.now.pc ≡ Some ins =
    ap (ins_at sys) (sym c.pc.ensures ∙ sym c.find-found.ensures.address)
    ∙ sym c.find-found.ensures.is.meaning ∙ c.in-Some.is in
    let fetch : turn_by cache memory 0 job ≡ turn_after_fetch sys ins t =
    c.in_ok-begin.ensures.fetched sys 0 ins refl c.in-Some.is in
    let left : c.left-left.result ≡ (turn_after_fetch sys ins t).job.left =
    c.left-left.ensures ∙ ap (λ (u : Turn). u.job.left) fetch in
    let last : AreAllCyclesLeft (turn_after_fetch sys ins t).job.left k =
    last_max _ k (c.max.ensures ∙ ap (λ x. max x 1) left) in
    let at : suc n ≡ c.args.now + k = omega (arith, last.some) in
    let plan = ap (λ (j : Job). plan_of sys j.line.task.0) c.begin.ensures.job ∙ c.requires.plan in
    ends sys c.args.now (c.args.now + k) n t _ ins k refl (ap is_open c.requires.open) found
    last refl at
    (c.in_ok-finish.ensures.ok sys 0 n at plan
    ∙ ap (λ (u : Turn). turn_after_effect sys n ins u c.next-next.result) fetch
    ∙ ap (turn_after_effect sys n ins (turn_after_fetch sys ins t)) c.next-next.ensures)

pub returns-in_default-clause-quiet : goal.returns-in_default-clause-quiet
returns-in_default-clause-quiet g c =
    let same = ap (λ (j : Job). j.watch) c.fault.ensures.job in
    subst (λ (w : Watch). AreQuiet c.args.dispatch.plan.now w c.args.quiet.now) (sym same)
    c.requires.quiet

pub returns-then-outlasts-clause-quiet : goal.returns-then-outlasts-clause-quiet
returns-then-outlasts-clause-quiet g c =
    let same = ap (λ (j : Job). j.watch) c.set_left.ensures
    ∙ ap (λ (j : Job). j.watch) c.begin.ensures.job in
    subst (λ (w : Watch). AreQuiet c.args.dispatch.plan.now w c.args.quiet.now) (sym same)
    c.requires.quiet

pub finish-requires-clause-quiet : goal.finish-requires-clause-quiet
finish-requires-clause-quiet g c =
    let same = ap (λ (j : Job). j.watch) c.begin.ensures.job in
    subst (λ (w : Watch). AreQuiet c.args.dispatch.plan.now w c.args.quiet.now) (sym same)
    c.requires.quiet

pub overflow_add-time : goal.overflow_add-time
overflow_add-time g c = omega (arith, c.max.ensures, rw c.if-outlasts.false at c.outlasts.ensures)

pub returns-clause-within : goal.returns-clause-within
returns-clause-within g c =
    omega (arith, c.max.ensures, rw c.if-outlasts.false at c.outlasts.ensures)

-- what the first cycle requires
pub begin-requires-clause-instruction : goal.begin-requires-clause-instruction
begin-requires-clause-instruction g c =
    let sys = system_by c.args.self.now.geometry.platform c.args.dispatch.code.now in
    let found : ins_at sys c.args.job.now.pc ≡ Some c.in-Some.ins =
    ap (ins_at sys) (sym c.pc.ensures ∙ sym c.find-found.ensures.address)
    ∙ sym c.find-found.ensures.is.meaning ∙ c.in-Some.is in
    ap (λ (y : System). is_some (ins_at y c.args.job.now.pc)) c.requires.system ∙ ap is_some found

pub begin-requires-clause-platform : goal.begin-requires-clause-platform
begin-requires-clause-platform g c = ap (λ (y : System). y.platform) c.requires.system

pub begin-requires-clause-address : goal.begin-requires-clause-address
begin-requires-clause-address g c = c.find-found.ensures.address ∙ c.pc.ensures

pub begin-requires-clause-turn : goal.begin-requires-clause-turn
begin-requires-clause-turn g c =
    let s = g.O.Observer.start (g.O.Observer.observed c.args.observer.now) in
    let t = turn_by c.args.self.now.cache c.args.self.now.memory 0 c.args.job.now in
    turn_here s c.args.dispatch.place c.args.now c.args.dispatch.until t c.args.self.now.kept
    c.requires.turns_at c.requires.before (ap is_open c.requires.open)

pub finish-requires-clause-flagged : goal.finish-requires-clause-flagged
finish-requires-clause-flagged g c K =
    ap (λ (j : Job). is_unbroken j.watch) c.begin.ensures.job
    ∙ c.requires.flagged (sym c.begin.ensures.kept ∙ K)

-- the flag
pub returns-in_default-clause-kept : goal.returns-in_default-clause-kept
returns-in_default-clause-kept g c = (
  λ K.
      (K, ap (λ (j : Job). is_unbroken j.watch) c.fault.ensures.job ∙ c.requires.flagged K),
  λ both. both.0,
)

pub returns-then-outlasts-clause-kept : goal.returns-then-outlasts-clause-kept
returns-then-outlasts-clause-kept g c =
    let same = ap (λ (j : Job). is_unbroken j.watch) c.set_left.ensures
    ∙ ap (λ (j : Job). is_unbroken j.watch) c.begin.ensures.job in (
      λ K. let was = sym c.begin.ensures.kept ∙ K in (was, same ∙ c.requires.flagged was),
      λ both. c.begin.ensures.kept ∙ both.0,
    )

pub returns-clause-kept : goal.returns-clause-kept
returns-clause-kept g c = (
  λ K. let both = c.in_ok-finish.ensures.kept.0 K in (sym c.begin.ensures.kept ∙ both.0, both.1),
  λ both. c.in_ok-finish.ensures.kept.1 (c.begin.ensures.kept ∙ both.0, both.1),
)

-- what is observed
pub returns-in_default-clause-after : goal.returns-in_default-clause-after
returns-in_default-clause-after g c =
    let o = c.args.observer.now in
    let s = g.O.Observer.start (g.O.Observer.observed o) in
    let sys = system_by c.args.self.now.geometry.platform c.args.dispatch.code.now in
    let t = turn_by c.args.self.now.cache c.args.self.now.memory 0 c.args.job.now in
    let none : ins_at s.system c.args.job.now.pc ≡ None =
    ap (λ (y : System). ins_at y c.args.job.now.pc) c.requires.system
    ∙ ap (ins_at sys) (sym c.pc.ensures ∙ sym c.find-found.ensures.address)
    ∙ sym c.find-found.ensures.is.meaning ∙ c.in_default.is in
    let here = turn_here s c.args.dispatch.place c.args.now c.args.dispatch.until t
    c.args.self.now.kept c.requires.turns_at c.requires.before (ap is_open c.requires.open) in
    let time : suc c.args.now ≡ c.fault.result = omega (arith, c.fault.ensures.time) in
    subst (λ n. g.O.Observer.has_observed o n) time
    (g.met.O.Observer.passes o c.args.now
    (here.fetch ∙ fault_fetch s.system c.args.dispatch.place t none) c.requires.before_now)

pub returns-then-outlasts-clause-after : goal.returns-then-outlasts-clause-after
returns-then-outlasts-clause-after g c =
    let Run = g.O.Observer.Run in
    let o = c.args.observer.now in
    let new = c.begin.new.observer in
    let s = g.O.Observer.start (g.O.Observer.observed o) in
    let sys = system_by c.args.self.now.geometry.platform c.args.dispatch.code.now in
    let t = turn_by c.args.self.now.cache c.args.self.now.memory 0 c.args.job.now in
    let ins = c.in-Some.ins in
    let found : ins_at sys c.args.job.now.pc ≡ Some ins =
    ap (ins_at sys) (sym c.pc.ensures ∙ sym c.find-found.ensures.address)
    ∙ sym c.find-found.ensures.is.meaning ∙ c.in-Some.is in
    let fetch : turn_by c.begin.new.self.cache c.begin.new.self.memory 0 c.begin.new.job
    ≡ turn_after_fetch sys ins t =
    c.in_ok-begin.ensures.fetched sys 0 ins refl c.in-Some.is in
    let left : c.left-left.result ≡ (turn_after_fetch sys ins t).job.left =
    c.left-left.ensures ∙ ap (λ (u : Turn). u.job.left) fetch in
    let up_to : c.args.dispatch.until - c.args.now ≤ (turn_after_fetch s.system ins t).job.left =
    rw c.requires.system
    (omega (arith, left, rw c.if-outlasts.true at c.outlasts.ensures)) in
    let moved = subst (λ (y : System). HasMoved y c.args.now c.args.dispatch.until t
    (turn_by c.begin.new.self.cache c.begin.new.self.memory 0 c.set_left.new.self))
    (sym c.requires.system) (returns-then-outlasts-clause-moved g c) in
    passed_to s (g.O.Observer.has_observed new)
    (λ n e seen. g.met.O.Observer.passes new n
    (subst (λ (r : Run). fetch_at (g.O.Observer.start r) n ≡ None)
    (sym c.in_ok-begin.ensures.same) e) seen)
    (c.args.now + 1) c.args.dispatch.until (omega (arith, c.requires.before))
    (unfetched s c.args.dispatch.place c.args.now c.args.dispatch.until c.args.dispatch.until t _
    ins c.args.self.now.kept c.requires.turns_at (omega arith) moved refl
    (ap (λ (y : System). ins_at y c.args.job.now.pc) c.requires.system ∙ found) (inr up_to))
    c.in_ok-begin.ensures.after

pub returns-clause-after : goal.returns-clause-after
returns-clause-after g c =
    let Run = g.O.Observer.Run in
    let o = c.args.observer.now in
    let new = c.begin.new.observer in
    let s = g.O.Observer.start (g.O.Observer.observed o) in
    let sys = system_by c.args.self.now.geometry.platform c.args.dispatch.code.now in
    let t = turn_by c.args.self.now.cache c.args.self.now.memory 0 c.args.job.now in
    let ins = c.in-Some.ins in
    let k = c.max.result in
    let time = c.args.now + k in
    let found : ins_at sys c.args.job.now.pc ≡ Some ins =
    ap (ins_at sys) (sym c.pc.ensures ∙ sym c.find-found.ensures.address)
    ∙ sym c.find-found.ensures.is.meaning ∙ c.in-Some.is in
    let fetch : turn_by c.begin.new.self.cache c.begin.new.self.memory 0 c.begin.new.job
    ≡ turn_after_fetch sys ins t =
    c.in_ok-begin.ensures.fetched sys 0 ins refl c.in-Some.is in
    let left : c.left-left.result ≡ (turn_after_fetch sys ins t).job.left =
    c.left-left.ensures ∙ ap (λ (u : Turn). u.job.left) fetch in
    let last : AreAllCyclesLeft (turn_after_fetch sys ins t).job.left k =
    last_max _ k (c.max.ensures ∙ ap (λ x. max x 1) left) in
    let last_here : AreAllCyclesLeft (turn_after_fetch s.system ins t).job.left k =
    subst (λ (y : System). AreAllCyclesLeft (turn_after_fetch y ins t).job.left k)
    (sym c.requires.system) last in
    let so_many : time - c.args.now ≡ k = omega arith in
    let up_to : (time - c.args.now ≡ 1)
    ⊎ (time - c.args.now ≤ (turn_after_fetch s.system ins t).job.left) =
    elim last_here.no_more [
      | inl one ↦ inl (so_many ∙ one)
      | inr all ↦ inr (omega (arith, so_many, all))
    ] in
    let within : time ≤ c.args.dispatch.until = returns-clause-within g c in
    let moved = subst (λ (y : System). HasMoved y c.args.now time t
    (turn_by c.finish.new.self.cache c.finish.new.self.memory 0 c.finish.new.job))
    (sym c.requires.system) (returns-clause-moved g c) in
    passed_to s (g.O.Observer.has_observed new)
    (λ n e seen. g.met.O.Observer.passes new n
    (subst (λ (r : Run). fetch_at (g.O.Observer.start r) n ≡ None)
    (sym c.in_ok-begin.ensures.same) e) seen)
    (c.args.now + 1) time (omega (arith, last.some))
    (unfetched s c.args.dispatch.place c.args.now time c.args.dispatch.until t _ ins
    c.args.self.now.kept c.requires.turns_at within moved refl
    (ap (λ (y : System). ins_at y c.args.job.now.pc) c.requires.system ∙ found) up_to)
    c.in_ok-begin.ensures.after

-- what the effect requires
pub next-next-requires : goal.next-next-requires
next-next-requires g c = rw c.in-Some.is at c.find-found.ensures.is.in_range

pub finish-requires-clause-in_range : goal.finish-requires-clause-in_range
finish-requires-clause-in_range g c = rw c.in-Some.is at c.find-found.ensures.is.in_range

pub finish-requires-clause-stays : goal.finish-requires-clause-stays
finish-requires-clause-stays g c = rw c.in-Some.is at c.find-found.ensures.is.stays

pub finish-requires-clause-turns : goal.finish-requires-clause-turns
finish-requires-clause-turns g c =
    subst (λ (w : Watch). HasIterations (length c.args.dispatch.plan.now.loops) w)
    (sym (ap (λ (j : Job). j.watch) c.begin.ensures.job)) c.requires.turns

pub finish-requires-clause-open : goal.finish-requires-clause-open
finish-requires-clause-open g c =
    ap (λ (j : Job). j.standing) c.begin.ensures.job ∙ c.requires.open

pub overflow_sub-dispatch : goal.overflow_sub-dispatch
overflow_sub-dispatch g c = omega (arith, c.requires.before)

pub overflow_sub-left : goal.overflow_sub-left
overflow_sub-left g c = omega (arith, rw c.if-outlasts.true at c.outlasts.ensures)

-- the time and the iterations
pub returns-in_default-clause-later : goal.returns-in_default-clause-later
returns-in_default-clause-later g c = omega (arith, c.fault.ensures.time)

pub returns-in_default-clause-within : goal.returns-in_default-clause-within
returns-in_default-clause-within g c = omega (arith, c.fault.ensures.time, c.requires.before)

pub returns-in_default-clause-turns : goal.returns-in_default-clause-turns
returns-in_default-clause-turns g c =
    subst (λ (w : Watch). HasIterations (length c.args.dispatch.plan.now.loops) w)
    (sym (ap (λ (j : Job). j.watch) c.fault.ensures.job)) c.requires.turns

pub returns-then-outlasts-clause-later : goal.returns-then-outlasts-clause-later
returns-then-outlasts-clause-later g c = c.requires.before

pub returns-then-outlasts-clause-within : goal.returns-then-outlasts-clause-within
returns-then-outlasts-clause-within g c = omega arith

pub returns-then-outlasts-clause-turns : goal.returns-then-outlasts-clause-turns
returns-then-outlasts-clause-turns g c =
    subst (λ (w : Watch). HasIterations (length c.args.dispatch.plan.now.loops) w)
    (sym (ap (λ (j : Job). j.watch) c.set_left.ensures
    ∙ ap (λ (j : Job). j.watch) c.begin.ensures.job)) c.requires.turns

pub returns-clause-later : goal.returns-clause-later
returns-clause-later g c = omega (arith, c.max.ensures)

pub returns-clause-turns : goal.returns-clause-turns
returns-clause-turns g c = c.in_ok-finish.ensures.turns
