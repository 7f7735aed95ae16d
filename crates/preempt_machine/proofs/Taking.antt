-- The moves of the parts.
use Rattle.std.proofs.Common.{◌≡◌, ◌↔◌, ℕ, ◌+◌, ◌-◌, ◌<◌, ◌≤◌, true, List, length, Option, Some}
use Rattle.std.proofs.Common.{refl, sym, ◌∙◌, ap, subst, arith, get_or-set_same, slice_set, IsTrue}
use Rattle.std.proofs.Common.{inl, inr}
use Rattle.crpd_base.specs.declared.data.ScriptJob.{ScriptJob}
use Rattle.icache.specs.declared.Geometry.{Geometry}
use Rattle.code_map.specs.Words.{Code}
use Rattle.flow_watch.specs.Watch.{is_unbroken}
use Rattle.preempt_machine.specs.Machine.{System, Job, Machine, job_at, no_job}
use Rattle.preempt_machine.specs.Step.{candidate, is_open, run, state, Start, Turn, turn_of}
use Rattle.preempt_machine.specs.Running.{system_by, HasPlan, HasPlans}
use Rattle.preempt_machine.specs.Schedule.{script_line}
use Rattle.preempt_machine.specs.declared.queue.Due.{Due}
use Rattle.preempt_machine.specs.Inner.Queue.{due_release, IsNextRelease}
use Rattle.preempt_machine.specs.Inner.Schedule.{script_lines, IsHead, HasToldReleases, heads_after}
use Rattle.preempt_machine.specs.Inner.Schedule.{completions_after, HasToldEnd}
use Rattle.preempt_machine.proofs.Firsts.{line_is, lines_long}
use Rattle.preempt_machine.proofs.Taken.{kept_along}
use Rattle.preempt_machine.proofs.CandidateTurns.{plans_set}
use Rattle.preempt_machine.specs.declared.stretches.FastParts.{FastParts}
use Rattle.preempt_machine.specs.declared.queue.Queue.{Queue}
use Rattle.preempt_machine.specs.declared.schedule.Schedule.{Schedule}
use Rattle.preempt_machine.specs.Inner.Addresses.{AreDecodedAddresses}
use Rattle.preempt_machine.specs.Inner.Stretches.{fast_machine_of, ComesByTurns, HasTakenTurns}
use Rattle.preempt_machine.specs.Inner.Stretches.{IsFastMachine, RunsAs}
use Rattle.preempt_machine.specs.Stretch.{machine_after_turns, NoRelease}
use Rattle.preempt_machine.specs.Inner.Moves.{turn_after_steps, AreTurnsAt, HasMoved}
use Rattle.preempt_machine.proofs.Runs.{run_line, run_time}
use Rattle.preempt_machine.proofs.Keeping.{head_stays, kept_by, no_release}
use Rattle.preempt_machine.proofs.Observing.{kept_set, later_state, turned_unbroken, turns_at}
use Rattle.preempt_machine.proofs.StretchLaws.{left_by, owner_keeps_in, run_by, stays_by, IsStretch}

-- a state by what a job's moves leave
pub comes_by : (sys : System) (m new : Machine) (place until time : ℕ) (u : Turn)
    → HasMoved sys m.time time (turn_of sys m place) u → m.time < time → time ≤ until
    → new ≡ record {
      time = time;
      cache = u.cache;
      memory = u.memory;
      owner = Some place;
      switch_left = u.switch_left;
      jobs = slice_set m.jobs place u.job;
    } → ComesByTurns sys until place m new
comes_by sys m new place until time u h later within e =
    let all : time ≡ m.time + (time - m.time) = omega arith in
    record {
      made = time - m.time;
      some = omega arith;
      within = omega arith;
      state = e
          ∙ ap (λ n. record {
            time = n;
            cache = u.cache;
            memory = u.memory;
            owner = Some place;
            switch_left = u.switch_left;
            jobs = slice_set m.jobs place u.job;
          }) all
          ∙ ap (machine_after_turns m (time - m.time) place) h.turn;
      open_before = h.open_before;
    }

-- the parts with another schedule
abbrev pub with_schedule : FastParts → Schedule → FastParts
with_schedule p s = record p { schedule = s }

-- recording the releases does not change the state
told_state : (old : FastParts) (told : Schedule) → HasToldReleases old.schedule told
    → fast_machine_of (with_schedule old told) ≡ fast_machine_of old
told_state old told h = rw (h.steps, h.owner, h.switch_left, h.jobs) refl

-- what is known once the candidate has taken its turns
pub record HasTaken (sys : System) (until : ℕ) (old : FastParts) (told : Schedule)
    (turned : FastParts) (place : ℕ) : Type 0 where
  pub machine : IsFastMachine old
  pub is_candidate : candidate sys (fast_machine_of old) ≡ Some place
  pub head : IsHead old.schedule.jobs.items old.schedule.queue.due.items
      old.schedule.queue.heads.items place
  pub tell : HasToldReleases old.schedule told
  pub turn : HasTakenTurns sys until (with_schedule old told) turned place
  pub next : told.queue.released < length told.queue.due.items
      → until ≤ due_release told.queue.due.items told.queue.released
  pub reach : owner_keeps_in sys (fast_machine_of old) ≡ true
      → until ≤ old.schedule.steps + (job_at old.schedule.jobs.items place).left

pub turns_of : (sys : System) (until : ℕ) (old : FastParts) (told : Schedule) (turned : FastParts)
    (place : ℕ) → HasTaken sys until old told turned place
    → ComesByTurns sys until place (fast_machine_of old) (fast_machine_of turned)
turns_of sys until old told turned place h =
    subst (λ m. ComesByTurns sys until place m (fast_machine_of turned))
    (told_state old told h.tell) h.turn.turns

next_of : (sys : System) (until : ℕ) (old : FastParts) (told : Schedule) (turned : FastParts)
    (place : ℕ)
    → HasTaken sys until old told turned place
    → told.queue.released < length old.schedule.queue.due.items
    → until ≤ due_release old.schedule.queue.due.items told.queue.released
next_of sys until old told turned place h =
    subst (λ due. told.queue.released < length due → until ≤ due_release due told.queue.released)
    h.tell.due h.next

stretch_of : (sys : System) (until : ℕ) (old : FastParts) (told : Schedule) (turned : FastParts)
    (place : ℕ)
    (h : HasTaken sys until old told turned place)
    → IsStretch sys (fast_machine_of old) place (turns_of sys until old told turned place h).made
stretch_of sys until old told turned place h =
    let m = fast_machine_of old in
    let t = turns_of sys until old told turned place h in
    record {
      is_candidate = h.is_candidate;
      none =
          no_release _ m old.schedule.queue.due.items _ _ old.schedule.queue.released
          told.queue.released _ told.completions.items t.made h.machine h.tell.released
          (λ w. omega (arith, next_of sys until old told turned place h w, t.within));
      open_before = t.open_before;
      under_way = λ keep j l.
          omega (arith, left_by sys m.time (turn_of sys m place) j, h.reach keep, t.within);
    }

-- the turns are as many steps
pub turns_are_steps : (sys : System) (until : ℕ) (old : FastParts) (told : Schedule)
    (turned : FastParts) (place : ℕ) (h : HasTaken sys until old told turned place)
    → fast_machine_of turned
    ≡ run sys (fast_machine_of old) (turns_of sys until old told turned place h).made
turns_are_steps sys until old told turned place h =
    let t = turns_of sys until old told turned place h in
    t.state ∙ sym
    (run_by sys (fast_machine_of old) place t.made (stretch_of sys until old told turned place h)
    t.made t.some (omega arith))

-- the time after them
pub taken_time : (sys : System) (until : ℕ) (old : FastParts) (told : Schedule) (turned : FastParts)
    (settled : Schedule) (place : ℕ) (h : HasTaken sys until old told turned place)
    → HasToldEnd turned.schedule settled place
    → settled.steps ≡ old.schedule.steps + (turns_of sys until old told turned place h).made
taken_time sys until old told turned settled place h s =
    let m = fast_machine_of old in
    ap (λ (n : Machine). n.time)
    (s.state turned.core.cache turned.core.memory
    ∙ turns_are_steps sys until old told turned place h)
    ∙ run_time sys m (turns_of sys until old told turned place h).made

-- the time of the next release is later than that of the releases that are recorded
pub next_later : (old told : Schedule) (most until : ℕ) → HasToldReleases old told
    → old.steps < most → IsNextRelease told.queue.due.items told.queue.released most until
    → told.steps < until
next_later old told most until tell before next =
    let wait = subst (λ due. told.queue.released < length due
    → old.steps < due_release due told.queue.released) (sym tell.due) tell.released.wait in
    rw tell.steps (elim next.one [
      | inl last ↦ omega (arith, last, before)
      | inr one ↦ omega (arith, one.1, wait one.0)
    ])

-- it follows from its parts
pub takes : (code : Code) (until most : ℕ) (old : FastParts) (told : Schedule) (turned : FastParts)
    (place : ℕ) → IsFastMachine old
    → candidate (system_by old.core.geometry.platform code) (fast_machine_of old) ≡ Some place
    → IsHead old.schedule.jobs.items old.schedule.queue.due.items old.schedule.queue.heads.items
    place → HasToldReleases old.schedule told
    → HasTakenTurns (system_by old.core.geometry.platform code) until (with_schedule old told)
    turned place → IsNextRelease told.queue.due.items told.queue.released most until
    → (owner_keeps_in (system_by old.core.geometry.platform code) (fast_machine_of old) ≡ true
    → most ≤ old.schedule.steps + (job_at old.schedule.jobs.items place).left)
    → HasTaken (system_by old.core.geometry.platform code) until old told turned place
takes code until most old told turned place machine is head tell turn next reach =
    record {
      machine = machine;
      is_candidate = is;
      head = head;
      tell = tell;
      turn = turn;
      next = next.before;
      reach = λ keep. omega (arith, reach keep, next.within);
    }

-- the order and the completions before the job's standing is recorded
heads_of : (sys : System) (until : ℕ) (old : FastParts) (told : Schedule) (turned : FastParts)
    (place : ℕ)
    → HasTaken sys until old told turned place
    → turned.schedule.queue.heads.items ≡ old.schedule.queue.heads.items
heads_of sys until old told turned place h =
    ap (λ (q : Queue). q.heads.items) h.turn.queue ∙ h.tell.heads

due_of : (sys : System) (until : ℕ) (old : FastParts) (told : Schedule) (turned : FastParts)
    (place : ℕ)
    → HasTaken sys until old told turned place
    → turned.schedule.queue.due.items ≡ old.schedule.queue.due.items
due_of sys until old told turned place h = ap (λ (q : Queue). q.due.items) h.turn.queue ∙ h.tell.due

later_of : (sys : System) (until : ℕ) (old : FastParts) (told : Schedule) (turned : FastParts)
    (place : ℕ)
    → HasTaken sys until old told turned place
    → turned.schedule.queue.later.items ≡ old.schedule.queue.later.items
later_of sys until old told turned place h =
    ap (λ (q : Queue). q.later.items) h.turn.queue ∙ h.tell.later

head_along : (js ks : List Job) (due dues : List Due) (heads hs : List (Option ℕ)) (i : ℕ) → ks ≡ js
    → dues ≡ due → hs ≡ heads → IsHead js due heads i → IsHead ks dues hs i
head_along js ks due dues heads hs i a b c h = rw (a, b, c) h

pub taken_head : (sys : System) (until : ℕ) (old : FastParts) (told : Schedule) (turned : FastParts)
    (place : ℕ) → HasTaken sys until old told turned place
    → IsHead turned.schedule.jobs.items turned.schedule.queue.due.items
    turned.schedule.queue.heads.items place
taken_head sys until old told turned place h =
    let m = fast_machine_of old in
    let t = turns_of sys until old told turned place h in
    let jobs : turned.schedule.jobs.items ≡ (run sys m t.made).jobs =
    ap (λ (n : Machine). n.jobs) (turns_are_steps sys until old told turned place h) in
    head_along (run sys m t.made).jobs turned.schedule.jobs.items old.schedule.queue.due.items
    turned.schedule.queue.due.items old.schedule.queue.heads.items turned.schedule.queue.heads.items
    place jobs (due_of sys until old told turned place h)
    (heads_of sys until old told turned place h)
    (head_stays sys m old.schedule.queue.due.items old.schedule.queue.heads.items place
    t.made h.head)

pub taken_task : (sys : System) (until : ℕ) (old : FastParts) (told : Schedule) (turned : FastParts)
    (place : ℕ) → HasTaken sys until old told turned place
    → (job_at turned.schedule.jobs.items place).line.task.0
    < length turned.schedule.queue.heads.items
taken_task sys until old told turned place h =
    let m = fast_machine_of old in
    let t = turns_of sys until old told turned place h in
    let jobs : turned.schedule.jobs.items ≡ (run sys m t.made).jobs =
    ap (λ (n : Machine). n.jobs) (turns_are_steps sys until old told turned place h) in
    let line = ap (λ js. (job_at js place).line) jobs ∙ run_line sys m t.made place
    ∙ sym (line_is m.jobs place) in
    let below : (script_line (script_lines m.jobs) place).task.0
    < length old.schedule.queue.heads.items =
    h.machine.waiting.tasks place (omega (arith, h.head.below, lines_long m.jobs)) in
    rw (heads_of sys until old told turned place h)
    (subst (λ (l : ScriptJob). l.task.0 < length old.schedule.queue.heads.items) (sym line) below)

-- the job after its turns
own_job : (m : Machine) (place made : ℕ) (u : Turn) → place < length m.jobs
    → job_at (machine_after_turns m made place u).jobs place ≡ u.job
own_job m place made u below = get_or-set_same m.jobs place u.job no_job below

pub taken_kept : (sys : System) (until : ℕ) (old : FastParts) (told : Schedule) (turned : FastParts)
    (settled : Schedule) (place : ℕ) → HasTaken sys until old told turned place
    → HasToldEnd turned.schedule settled place → IsFastMachine (with_schedule turned settled)
taken_kept sys until old told turned settled place h s =
    let m = fast_machine_of old in
    let t = turns_of sys until old told turned place h in
    let stretch = stretch_of sys until old told turned place h in
    let n = run sys m t.made in
    let due = old.schedule.queue.due.items in
    let later = old.schedule.queue.later.items in
    let heads = old.schedule.queue.heads.items in
    let told_ends = told.completions.items in
    let jobs : turned.schedule.jobs.items ≡ n.jobs =
    ap (λ (x : Machine). x.jobs) (turns_are_steps sys until old told turned place h) in
    let opening : (j : ℕ) → 1 ≤ j → j < t.made
    → is_open (job_at (run sys m j).jobs place).standing ≡ true = λ j a b.
    ap (λ (x : Machine). is_open (job_at x.jobs place).standing)
    (run_by sys m place t.made stretch j a (omega arith))
    ∙ ap (λ (x : Job). is_open x.standing)
    (own_job m place j (turn_after_steps sys m.time (turn_of sys m place) j) h.head.below)
    ∙ t.open_before j b in
    let kept = kept_by sys old.core.geometry.platform.sets m due later heads
    old.schedule.queue.released told.queue.released old.schedule.completions.items told_ends place
    t.made h.machine h.head h.tell.released
    (λ w. omega (arith, next_of sys until old told turned place h w, t.within))
    (stays_by sys m place t.made stretch) opening t.made t.some (omega arith) in
    kept_along old.core.geometry.platform.sets turned.core.geometry.platform.sets
    n (fast_machine_of (with_schedule turned settled))
    due settled.queue.due.items later settled.queue.later.items
    (heads_after n.jobs later heads place) settled.queue.heads.items
    told.queue.released settled.queue.released
    (completions_after n.jobs told_ends place) settled.completions.items
    (ap (λ (g : Geometry). g.platform.sets) h.turn.geometry)
    (s.state turned.core.cache turned.core.memory
    ∙ turns_are_steps sys until old told turned place h)
    (s.due ∙ due_of sys until old told turned place h)
    (s.later ∙ later_of sys until old told turned place h)
    (s.heads
    ∙ ap (λ (js : List Job).
    heads_after js turned.schedule.queue.later.items turned.schedule.queue.heads.items place) jobs
    ∙ ap (λ (ls : List (Option ℕ)). heads_after n.jobs ls turned.schedule.queue.heads.items place)
    (later_of sys until old told turned place h)
    ∙ ap (λ (hs : List (Option ℕ)). heads_after n.jobs later hs place)
    (heads_of sys until old told turned place h))
    (s.released ∙ ap (λ (q : Queue). q.released) h.turn.queue)
    (s.completions
    ∙ ap (λ (js : List Job). completions_after js turned.schedule.completions.items place) jobs
    ∙ ap (λ cs. completions_after n.jobs cs.items place) h.turn.completions)
    kept

-- the plans after a job's turns
pub taken_plans : (sys : System) (code : Code) (until : ℕ) (old : FastParts) (told : Schedule)
    (turned : FastParts) (settled : Schedule) (place : ℕ) → HasTaken sys until old told turned place
    → HasToldEnd turned.schedule settled place → HasPlans code (fast_machine_of old)
    → HasPlan code.plans (job_at turned.schedule.jobs.items place)
    → HasPlans code (fast_machine_of (with_schedule turned settled))
taken_plans sys code until old told turned settled place h s all one =
    let m = fast_machine_of old in
    let t = turns_of sys until old told turned place h in
    let job = (turn_after_steps sys m.time (turn_of sys m place) t.made).job in
    let jobs : turned.schedule.jobs.items ≡ slice_set m.jobs place job =
    ap (λ (n : Machine). n.jobs) t.state in
    let own : job_at turned.schedule.jobs.items place ≡ job =
    ap (λ (js : List Job). job_at js place) jobs
    ∙ get_or-set_same m.jobs place job no_job h.head.below in
    let settled_jobs : settled.jobs.items ≡ slice_set m.jobs place job =
    ap (λ (n : Machine). n.jobs) (s.state turned.core.cache turned.core.memory) ∙ jobs in
    subst (λ (js : List Job). (x : ℕ) → x < length js → HasPlan code.plans (job_at js x))
    (sym settled_jobs)
    (plans_set code.plans m.jobs place job all (subst (λ (j : Job). HasPlan code.plans j) own one))

-- the steps of the candidate are turns of its job, up to the next release
pub told_turns : (s : Start) (code : Code) (until most : ℕ) (old : FastParts) (told : Schedule)
    (place : ℕ) → RunsAs s code old
    → candidate (system_by old.core.geometry.platform code) (fast_machine_of old) ≡ Some place
    → HasToldReleases old.schedule told
    → IsNextRelease told.queue.due.items told.queue.released most until
    → (owner_keeps_in (system_by old.core.geometry.platform code) (fast_machine_of old) ≡ true
    → most ≤ old.schedule.steps + (job_at old.schedule.jobs.items place).left)
    → AreTurnsAt s place told.steps until
    (turn_of (system_by old.core.geometry.platform code) (fast_machine_of (with_schedule old told))
    place) old.core.kept
told_turns s code until most old told place R is tell next reach =
    let m = fast_machine_of old in
    let due = old.schedule.queue.due.items in
    let before : told.queue.released < length due → until ≤ due_release due told.queue.released =
    subst (λ d. told.queue.released < length d → until ≤ due_release d told.queue.released)
    tell.due next.before in
    let none : (k : ℕ) → m.time + k ≤ until → NoRelease m k = λ k l.
    no_release _ m due _ _ old.schedule.queue.released told.queue.released _ told.completions.items
    k R.machine tell.released (λ w. omega (arith, before w, l)) in
    let all : AreTurnsAt s place m.time until (turn_of s.system m place) old.core.kept =
    turns_at s m place until old.core.kept R.state
    (ap (λ (y : System). candidate y m) R.system ∙ is) none
    (λ keep. omega (
      arith,
      next.within,
      reach (ap (λ (y : System). owner_keeps_in y m) (sym R.system) ∙ keep),
    ))
    R.kept in
    subst (λ n. AreTurnsAt s place n until
    (turn_of (system_by old.core.geometry.platform code) (fast_machine_of (with_schedule old told))
    place) old.core.kept) (sym tell.steps)
    (subst (λ n. AreTurnsAt s place m.time until
    (turn_of (system_by old.core.geometry.platform code) n place) old.core.kept)
    (sym (told_state old told tell))
    (subst (λ (y : System). AreTurnsAt s place m.time until (turn_of y m place) old.core.kept)
    R.system all))

-- after them the parts run as before
pub taken_runs : (s : Start) (code : Code) (until : ℕ) (old : FastParts) (told : Schedule)
    (turned : FastParts) (settled : Schedule) (place : ℕ) → RunsAs s code old
    → HasTaken (system_by old.core.geometry.platform code) until old told turned place
    → HasToldEnd turned.schedule settled place
    → HasPlan code.plans (job_at turned.schedule.jobs.items place)
    → AreDecodedAddresses old.core.geometry.platform code turned.core.decoded.places.items
    → (IsTrue turned.core.kept ↔ (IsTrue old.core.kept
    × (is_unbroken (job_at turned.schedule.jobs.items place).watch ≡ true)))
    → RunsAs s code (with_schedule turned settled)
taken_runs s code until old told turned settled place R h e plan decoded flag =
    let m = fast_machine_of old in
    let sys = system_by old.core.geometry.platform code in
    let t = turns_of sys until old told turned place h in
    let u = turn_after_steps sys m.time (turn_of sys m place) t.made in
    let new = with_schedule turned settled in
    let jobs : turned.schedule.jobs.items ≡ slice_set m.jobs place u.job =
    ap (λ (n : Machine). n.jobs) t.state in
    let own : job_at turned.schedule.jobs.items place ≡ u.job =
    ap (λ (js : List Job). job_at js place) jobs
    ∙ get_or-set_same m.jobs place u.job no_job h.head.below in
    let told_jobs : (fast_machine_of new).jobs ≡ slice_set m.jobs place u.job =
    ap (λ (n : Machine). n.jobs) (e.state turned.core.cache turned.core.memory) ∙ jobs in
    let watches = kept_set m (fast_machine_of new) place u.job h.head.below told_jobs
    (turned_unbroken sys m.time (turn_of sys m place) t.made) in
    let same : is_unbroken (job_at turned.schedule.jobs.items place).watch
    ≡ is_unbroken u.job.watch =
    ap (λ (j : Job). is_unbroken j.watch) own in
    let time : m.time + t.made ≡ settled.steps =
    sym (taken_time sys until old told turned settled place h e) in
    record {
      system = R.system ∙ ap (λ (g : Geometry). system_by g.platform code) (sym h.turn.geometry);
      state =
          e.state turned.core.cache turned.core.memory
          ∙ turns_are_steps sys until old told turned place h
          ∙ ap (λ (y : System). run y m t.made) (sym R.system)
          ∙ sym (later_state s m t.made R.state) ∙ ap (state s) time;
      machine = taken_kept sys until old told turned settled place h e;
      run = record {
        plans = taken_plans sys code until old told turned settled place h e R.run.plans plan;
        decoded =
            subst (λ (g : Geometry).
            AreDecodedAddresses g.platform code turned.core.decoded.places.items)
            (sym h.turn.geometry) decoded;
      };
      kept = (
        λ K.
            let both = flag.0 K in watches.1 (R.kept.0 both.0, sym same ∙ both.1),
        λ K.
            let both = watches.0 K in flag.1 (R.kept.1 both.0, same ∙ both.1),
      );
    }
