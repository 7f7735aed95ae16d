-- Steps in which no job is ready.
use Rattle.std.proofs.Common.{◌≡◌, ℕ, zero, suc, ◌+◌, ◌-◌, ◌<◌, ◌≤◌, ◌⊎◌, true, false, List, length}
use Rattle.std.proofs.Common.{Option, None, refl, sym, ◌∙◌, ap, subst, inl, inr, arith, nat_le}
use Rattle.std.proofs.lemmas.Bool.{cases_Bool, cases_lt, false≢true}
use Rattle.std.proofs.lemmas.Bool.Decides.{nat_tests}
use Rattle.crpd_base.specs.declared.data.ScriptJob.{ScriptJob}
use Rattle.code_map.specs.Words.{Code}
use Rattle.preempt_machine.specs.declared.Completion.{Completion}
use Rattle.preempt_machine.specs.Machine.{Standing, Open, Answered, Faulted, Machine, job_at}
use Rattle.preempt_machine.specs.Step.{is_open, is_ready, candidate}
use Rattle.preempt_machine.specs.Candidate.{release_of}
use Rattle.preempt_machine.specs.Safe.{end_by}
use Rattle.preempt_machine.specs.Running.{Running, job_id, running_after_step, running_after_steps}
use Rattle.preempt_machine.specs.Running.{system_by}
use Rattle.preempt_machine.specs.declared.queue.Due.{Due}
use Rattle.preempt_machine.specs.Inner.Queue.{due_release, due_place}
use Rattle.preempt_machine.specs.Inner.Schedule.{script_lines, IsRepresented, NoneIsReady}
use Rattle.preempt_machine.specs.Inner.Parts.{HasMade}
use Rattle.preempt_machine.proofs.Candidates.{none_candidate}
use Rattle.preempt_machine.proofs.Firsts.{line_is, lines_long, release_le, before_or_from}
use Rattle.preempt_machine.proofs.Steps.{open_is_below, ready_from, ready_open, ready_released}

-- the next release is later than a time at which no job is ready
pub next_is_later : (sets : ℕ) (m : Machine) (due : List Due) (later heads : List (Option ℕ))
    (count : ℕ) (cs : List Completion) → IsRepresented sets m due later heads count cs
    → NoneIsReady m.time m.jobs → count < length due → m.time < due_release due count
next_is_later sets m due later heads count cs k none inside =
    let x = due_place due count in
    let release : due_release due count ≡ (job_at m.jobs x).line.release =
    k.due.releases count inside ∙ ap (λ (l : ScriptJob). l.release) (line_is m.jobs x) in
    let below : x < length m.jobs = omega (arith, k.due.places count inside, lines_long m.jobs) in
    let from : m.time ≤ due_release due count = k.released.after count (omega arith) inside in
    elim (cases_lt m.time (due_release due count)) [
      | inl l ↦ l
      | inr g ↦ elim (cases_Bool (is_open (job_at m.jobs x).standing)) [
        | inl o ↦
            absurd (false≢true (sym (none x)
            ∙ ready_from m.time (job_at m.jobs x) o (omega (arith, release))))
        | inr f ↦ absurd (omega (arith, k.over x below f, release))
      ]
    ]

-- before the next release no job is ready
pub none_before : (sets : ℕ) (m : Machine) (due : List Due) (later heads : List (Option ℕ))
    (count : ℕ) (cs : List Completion) (time : ℕ) → IsRepresented sets m due later heads count cs
    → NoneIsReady m.time m.jobs → (count < length due → time < due_release due count)
    → NoneIsReady time m.jobs
none_before sets m due later heads count cs time k none before x =
    let job = job_at m.jobs x in
    elim (cases_Bool (is_ready time job)) [
      | inl t ↦
          let o = ready_open time job t in
          elim (before_or_from m.jobs due count m.time (time + 1) k.due k.released.before
          (λ l. let b = before l in omega (arith, b)) x (open_is_below m.jobs x o)) [
            | inl l ↦
                absurd (false≢true (sym (none x) ∙ ready_from m.time job o (omega (arith, l))))
            | inr g ↦ let r = ready_released time job t in absurd (omega (arith, g, r))
          ]
      | inr f ↦ f
    ]

-- a job that was released before both times, or before neither, has the same completion at both
end_stays : (from to release : ℕ) (s : Standing) → from ≤ to → (release < from) ⊎ (to ≤ release)
    → end_by from release s ≡ end_by to release s
end_stays from to release Open le (inl h) =
    let a : nat_le from release ≡ false = grind (arith, nat_tests) in
    let b : nat_le to release ≡ false = grind (arith, nat_tests) in
    rw (a, b) refl
end_stays from to release Open le (inr h) =
    let a : nat_le from release ≡ true = grind (arith, nat_tests) in
    let b : nat_le to release ≡ true = grind (arith, nat_tests) in
    rw (a, b) refl
end_stays from to release (Answered t) le h = refl
end_stays from to release Faulted le h = refl

-- up to the next release the representation of a state stays
pub kept_idle : (sets : ℕ) (m : Machine) (due : List Due) (later heads : List (Option ℕ))
    (count : ℕ) (cs : List Completion) (time : ℕ) → IsRepresented sets m due later heads count cs
    → m.time ≤ time → (count < length due → time ≤ due_release due count)
    → IsRepresented sets (record m { time = time }) due later heads count cs
kept_idle sets m due later heads count cs time k le before =
    record {
      room = k.room;
      due = k.due;
      linked = k.linked;
      waiting = k.waiting;
      released = record {
        within = k.released.within;
        before = λ p a. omega (arith, k.released.before p a);
        after = λ p a b.
            omega (
              arith,
              before (omega arith),
              release_le (script_lines m.jobs) due count p k.due a b,
            );
      };
      over = λ x a b. omega (arith, k.over x a b);
      told = k.told;
      completions = λ x a.
          k.completions x a ∙ ap (λ e. record { job = job_id m x; «end» = e })
          (end_stays m.time time (release_of m x) (job_at m.jobs x).standing le
          (before_or_from m.jobs due count m.time time k.due k.released.before before x a));
      owner = k.owner;
    }

-- a machine at another time, after a step without a fetch
abbrev pub waited : Running → ℕ → Running
waited r time = record {
  platform = r.platform;
  state = record r.state { time = time };
  fetch = None;
}

idle_step : (code : Code) (r : Running) → NoneIsReady r.state.time r.state.jobs
    → running_after_step code r ≡ waited r (suc r.state.time)
idle_step code r none =
    let e : candidate (system_by r.platform code) r.state ≡ None =
    none_candidate (system_by r.platform code) r.state none in
    rw e refl

-- steps in which no job is ready change the number of steps alone
idle_steps : (code : Code) (r : Running) (n : ℕ)
    → ((k : ℕ) → k ≤ n → NoneIsReady (r.state.time + k) r.state.jobs)
    → running_after_steps (suc n) code r ≡ waited r (r.state.time + suc n)
idle_steps code r zero none =
    let start : r.state.time + 0 ≡ r.state.time = omega arith in
    let one : suc r.state.time ≡ r.state.time + suc zero = omega arith in
    idle_step code r (subst (λ t. NoneIsReady t r.state.jobs) start (none 0 (omega arith)))
    ∙ ap (waited r) one
idle_steps code r (suc n) none =
    let more : suc (r.state.time + suc n) ≡ r.state.time + suc (suc n) = omega arith in
    ap (running_after_step code) (idle_steps code r n (λ k h. none k (omega arith)))
    ∙ idle_step code (waited r (r.state.time + suc n)) (none (suc n) (omega arith))
    ∙ ap (waited r) more

-- all steps up to a time before which no job is ready
pub idle_made : (code : Code) (r : Running) (time until : ℕ) → r.state.time < time → time ≤ until
    → ((t : ℕ) → t < time → NoneIsReady t r.state.jobs) → HasMade code until r (waited r time)
idle_made code r time until less within none =
    let n = time - suc r.state.time in
    let all : r.state.time + suc n ≡ time = omega arith in
    record {
      made = suc n;
      some = omega arith;
      within = omega arith;
      state =
          ap (waited r) (sym all) ∙ sym
          (idle_steps code r n (λ k h. none (r.state.time + k) (omega arith)));
    }
