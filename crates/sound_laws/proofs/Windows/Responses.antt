-- For step 7: every job has ended by the end of its window, by induction over priorities and,
-- within a task, over arrivals.
use Rattle.std.proofs.Common.{◌≡◌, ℕ, zero, suc, ◌+◌, ◌<◌, ◌≤◌, ◌⊎◌, true, false, length, Some, sym}
use Rattle.std.proofs.Common.{◌∙◌, ap, subst, inl, inr, arith}
use Rattle.std.proofs.lemmas.Bool.{cases_Bool, cases_eq, cases_lt, false≢true}
use Rattle.crpd_base.specs.declared.data.ScriptJob.{ScriptJob}
use Rattle.crpd_base.specs.declared.data.TaskSet.{TaskSet}
use Rattle.crpd_base.proofs.Options.{some_injective}
use Rattle.crpd_base.specs.Tasks.{period_of, jitter_of}
use Rattle.crpd_base.specs.Arrivals.{AreApart}
use Rattle.preempt_machine.specs.Machine.{no_job}
use Rattle.preempt_machine.specs.Step.{is_open, is_ready, Start, state, Fetch, fetch_at}
use Rattle.sound_laws.specs.Walks.{RunsLegally}
use Rattle.preempt_machine.proofs.Steps.{WhyFirst, ready_open, ready_released, past_is_not_open}
use Rattle.preempt_machine.proofs.Runs.{state_time, state_line}
use Rattle.run_account.specs.Fetches.{job_after}
use Rattle.crpd_base.specs.Sum.{sum_below}
use Rattle.run_account.proofs.Jobs.{jobs_length, line_is}
use Rattle.run_account.proofs.Moves.{stays_over}
use Rattle.run_account.proofs.Owners.{candidate_at, was_owner, owner_was}
use Rattle.sound_laws.proofs.Windows.Accounts.{Spends}
use Rattle.sound_laws.proofs.Windows.Rooms.{Covers, none_was, over_at_end}
use Rattle.sound_laws.proofs.Windows.Busy.{line_at, task_at, in_window, IsLastQuiet, last_quiet}
use Rattle.sound_laws.proofs.Windows.Busy.{window_covers}
use Rattle.sound_laws.proofs.Windows.Demands.{in_time_at, spaced_at, allowances_fit, base_demand}

not_ready_over : (s : Start) (n x : ℕ) → is_open (job_after s n x).standing ≡ false
    → is_ready (state s n).time (job_after s n x) ≡ false
not_ready_over s n x o =
    elim (cases_Bool (is_ready (state s n).time (job_after s n x))) [
      | inl r ↦ absurd (false≢true (sym o ∙ ready_open (state s n).time (job_after s n x) r))
      | inr r ↦ r
    ]

not_ready_early : (s : Start) (n x : ℕ) → n < (line_at s x).release
    → is_ready (state s n).time (job_after s n x) ≡ false
not_ready_early s n x l =
    elim (cases_Bool (is_ready (state s n).time (job_after s n x))) [
      | inl r ↦ let e : (line_at s x).release ≤ n =
          rw (state_line s n x, state_time s n) at
          (ready_released (state s n).time (job_after s n x) r) in absurd (omega arith)
      | inr r ↦ r
    ]

-- at step n the owner of the core at step t continues an instruction
pub record OwnerContinues (s : Start) (t n : ℕ) : Type 0 where
  pub job : ℕ
  pub is_candidate : candidate_at s n ≡ Some job
  pub owner : (state s t).owner ≡ Some job
  pub under_way : 1 ≤ (job_after s n job).left

-- the front of a window, with at most `most` steps
pub record HasShortFront (s : Start) (x t most : ℕ) : Type 0 where
  pub from : ℕ
  pub short : from ≤ t + most
  pub after : t ≤ from
  pub owner : (n : ℕ) → t ≤ n → n < from → OwnerContinues s t n
  pub no_fetch : (n : ℕ) (f : Fetch) → t ≤ n → n < from → fetch_at s n ≡ Some f → ⊥
  pub takes : (n y : ℕ) → from ≤ n → candidate_at s n ≡ Some y
      → WhyFirst s.system (state s n) y ⊎ ((from < n) × ((state s n).owner ≡ Some y))

-- the jobs of higher tasks have ended by the ends of their windows
abbrev pub HigherAreOver : Start → (ℕ → ℕ) → ℕ → ℕ → Type 0
HigherAreOver s window horizon x =
    (y : ℕ) → y < length s.lines → task_at s y < task_at s x
    → (line_at s y).release + window (task_at s y) ≤ horizon
    → is_open (job_after s ((line_at s y).release + window (task_at s y)) y).standing ≡ false

-- what is required of costs, windows, blocking and delays, per task. The window of each task has its
-- own account: what remains for each job, what its steps add, and the cost of each task
pub record HasWindows (s : Start) (set : TaskSet) (rest : ℕ → ℕ → ℕ → ℕ)
    (extra cost : ℕ → ℕ → ℕ) (window block delay : ℕ → ℕ) (horizon : ℕ) : Type 0 where
  pub fronts : (x t : ℕ) → x < length s.lines → t ≤ horizon
      → IsLastQuiet s x (line_at s x).release t → HasShortFront s x t (block (task_at s x))
  pub fresh : (k n x : ℕ) → n ≤ horizon → was_owner s n x ≡ false
      → rest k n x ≤ cost k (task_at s x)
  pub room : (k : ℕ) → k < length set.tasks
      → block k + base_demand set s.system.platform.switch (cost k) k (window k) + delay k ≤ window k
  pub response : (k : ℕ) → k < length set.tasks → window k + jitter_of set k ≤ period_of set k
  pub periods : (k : ℕ) → k < length set.tasks → 0 < period_of set k
  pub delays : (x t from : ℕ) → x < length s.lines → IsLastQuiet s x (line_at s x).release t
      → t ≤ from → from ≤ t + window (task_at s x) → t + window (task_at s x) ≤ horizon →
      Covers s (in_window s x t (t + window (task_at s x))) x from (t + window (task_at s x))
      → HigherAreOver s window horizon x →
      is_open (job_after s (t + window (task_at s x)) x).standing ≡ true →
      sum_below (extra (task_at s x)) (t + window (task_at s x))
      ≤ sum_below (extra (task_at s x)) from + delay (task_at s x)

module _ (s : Start) (set : TaskSet) (run : RunsLegally set s) (rest : ℕ → ℕ → ℕ → ℕ)
    (extra cost : ℕ → ℕ → ℕ) (window block delay : ℕ → ℕ) (horizon : ℕ)
    (spends : (k : ℕ) → Spends s (rest k) (extra k) horizon)
    (has : HasWindows s set rest extra cost window block delay horizon) where
  task_below : (x : ℕ) → x < length s.lines → task_at s x < length set.tasks
  task_below x h =
      subst (λ (l : ScriptJob). l.task.0 < length set.tasks) (sym (line_is s 0 x h))
      (run.tasks x no_job.line h)

  window_end : ℕ → ℕ
  window_end x = (line_at s x).release + window (task_at s x)

  -- another job of the task is not ready in the window of a job, if the earlier ones have ended by
  -- the ends of their windows
  module _ (x : ℕ) (h : x < length s.lines) (higher : HigherAreOver s window horizon x)
      (earlier : (y : ℕ) → y < length s.lines → task_at s y ≡ task_at s x
      → (line_at s y).arrival < (line_at s x).arrival
      → (line_at s y).release + window (task_at s y) ≤ horizon
      → is_open (job_after s (window_end y) y).standing ≡ false) where
    apart_not_ready : (n y : ℕ) → n ≤ horizon → y < length s.lines → (line_at s x).release ≤ n
        → n < window_end x → task_at s y ≡ task_at s x
        → AreApart (period_of set (task_at s x)) (line_at s y).arrival (line_at s x).arrival
        → is_ready (state s n).time (job_after s n y) ≡ false
    unfolding window_end
    apart_not_ready n y hz hy l e same (inl before) =
        let tb = task_below x h in
        let pos = has.periods (task_at s x) tb in
        let resp = has.response (task_at s x) tb in
        let times = in_time_at s set run y hy in
        let timesx = in_time_at s set run x h in
        let same_jitter : jitter_of set (task_at s y) ≡ jitter_of set (task_at s x) =
        ap (λ k. jitter_of set k) same in
        let same_window : window (task_at s y) ≡ window (task_at s x) = ap (λ k. window k) same in
        let by : (line_at s y).release + window (task_at s y) ≤ n =
        omega (arith, times.1, timesx.0, same_jitter, same_window, resp, before, l) in
        let over = earlier y hy same (omega arith) (omega (arith, by, hz)) in
        not_ready_over s n y
        (stays_over s ((line_at s y).release + window (task_at s y)) n y by over)
    apart_not_ready n y hz hy l e same (inr later) =
        let resp = has.response (task_at s x) (task_below x h) in
        let times = in_time_at s set run y hy in
        let timesx = in_time_at s set run x h in
        not_ready_early s n y (omega (arith, times.0, timesx.1, resp, later, e))

    no_other : (n y : ℕ) → n ≤ horizon → (line_at s x).release ≤ n → n < window_end x → (y ≡ x → ⊥)
        → task_at s y ≡ task_at s x → is_ready (state s n).time (job_after s n y) ≡ false
    no_other n y hz l e ne same =
        elim (cases_lt y (length s.lines)) [
          | inl hy ↦ apart_not_ready n y hz hy l e same (elim (cases_lt y x) [
            | inl less ↦ let a =
                spaced_at s set run y x less h same in
                subst (λ k. AreApart (period_of set k) (line_at s y).arrival (line_at s x).arrival)
                same a
            | inr more ↦ let a = spaced_at s set run x y (omega arith) hy (sym same) in elim a [
              | inl q ↦ inr q
              | inr q ↦ inl q
            ]
          ])
          | inr past ↦
              not_ready_over s n y
              (past_is_not_open (state s n).jobs y (omega (arith, jobs_length s n)))
        ]

    -- up to a step, the candidates after the front are jobs of the window
    covers_until : (t until : ℕ) → IsLastQuiet s x (line_at s x).release t
        → (front : HasShortFront s x t (block (task_at s x))) → until ≤ t + window (task_at s x)
        → until ≤ horizon → Covers s (in_window s x t until) x front.from until
    unfolding window_end
    covers_until t until last front short hz =
        window_covers s x t until h last front.from
        (record {
          after = front.after;
          old = λ n y f l c.
              let on = front.owner n f l in
              let same : on.job ≡ y = some_injective (sym on.is_candidate ∙ c) in
              owner_was s t y (on.owner ∙ ap Some same);
          takes = front.takes;
        })
        (λ n y l e ne same. no_other n y (omega arith) l (omega (arith, last.by, e)) ne same)

    over_with : (t : ℕ) → (last : IsLastQuiet s x (line_at s x).release t)
        → (front : HasShortFront s x t (block (task_at s x)))
        → front.from ≤ t + window (task_at s x) → t + window (task_at s x) ≤ horizon
        → is_open (job_after s (t + window (task_at s x)) x).standing ≡ false
    over_with t last front some in_horizon =
        let w = window (task_at s x) in
        let tb = task_below x h in
        let covers = covers_until t (t + w) last front (omega arith) in_horizon in
        let fit = allowances_fit s set run (cost (task_at s x)) x t w h
        (λ j l. has.periods j (omega (arith, l, tb))) in
        let room = has.room (task_at s x) tb in
        over_at_end s (rest (task_at s x)) (extra (task_at s x)) horizon (spends (task_at s x))
        (in_window s x t (t + w)) x front.from (t + w) in_horizon covers
        (λ y. cost (task_at s x) (task_at s y)) some
        (λ y ins. has.fresh (task_at s x) front.from y (omega arith)
        (elim (cases_Bool (was_owner s front.from y)) [
          | inl wo ↦
              absurd (false≢true
              (sym (none_was s (in_window s x t (t + w)) x front.from (t + w) covers front.from y
              (omega arith) wo) ∙ ins))
          | inr wo ↦ wo
        ]))
        (λ o. let delays = has.delays x t front.from h last front.after some in_horizon covers
        higher o in omega (arith, fit, room, delays, front.short))

    over_from : (t : ℕ) → IsLastQuiet s x (line_at s x).release t
        → t + window (task_at s x) ≤ horizon
        → is_open (job_after s (t + window (task_at s x)) x).standing ≡ false
    over_from t last in_horizon =
        let front = has.fronts x t h (omega (arith, in_horizon)) last in
        let room = has.room (task_at s x) (task_below x h) in
        over_with t last front (omega (arith, front.short, room)) in_horizon

    over_by_window : (line_at s x).release + window (task_at s x) ≤ horizon
        → is_open (job_after s (window_end x) x).standing ≡ false
    unfolding window_end
    over_by_window end_in =
        let last = last_quiet s x (line_at s x).release in
        let over = over_from last.0 last.1 (omega (arith, end_in, last.1.by)) in
        stays_over s (last.0 + window (task_at s x)) ((line_at s x).release + window (task_at s x))
        x (omega (arith, last.1.by)) over

  over_below : (k : ℕ)
      (higher : (y : ℕ) → y < length s.lines → task_at s y < k → window_end y ≤ horizon
      → is_open (job_after s (window_end y) y).standing ≡ false) (a x : ℕ) → x < length s.lines
      → task_at s x ≡ k → (line_at s x).arrival < a → window_end x ≤ horizon
      → is_open (job_after s (window_end x) x).standing ≡ false
  unfolding window_end
  over_below k higher zero x h e l w = absurd (omega arith)
  over_below k higher (suc a) x h e l w =
      over_by_window x h (λ y hy t v. higher y hy (omega arith) v)
      (λ y hy t q v. over_below k higher a y hy (t ∙ e) (omega arith) v) w

  over_tasks : (k x : ℕ) → x < length s.lines → task_at s x < k → window_end x ≤ horizon
      → is_open (job_after s (window_end x) x).standing ≡ false
  over_tasks zero x h l w = absurd (omega arith)
  over_tasks (suc k) x h l w =
      elim (cases_eq (task_at s x) k) [
        | inl e ↦
            over_below k (λ y hy t v. over_tasks k y hy t v) (suc (line_at s x).arrival) x h e
            (omega arith) w
        | inr ne ↦ over_tasks k x h (omega arith) w
      ]

  -- every job whose window ends by the horizon has ended by its end
  pub over_in_window : (x : ℕ) → x < length s.lines
      → (line_at s x).release + window (task_at s x) ≤ horizon
      → is_open (job_after s ((line_at s x).release + window (task_at s x)) x).standing ≡ false
  unfolding window_end
  over_in_window x h w = over_tasks (suc (task_at s x)) x h (omega arith) w

  -- the jobs of higher tasks, and those of the same task, have ended by the ends of their windows
  pub higher_over : (x : ℕ) → HigherAreOver s window horizon x
  unfolding window_end
  higher_over x = λ y hy l v. over_in_window y hy v

  -- a job has ended a window after its quiet time
  pub over_after_quiet : (x t : ℕ) → x < length s.lines → IsLastQuiet s x (line_at s x).release t
      → t + window (task_at s x) ≤ horizon
      → is_open (job_after s (t + window (task_at s x)) x).standing ≡ false
  unfolding window_end
  over_after_quiet x t h last w =
      over_from x h (higher_over x) (λ y hy same q v. over_in_window y hy v) t last w

  pub quiet_covers : (x t until : ℕ) → x < length s.lines → IsLastQuiet s x (line_at s x).release t
      → (front : HasShortFront s x t (block (task_at s x))) → until ≤ t + window (task_at s x)
      → until ≤ horizon → Covers s (in_window s x t until) x front.from until
  unfolding window_end
  quiet_covers x t until h last front short hz =
      covers_until x h (higher_over x) (λ y hy same q v. over_in_window y hy v) t until last
      front short hz
