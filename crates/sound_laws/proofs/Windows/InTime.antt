-- Step 7: each job of a legal and checked run has ended at the end of its window, and completed at
-- its response.
use Rattle.std.proofs.Common.{◌≡◌, ℕ, ◌+◌, ◌-◌, ◌*◌, ◌<◌, ◌≤◌, true, false, length, Some, refl, sym}
use Rattle.std.proofs.Common.{◌∙◌, ap, subst, inl, inr, arith}
use Rattle.std.proofs.lemmas.Bool.{cases_Bool, cases_lt, false≢true, lt-ltb}
use Rattle.crpd_base.proofs.Sums.{sum_add}
use Rattle.crpd_base.specs.declared.data.Platform.{Platform}
use Rattle.crpd_base.specs.declared.data.Switching.{Switching}
use Rattle.crpd_base.specs.declared.data.Switching.TheVariants.{Cycle, Instruction}
use Rattle.crpd_base.specs.Tasks.{jitter_of, period_of}
use Rattle.crpd_base.specs.Arrivals.{IsLegal}
use Rattle.delay_count.specs.Counts.{jobs_of}
use Rattle.crpd_base.specs.Sum.{sum_below}
use Rattle.delay_count.specs.Demand.{blocking, greatest_from}
use Rattle.cert_check.specs.JudgeInput.{longest_of}
use Rattle.preempt_machine.specs.Machine.{Job}
use Rattle.preempt_machine.specs.Step.{is_open, state}
use Rattle.preempt_machine.specs.Safe.{IsAnsweredBy}
use Rattle.preempt_machine.proofs.Runs.{over_stays}
use Rattle.run_account.specs.Fetches.{job_after}
use Rattle.run_account.proofs.Owners.{owner_was, was_released}
use Rattle.run_account.specs.Nodes.{job_task}
use Rattle.sound_laws.proofs.Windows.Accounts.{was_below}
use Rattle.sound_laws.proofs.Windows.Busy.{line_at, task_at, IsLastQuiet, is_busy_by, busy_none}
use Rattle.sound_laws.proofs.Windows.Demands.{in_time_at, base_demand}
use Rattle.sound_laws.proofs.Windows.Responses.{HasShortFront, HasWindows, over_in_window}
use Rattle.delay_count.proofs.Greatest.{greatest_ge}
use Rattle.sound_laws.proofs.Windows.Fronts.{middle, middle_left, middle_over, cycle_front}
use Rattle.sound_laws.proofs.Windows.Fronts.{instruction_front}
use Rattle.sound_laws.proofs.Execution.Executed.{short_at}
use Rattle.sound_laws.proofs.Walks.NoFaults.{no_fault}
use Rattle.walk_parts.specs.Parts.{WalkPart}
use Rattle.sound_laws.proofs.Walks.CheckedRuns.{KeptRun, CheckedRun, AreSound, checked_run, window}
use Rattle.sound_laws.proofs.Walks.CheckedRuns.{longest, bound_of, walks_at, sound_at, below_tasks}
use Rattle.sound_laws.proofs.Walks.CheckedRuns.{kept_at, answered_in_time}
use Rattle.sound_laws.proofs.Reloads.Checked.{extra}
use Rattle.sound_laws.proofs.Execution.Spent.{rest, rest_spends, fresh}
use Rattle.sound_laws.proofs.Delays.WindowReloads.{legal_run}
use Rattle.sound_laws.proofs.Windows.Delayed.{HaveDelays, delayed}

-- a kept run, and for the window of each task sound parts of all tasks
module _ (B : KeptRun) (walks : ℕ → ℕ → WalkPart)
    (sound : (i : ℕ) → AreSound B.set B.graphs (walks i)) where
  open B use {start as s, set, graphs, horizon, in_range as R, code as C, run}

  abbrev pub run_by : ℕ → CheckedRun
  run_by i = checked_run B (walks i) (sound i)

  -- with any of them
  abbrev K : CheckedRun
  K = run_by 0

  module _ (legal : IsLegal set s.lines) where
    abbrev pub block : ℕ → ℕ
    block k = blocking s.system.platform.switching (longest K) k (length set.tasks)

    pub owner_short : (x t : ℕ) → x < length s.lines → t ≤ horizon
        → IsLastQuiet s x (line_at s x).release t → (o : ℕ) → (state s t).owner ≡ Some o
        → middle (job_after s t o)
        ≤ greatest_from (λ k. longest K k - 1) (task_at s x) (length set.tasks)
    owner_short x t h early last o own =
        elim (cases_Bool (is_open (job_after s t o).standing)) [
          | inr over ↦ let z = middle_over (job_after s t o) over in omega (arith, z)
          | inl open_o ↦
              let was = owner_was s t o own in
              let below = was_below s t o was in
              let short = short_at s set graphs R C run.tasks (walks_at K o) o below
              (sound_at K o below) t (kept_at K t o early below) open_o in
              let same : longest_of s.system.platform (graphs (job_task s o))
              ≡ longest_of set.platform (graphs (job_task s o)) =
              ap (λ p. longest_of p (graphs (job_task s o))) C.platform in
              let is = middle_left (job_after s t o) open_o in
              let not_higher : task_at s x ≤ task_at s o =
              elim (cases_lt (task_at s o) (task_at s x)) [
                | inl up ↦
                    let busy : is_busy_by s x t o ≡ true =
                    rw (lt-ltb _ _ up, lt-ltb _ _ (was_released s t o was)) open_o in
                    absurd (false≢true (sym (busy_none s x t (length s.lines) o last.quiet below)
                    ∙ busy))
                | inr g ↦ g
              ] in
              let most = greatest_ge (λ k. longest K k - 1) (task_at s x) (length set.tasks)
              (task_at s o) not_higher (below_tasks K o below) in
              omega (arith, short, same, is, most)
        ]

    pub front_by : (mode : Switching) → s.system.platform.switching ≡ mode → (x t : ℕ)
        → x < length s.lines → t ≤ horizon → IsLastQuiet s x (line_at s x).release t
        → HasShortFront s x t (blocking mode (longest K) (task_at s x) (length set.tasks))
    front_by Cycle e x t h early last = cycle_front s x t 0 e
    front_by Instruction e x t h early last =
        instruction_front s e x t
        (greatest_from (λ k. longest K k - 1) (task_at s x) (length set.tasks))
        (owner_short x t h early last)

    -- with delays that cover the reloads, and for which the windows have room
    module _ (delay : ℕ → ℕ → ℕ) (D : HaveDelays B walks sound delay) where
      -- the delays in a window of a task
      abbrev pub delays : ℕ → ℕ
      delays k = sum_below (delay k) k

      room_at : (k : ℕ) → k < length set.tasks
          → block k + base_demand set s.system.platform.switch (bound_of (run_by k)) k (window K k)
          + delays k ≤ window K k
      room_at k h =
          let r = D.room.room k h in
          let split = sum_add (λ j.
          jobs_of set j (window K k) * (bound_of (run_by k) j + (set.platform.switch + set.platform.switch)))
          (delay k) k in
          let by_set : blocking set.platform.switching (longest K) k (length set.tasks)
          + base_demand set set.platform.switch (bound_of (run_by k)) k (window K k) + delays k
          ≤ window K k = omega (arith, r, split) in
          subst (λ (p : Platform).
          blocking p.switching (longest K) k (length set.tasks) + base_demand set p.switch
          (bound_of (run_by k)) k (window K k) + delays k ≤ window K k) (sym C.platform) by_set

      response_at : (k : ℕ) → k < length set.tasks
          → window K k + jitter_of set k ≤ period_of set k
      response_at k h =
          let d = D.room.in_deadline k h in
          let p = R.deadlines k h in
          omega (arith, d, p)

      pub windows : HasWindows s set (λ i. rest (run_by i)) (λ i. extra (run_by i))
          (λ i. bound_of (run_by i)) (window K) block delays horizon
      windows =
          record {
            fronts = front_by s.system.platform.switching refl;
            fresh = λ k n x early w. fresh (run_by k) n x w;
            room = room_at;
            response = response_at;
            periods = R.periods;
            delays = λ x t from h q a b e covers higher o.
                let by = D.covering x h in
                delayed (run_by (task_at s x)) x t from h a b e covers higher o by.0
                (delay (task_at s x)) by.1;
          }

      sure_over : (x : ℕ) → x < length s.lines
          → (line_at s x).release + window K (task_at s x) ≤ horizon
          → is_open (job_after s ((line_at s x).release + window K (task_at s x)) x).standing
          ≡ false
      sure_over x h l =
          over_in_window s set (legal_run K legal) (λ i. rest (run_by i)) (λ i. extra (run_by i))
          (λ i. bound_of (run_by i)) (window K) block delays horizon
          (λ i. rest_spends (run_by i)) windows x h l

      pub sure_not_late : (x : ℕ) → x < length s.lines
          → (line_at s x).arrival + (window K (task_at s x) + jitter_of set (task_at s x)) ≤ horizon
          → IsAnsweredBy
          ((line_at s x).arrival + (window K (task_at s x) + jitter_of set (task_at s x)))
          (job_after s horizon x).standing
      sure_not_late x h late =
          let times = in_time_at s set (legal_run K legal) x h in
          let by : (line_at s x).release + window K (task_at s x)
          ≤ (line_at s x).arrival + (window K (task_at s x) + jitter_of set (task_at s x)) =
          omega (arith, times.1) in
          let early : (line_at s x).release + window K (task_at s x) ≤ horizon =
          omega (arith, by, late) in
          let over = sure_over x h early in
          let same : (job_after s horizon x).standing
          ≡ (job_after s ((line_at s x).release + window K (task_at s x)) x).standing =
          ap (λ (j : Job). j.standing)
          (over_stays s x ((line_at s x).release + window K (task_at s x)) horizon early over) in
          subst (λ st. IsAnsweredBy
          ((line_at s x).arrival + (window K (task_at s x) + jitter_of set (task_at s x))) st)
          (sym same)
          (answered_in_time K ((line_at s x).release + window K (task_at s x)) _ x
          (job_after s ((line_at s x).release + window K (task_at s x)) x).standing refl over
          (no_fault s set graphs R C run.tasks ((line_at s x).release + window K (task_at s x)) x h
          (kept_at K ((line_at s x).release + window K (task_at s x)) x early h)) by)
