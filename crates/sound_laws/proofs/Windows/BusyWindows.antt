-- Step 7, window_is_busy, switches_are_few, releases_are_few and completes_in_window: what holds of
-- each window, after a yes in a legal and kept run.
use Rattle.std.proofs.Common.{◌≡◌, ℕ, zero, suc, ◌+◌, ◌*◌, ◌<◌, ◌≤◌, true, false, ◌&&◌, length}
use Rattle.std.proofs.Common.{Some, refl, sym, ◌∙◌, ap, subst, inl, inr, arith}
use Rattle.std.proofs.Common.{nat_lt, nat_le}
use Rattle.std.proofs.lemmas.Bool.{cases_eq, cases_lt, false≢true, and_parts, and_from}
use Rattle.std.proofs.lemmas.Bool.{or_cases, eqb-true, leb-true, le-leb, lt-leb, lt-ltb, ltb-true}
use Rattle.crpd_base.specs.declared.data.Certificate.{Certificate}
use Rattle.crpd_base.specs.declared.data.Platform.{Platform}
use Rattle.crpd_base.specs.declared.data.TaskSet.{TaskSet}
use Rattle.delay_count.specs.Demand.{blocking}
use Rattle.loop_regions.specs.TaskGraph.{TaskGraph}
use Rattle.cert_check.specs.JudgeInput.{longest_at, window_at}
use Rattle.cert_check.specs.Verdict.{IsYes}
use Rattle.preempt_machine.specs.Machine.{Job}
use Rattle.preempt_machine.specs.Step.{is_open, Start, state}
use Rattle.preempt_machine.specs.Safe.{IsAnsweredBy, IsKept}
use Rattle.preempt_machine.proofs.Runs.{over_stays}
use Rattle.preempt_machine.proofs.Steps.{candidate_some, ready_open}
use Rattle.run_account.specs.Fetches.{job_after}
use Rattle.run_account.specs.Ledger.{IsWindowStart}
use Rattle.run_account.specs.Nodes.{job_task}
use Rattle.run_account.proofs.Owners.{candidate_at, owner_after, owner_was, was_open}
use Rattle.run_account.proofs.Owners.{was_released}
use Rattle.sound_laws.specs.BusyWindows.{IsOfWindow, IsBusyWindow, WindowIsBusy, is_switch}
use Rattle.sound_laws.specs.BusyWindows.{is_released_in, SwitchesAreFew, ReleasesAreFew}
use Rattle.sound_laws.specs.BusyWindows.{CompletesInWindow}
use Rattle.sound_laws.specs.Walks.{HasTaskRanges, IsCodeOf, RunsLegally}
use Rattle.walk_parts.specs.Parts.{WalkPart}
use Rattle.sound_laws.proofs.Execution.Certified.{yes_meets}
use Rattle.sound_laws.proofs.Reloads.CertifiedRuns.{certified_run, by_parts}
use Rattle.sound_laws.proofs.Walks.CheckedRuns.{AreSound, CheckedRun, answered_in_time, kept_at}
use Rattle.sound_laws.proofs.Walks.CheckedRuns.{run_of}
use Rattle.sound_laws.proofs.Walks.NoFaults.{no_fault}
use Rattle.sound_laws.proofs.Windows.Accounts.{was_below}
use Rattle.sound_laws.proofs.Windows.Busy.{IsLastQuiet, busy_none, in_window, is_busy_by, line_at}
use Rattle.sound_laws.proofs.Windows.Busy.{task_at}
use Rattle.sound_laws.proofs.Windows.Delayed.{HaveDelays}
use Rattle.sound_laws.proofs.Windows.Demands.{releases_few}
use Rattle.sound_laws.proofs.Windows.Releases.{count, count_none}
use Rattle.sound_laws.proofs.Windows.Responses.{HasShortFront}
use Rattle.sound_laws.proofs.Windows.Switches.{few_switches, no_switch}
use Rattle.sound_laws.proofs.Counts.Counting.{count_le}
use Rattle.sound_laws.proofs.Delays.WindowDelays.{base, front, hold_here, is_window, last}
use Rattle.sound_laws.proofs.Delays.WindowDelays.{over_by_end, yes_delay, yes_holds, yes_sound}
use Rattle.sound_laws.proofs.Delays.WindowDelays.{yes_walks}

-- a job of the window, by the test
of_window : (s : Start) (i t to y : ℕ) → in_window s i t to y ≡ true
    → IsOfWindow s i t y
of_window s i t to y b =
    elim (or_cases _ _ b) [
      | inl q ↦ inl (eqb-true y i q)
      | inr q ↦
          let both = and_parts (nat_lt (task_at s y) (task_at s i)) _ q in
          let times = and_parts (nat_le t (line_at s y).release) _ both.1 in
          inr (ltb-true _ _ both.0, leb-true _ _ times.0)
    ]

-- in the front of a window the owner stays, so there is no switch
module _ (s : Start) (i t most : ℕ) (front : HasShortFront s i t most) where
  same_owner : (n : ℕ) → t ≤ n → n ≤ front.from → (state s n).owner ≡ (state s t).owner
  same_owner zero f l = let z : 0 ≡ t = omega arith in ap (λ k. (state s k).owner) z
  same_owner (suc n) f l =
      elim (cases_eq t (suc n)) [
        | inl e ↦ ap (λ k. (state s k).owner) (sym e)
        | inr ne ↦
            let on = front.owner n (omega arith) (omega arith) in
            owner_after s n on.job on.is_candidate ∙ sym on.owner
      ]

  no_switch_in_front : (n : ℕ) → t ≤ n → n < front.from → is_switch s n ≡ false
  no_switch_in_front n f l =
      let on = front.owner n f l in
      no_switch s n on.job on.is_candidate (same_owner n f (omega arith) ∙ on.owner)

-- the job of the front is of the task of the window's job or of a lower one
not_higher : (s : Start) (i t n y : ℕ) → IsLastQuiet s i (line_at s i).release t → t ≤ n
    → (state s t).owner ≡ Some y → candidate_at s n ≡ Some y → task_at s i ≤ task_at s y
not_higher s i t n y last f own e =
    elim (cases_lt (task_at s y) (task_at s i)) [
      | inr g ↦ g
      | inl up ↦
          let was = owner_was s t y own in
          let opened = was_open s t n y f (ready_open (state s n).time (job_after s n y)
          (candidate_some s.system (state s n) y e).ready) in
          let busy : is_busy_by s i t y ≡ true =
          rw (lt-ltb _ _ up, lt-ltb _ _ (was_released s t y was)) opened in
          absurd (false≢true
          (sym (busy_none s i t (length s.lines) y last.quiet (was_below s t y was)) ∙ busy))
    ]

-- a legal and kept run of an accepted set
module _ (s : Start) (set : TaskSet) (graphs : ℕ → TaskGraph) (c : Certificate) (n : ℕ)
    (R : HasTaskRanges set) (C : IsCodeOf s.system set graphs) (says : IsYes set graphs c)
    (run : RunsLegally set s) (kept : IsKept (state s n)) where
  abbrev K : CheckedRun
  K =
      by_parts (certified_run s set graphs c n R C (yes_meets set graphs c says) (run_of run) kept)

  abbrev walks : ℕ → ℕ → WalkPart
  walks = yes_walks s.system set graphs c C says

  abbrev sound : (i : ℕ) → AreSound set graphs (yes_walks s.system set graphs c C says i)
  sound = yes_sound s.system set graphs c C says

  abbrev delay : ℕ → ℕ → ℕ
  delay = yes_delay s.system set graphs c C says

  have_delays : HaveDelays (base K) walks sound delay
  have_delays =
      hold_here set graphs (window_at c) walks sound delay
      (yes_holds s.system set graphs c C says) s n R C run kept

  module _ (i t : ℕ) (h : i < length s.lines) (starts : IsWindowStart s i t) where
    completes : t + window_at c (job_task s i) ≤ n
        → IsAnsweredBy (t + window_at c (job_task s i)) (job_after s n i).standing
    completes l =
        let over = over_by_end K run.legal walks sound delay have_delays i t h starts l in
        let same : (job_after s n i).standing
        ≡ (job_after s (t + window_at c (job_task s i)) i).standing =
        ap (λ (j : Job). j.standing) (over_stays s i (t + window_at c (job_task s i)) n l over) in
        subst (λ st. IsAnsweredBy (t + window_at c (job_task s i)) st) (sym same)
        (answered_in_time K (t + window_at c (job_task s i)) (t + window_at c (job_task s i)) i
        (job_after s (t + window_at c (job_task s i)) i).standing refl over
        (no_fault s set graphs R C run.tasks (t + window_at c (job_task s i)) i h
        (kept_at K (t + window_at c (job_task s i)) i l h)) (omega arith))

    -- while the job is open
    module _ (open_before : (m : ℕ) → m < n → is_open (job_after s m i).standing ≡ true)
        (begun : t ≤ n) where
      abbrev most : ℕ
      most =
          blocking s.system.platform.switching (longest_at set.platform graphs) (job_task s i)
          (length set.tasks)

      here : HasShortFront s i t most
      here = front K run.legal walks sound delay have_delays i t h starts open_before begun

      busy_here : IsBusyWindow s i t n most
      unfolding here
      busy_here =
          let w = is_window K run.legal walks sound delay have_delays i t h starts open_before
          begun in
          record {
            from = here.from;
            front = record {
              after = here.after;
              each = λ m f l.
                  let on = here.owner m f l in record {
                    job = on.job;
                    is_candidate = on.is_candidate;
                    owner = on.owner;
                    not_higher =
                        not_higher s i t m on.job
                        (last K run.legal walks sound delay have_delays i t h starts) f on.owner
                        on.is_candidate;
                    under_way = on.under_way;
                  };
              no_fetch = λ m f g l e. here.no_fetch m f g l e;
            };
            short = here.short;
            busy = λ m g l.
                let y = w.covers.within m g l (open_before m l) in
                (y.0, y.1, of_window s i t n y.0 y.2);
          }

      switches_here : count (λ m. nat_le t m && is_switch s m) n
          ≤ 1 + 2 * count (λ y. nat_lt (task_at s y) (task_at s i)
          && is_released_in s t n y) (length s.lines)
      unfolding here
      switches_here =
          let w = is_window K run.legal walks sound delay have_delays i t h starts open_before
          begun in
          let few = few_switches s i t here.from n w.covers open_before in
          let le = count_le (λ m. nat_le t m && is_switch s m)
          (λ m. nat_le here.from m && is_switch s m) n (λ m l b.
          let both = and_parts (nat_le t m) (is_switch s m) b in
          elim (cases_lt m here.from) [
            | inl early ↦
                let none = no_switch_in_front s i t most here m (leb-true t m both.0) early in
                absurd (false≢true (sym none ∙ both.1))
            | inr g ↦ and_from (nat_le here.from m) _ (le-leb here.from m g) both.1
          ]) in
          omega (arith, few, le)

pub window_is_busy : WindowIsBusy
window_is_busy s set graphs c i t until says W =
    elim (cases_lt until t) [
      | inl l ↦ record {
        from = t;
        front = record {
          after = omega arith;
          each = λ n f e. absurd (omega arith);
          no_fetch = λ n f g e q. absurd (omega arith);
        };
        short = omega arith;
        busy = λ n g e. absurd (omega arith);
      }
      | inr g ↦
          subst (λ (p : Platform). IsBusyWindow s i t until
          (blocking p.switching (longest_at set.platform graphs) (job_task s i)
          (length set.tasks))) W.code.platform
          (busy_here s set graphs c until W.in_range W.code says W.run W.kept i t W.job W.starts
          W.open_before g)
    ]

pub switches_are_few : SwitchesAreFew
switches_are_few s set graphs c i t until says W =
    elim (cases_lt until t) [
      | inl l ↦
          let none = count_none (λ n. nat_le t n && is_switch s n) until
          (λ n k. rw (lt-leb t n (omega arith)) refl) in
          omega (arith, none)
      | inr g ↦
          switches_here s set graphs c until W.in_range W.code says W.run W.kept i t W.job W.starts
          W.open_before g
    ]

pub releases_are_few : ReleasesAreFew
releases_are_few s set t w j run some = releases_few s set run t w j (omega arith)

pub completes_in_window : CompletesInWindow
completes_in_window s set graphs c n i t A run kept h starts l =
    completes s set graphs c n A.in_range A.code A.says run kept i t h starts l
