-- yes_is_safe, the headline: if the checker accepts, no job is late.
use Rattle.std.proofs.Common.{◌≡◌, ℕ, ◌+◌, ◌<◌, ◌≤◌, List, length, sym, ◌∙◌, subst, arith}
use Rattle.std.specs.Prelude.{slice_index, All}
use Rattle.std.proofs.lemmas.List.{get_or_default, get_or-map}
use Rattle.crpd_base.specs.declared.data.ScriptJob.{ScriptJob}
use Rattle.crpd_base.specs.declared.data.TaskSet.{TaskSet}
use Rattle.crpd_base.specs.Tasks.{jitter_of}
use Rattle.crpd_base.specs.Arrivals.{IsLegal}
use Rattle.crpd_base.specs.declared.data.TaskPart.{TaskPart}
use Rattle.crpd_base.specs.declared.data.Certificate.{Certificate}
use Rattle.loop_regions.specs.TaskGraph.{TaskGraph}
use Rattle.cert_check.specs.JudgeInput.{window_at, responses}
use Rattle.cert_check.specs.declared.outcome.Clause.TheVariants.{HasTask, Response}
use Rattle.cert_check.specs.Verdict.{IsYes}
use Rattle.evict_sets.specs.ListedPart.{certified_task, no_task_part}
use Rattle.preempt_machine.specs.Machine.{System, Job, no_job}
use Rattle.preempt_machine.specs.Step.{state}
use Rattle.preempt_machine.specs.Safe.{IsAnsweredBy, IsLate, IsSafe}
use Rattle.run_account.specs.Fetches.{job_after}
use Rattle.run_account.proofs.Jobs.{jobs_length, line_is}
use Rattle.sound_laws.specs.Walks.{HasTaskRanges, IsCodeOf}
use Rattle.sound_laws.specs.Headline.{YesIsSafe}
use Rattle.sound_laws.proofs.Windows.Busy.{line_at, task_at}
use Rattle.walk_parts.specs.Parts.{WalkPart}
use Rattle.sound_laws.proofs.Walks.CheckedRuns.{KeptRun, AreSound, kept_run, runs_legally, run_of}
use Rattle.sound_laws.proofs.Walks.CheckedRuns.{below_tasks}
use Rattle.sound_laws.proofs.Windows.InTime.{run_by, sure_not_late}
use Rattle.sound_laws.proofs.Windows.Delayed.{HaveDelays}
use Rattle.sound_laws.proofs.Delays.WindowDelays.{HoldInRuns, hold_here, yes_walks, yes_sound}
use Rattle.sound_laws.proofs.Delays.WindowDelays.{yes_delay, yes_holds}

response_is : (set : TaskSet) (graphs : ℕ → TaskGraph) (c : Certificate) → IsYes set graphs c
    → (k : ℕ) → k < length set.tasks → slice_index (responses c) k ≡ window_at c k + jitter_of set k
response_is set graphs c says k h =
    let l = says k HasTask h in
    let at : slice_index (responses c) k ≡ (certified_task c k).response =
    get_or-map (λ (t : TaskPart). t.response) c.tasks k no_task_part 0 l in
    at ∙ says k Response h

-- each job of a run is not late by windows with such delays, with their jitters
module _ (B : KeptRun) (walks : ℕ → ℕ → WalkPart)
    (sound : (i : ℕ) → AreSound B.set B.graphs (walks i)) (legal : IsLegal B.set B.start.lines)
    (delay : ℕ → ℕ → ℕ) (D : HaveDelays B walks sound delay) (responses : List ℕ)
    (are : (k : ℕ) → k < length B.set.tasks
    → slice_index responses k ≡ B.windows k + jitter_of B.set k) where
  open B use {start as s, set, horizon}

  safe_at : All (λ (job : Job). ¬ IsLate horizon (slice_index responses job.line.task.0) job)
      (state s horizon).jobs
  safe_at k d l =
      let h : k < length s.lines = omega (arith, l, jobs_length s horizon) in
      let response = are (task_at s k) (below_tasks (run_by B walks sound 0) k h) in
      rw (get_or_default (state s horizon).jobs k d no_job l)
      (let same : (job_after s horizon k).line ≡ line_at s k =
      line_is s horizon k h ∙ sym (line_is s 0 k h) in
      λ late.
      let late_by : (line_at s k).arrival + slice_index responses (task_at s k) ≤ horizon =
      subst (λ (x : ScriptJob). x.arrival + slice_index responses x.task.0 ≤ horizon)
      same late.0 in
      let answered = sure_not_late B walks sound legal delay D k h (omega (arith, late_by, response)) in
      late.1 (subst (λ (x : ScriptJob).
      IsAnsweredBy (x.arrival + slice_index responses x.task.0)
      (job_after s horizon k).standing) (sym same)
      (subst (λ r. IsAnsweredBy ((line_at s k).arrival + r) (job_after s horizon k).standing)
      (sym response) answered)))

-- a set with its code is safe with the responses of such windows
pub windows_are_safe : (sys : System) (set : TaskSet) (graphs : ℕ → TaskGraph) (window : ℕ → ℕ)
    (walks : ℕ → ℕ → WalkPart) (sound : (i : ℕ) → AreSound set graphs (walks i))
    (delay : ℕ → ℕ → ℕ) (responses : List ℕ) → HasTaskRanges set → IsCodeOf sys set graphs
    → HoldInRuns set graphs window walks sound delay
    → ((k : ℕ) → k < length set.tasks → slice_index responses k ≡ window k + jitter_of set k)
    → IsSafe sys set responses
windows_are_safe sys set graphs window walks sound delay responses R C H are s n same run kept =
    let C' : IsCodeOf s.system set graphs = subst (λ x. IsCodeOf x set graphs) (sym same) C in
    safe_at (kept_run s set graphs window n R C' (run_of (runs_legally run)) kept) walks sound
    run.legal delay
    (hold_here set graphs window walks sound delay H s n R C' (runs_legally run) kept)
    responses are

pub yes_is_safe : YesIsSafe
yes_is_safe sys set graphs c A =
    let says = A.says in
    windows_are_safe sys set graphs (window_at c) (yes_walks sys set graphs c A.code A.says)
    (yes_sound sys set graphs c A.code A.says) (yes_delay sys set graphs c A.code A.says)
    (responses c) A.in_range A.code (yes_holds sys set graphs c A.code A.says)
    (response_is set graphs c says)
