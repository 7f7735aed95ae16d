-- For steps 4 to 7: a kept run of a checked set, as one record, and the invariants of its jobs.
use Rattle.std.proofs.Common.{◌≡◌, ℕ, ◌<◌, ◌≤◌, ◌≢◌, true, false, length, Some}
use Rattle.std.proofs.Common.{refl, sym, ap, subst, arith}
use Rattle.std.proofs.lemmas.Bool.{true≢false}
use Rattle.std.proofs.lemmas.List.{get_or_past}
use Rattle.crpd_base.specs.declared.data.Platform.{Platform}
use Rattle.crpd_base.specs.declared.data.TaskSet.{TaskSet}
use Rattle.flow_watch.specs.Watch.{is_unbroken}
use Rattle.crpd_base.specs.declared.data.Part.{Part}
use Rattle.loop_regions.specs.TaskGraph.{TaskGraph}
use Rattle.cert_check.specs.JudgeInput.{longest_at}
use Rattle.preempt_machine.specs.Machine.{Standing, Open, Answered, Faulted, Job, no_job}
use Rattle.preempt_machine.specs.Step.{is_open, Start, state}
use Rattle.preempt_machine.specs.Safe.{NamesTasks, IsRunOf, IsLegalRun, IsAnsweredBy, IsKept}
use Rattle.run_account.specs.Fetches.{job_after, HasCache}
use Rattle.run_account.proofs.Jobs.{jobs_length}
use Rattle.run_account.proofs.Owners.{candidate_at}
use Rattle.run_account.proofs.AnswerTimes.{answered_by}
use Rattle.run_account.specs.Nodes.{job_task}
use Rattle.walk_parts.specs.Parts.{WalkPart, IsSoundPart}
use Rattle.sound_laws.specs.Walks.{HasTaskRanges, IsCodeOf, RunsLegally}
use Rattle.sound_laws.proofs.Windows.Busy.{task_at}
use Rattle.run_account.proofs.JobWalks.{each_kept, opened}
use Rattle.run_account.proofs.ReloadFacts.{kept_at as kept_then}
use Rattle.sound_laws.proofs.Walks.KeptWalks.{below_at, task_below}

-- what is required of a run: a cache with an entry for each of the platform's sets, and jobs of the
-- set's tasks
pub record RunsJobsOf (set : TaskSet) (s : Start) : Type 0 where
  pub cache : s.system.platform.sets ≤ length s.cache
  pub tasks : NamesTasks set s.lines

-- a run of a set with its code and the code's graphs, with a window for each task: it is kept up to
-- the horizon
pub record KeptRun : Type 0 where
  pub start : Start
  pub set : TaskSet
  pub graphs : ℕ → TaskGraph
  pub windows : ℕ → ℕ
  pub horizon : ℕ
  pub in_range : HasTaskRanges set
  pub code : IsCodeOf start.system set graphs
  pub run : RunsJobsOf set start
  pub kept : IsKept (state start horizon)

-- each task has a sound part
abbrev pub AreSound : TaskSet → (ℕ → TaskGraph) → (ℕ → WalkPart) → Type 0
AreSound set graphs walks =
    (k : ℕ) → k < length set.tasks → IsSoundPart set.platform (graphs k) (walks k)

-- such a run, with a sound part for each task
pub record CheckedRun : Type 0 where
  pub start : Start
  pub set : TaskSet
  pub graphs : ℕ → TaskGraph
  pub windows : ℕ → ℕ
  pub walks : ℕ → WalkPart
  pub horizon : ℕ
  pub in_range : HasTaskRanges set
  pub code : IsCodeOf start.system set graphs
  pub sound : AreSound set graphs walks
  pub run : RunsJobsOf set start
  pub kept : IsKept (state start horizon)

abbrev pub checked_run : (B : KeptRun) (walks : ℕ → WalkPart) → AreSound B.set B.graphs walks
    → CheckedRun
checked_run B walks sound =
    record {
      start = B.start;
      set = B.set;
      graphs = B.graphs;
      windows = B.windows;
      walks = walks;
      horizon = B.horizon;
      in_range = B.in_range;
      code = B.code;
      sound = sound;
      run = B.run;
      kept = B.kept;
    }

-- the record of these parts
abbrev pub kept_run : (s : Start) (set : TaskSet) (graphs : ℕ → TaskGraph) (windows : ℕ → ℕ)
    (n : ℕ) → HasTaskRanges set → IsCodeOf s.system set graphs → RunsJobsOf set s
    → IsKept (state s n) → KeptRun
kept_run s set graphs windows n R C run kept =
    record {
      start = s;
      set = set;
      graphs = graphs;
      windows = windows;
      horizon = n;
      in_range = R;
      code = C;
      run = run;
      kept = kept;
    }

module _ (K : CheckedRun) where
  open K use {
    start as s,
    set,
    graphs,
    walks,
    windows,
    horizon,
    in_range as R,
    code as C,
    sound,
    run,
    kept,
  }

  abbrev pub window : ℕ → ℕ
  window k = windows k

  abbrev pub parts : ℕ → Part
  parts k = (walks k).part

  abbrev pub longest : ℕ → ℕ
  longest = longest_at set.platform graphs

  abbrev pub bound_of : ℕ → ℕ
  bound_of k = (walks k).part.bound

  pub some_sets : 0 < s.system.platform.sets
  some_sets = subst (λ (p : Platform). 1 ≤ p.sets) (sym C.platform) R.sets

  pub cached_run : HasCache s
  cached_run = record { size = run.cache; some_set = some_sets }

  pub below_tasks : (x : ℕ) → x < length s.lines → task_at s x < length set.tasks
  below_tasks x h = task_below s set graphs R C run.tasks x h

  -- the part of a job's task
  abbrev pub walks_at : ℕ → WalkPart
  walks_at x = walks (job_task s x)

  pub sound_at : (x : ℕ) → x < length s.lines
      → IsSoundPart s.system.platform (graphs (job_task s x)) (walks_at x)
  sound_at x h =
      subst (λ (p : Platform). IsSoundPart p (graphs (job_task s x)) (walks (job_task s x)))
      (sym C.platform) (sound (job_task s x) (below_tasks x h))

  pub is_opened : (n x : ℕ) → candidate_at s n ≡ Some x → is_open (job_after s n x).standing ≡ true
  is_opened n x e = opened s graphs n x e

  pub is_below : (n x : ℕ) → candidate_at s n ≡ Some x → x < length s.lines
  is_below n x e = below_at s set graphs R C run.tasks n x e

  pub kept_at : (n x : ℕ) → n ≤ horizon → x < length s.lines
      → is_unbroken (job_after s n x).watch ≡ true
  kept_at n x l h = each_kept s graphs n x h (kept_then s graphs n horizon l kept)

  pub past_over : (n x : ℕ) → length s.lines ≤ x → is_open (job_after s n x).standing ≡ false
  past_over n x g =
      ap (λ (j : Job). is_open j.standing)
      (get_or_past (state s n).jobs x no_job (omega (arith, jobs_length s n)))

  pub sets_same : s.system.platform.sets ≡ set.platform.sets
  sets_same = ap (λ (p : Platform). p.sets) C.platform

  pub answered_in_time : (m d x : ℕ) (st : Standing) → (job_after s m x).standing ≡ st
      → is_open st ≡ false → st ≢ Faulted → m ≤ d → IsAnsweredBy d st
  answered_in_time m d x Open e o f l = absurd (true≢false o)
  answered_in_time m d x (Answered a) e o f l = let b = answered_by s m x a e in omega (arith, b)
  answered_in_time m d x Faulted e o f l = absurd (f refl)

pub run_of : {set : TaskSet} {s : Start} → RunsLegally set s → RunsJobsOf set s
run_of run = record { cache = run.cache; tasks = run.tasks }

-- the data memory does not matter
pub runs_jobs : {set : TaskSet} {s : Start} → IsRunOf set s → RunsJobsOf set s
runs_jobs run = record { cache = run.cache; tasks = run.tasks }

pub runs_legally : {set : TaskSet} {s : Start} → IsLegalRun set s → RunsLegally set s
runs_legally run = record { cache = run.cache; tasks = run.tasks; legal = run.legal }
