-- How a schedule represents a state, and what its calls record in it.
use Rattle.std.specs.Prelude.{◌≡◌, ◌≢◌, ℕ, suc, ◌<◌, ◌≤◌, Bool, true, false, if◌then◌else◌}
use Rattle.std.specs.Prelude.{length, map, List, slice_set, Option, Some, None, MatchOption, ⊤}
use Rattle.crpd_base.specs.declared.data.ScriptJob.{ScriptJob}
use Rattle.crpd_base.specs.declared.data.Switching.{Switching}
use Rattle.icache.specs.Cache.{Cache}
use Rattle.rv_core.specs.Memory.{Memory}
use Rattle.preempt_machine.specs.declared.Completion.{Completion}
use Rattle.preempt_machine.specs.declared.End.TheVariants as «end»
use Rattle.preempt_machine.specs.declared.schedule.Schedule.{Schedule}
use Rattle.preempt_machine.specs.Machine.{Job, Machine, job_at}
use Rattle.preempt_machine.specs.Step.{is_open, is_ready, keeps_core}
use Rattle.preempt_machine.specs.Jobs.{end_of_standing}
use Rattle.preempt_machine.specs.Running.{completion_at}
use Rattle.preempt_machine.specs.Schedule.{script_line, completion}
use Rattle.preempt_machine.specs.declared.queue.Due.{Due}
use Rattle.preempt_machine.specs.Inner.Queue.{due_release, due_place, due_task, position_at}
use Rattle.preempt_machine.specs.Inner.Queue.{heads_without, IsReleaseOrder, IsLinked, HasHead}
use Rattle.preempt_machine.specs.Inner.Queue.{IsUpTo}

-- the lines of jobs
abbrev pub script_lines : List Job → List ScriptJob
script_lines jobs = map (λ (job : Job). job.line) jobs

-- the state of a schedule with a cache and a data memory
abbrev pub machine_by : Cache → Memory → Schedule → Machine
machine_by cache memory s =
    record {
      time = s.steps;
      cache = cache;
      memory = memory;
      owner = s.owner;
      switch_left = s.switch_left;
      jobs = s.jobs.items;
    }

-- a position is before that of a task's first open job; each is if none is open
abbrev pub IsPast : Option ℕ → ℕ → Type 0
IsPast head p = MatchOption head ⊤ (λ q. p < q)

-- it is that position or a later one
abbrev pub IsFrom : Option ℕ → ℕ → Type 0
IsFrom head p = MatchOption head ⊥ (λ q. q ≤ p)

-- the position of each task's first job that is open, if there is one; the jobs before it have
-- ended
pub record HasTaskHeads (lines : List ScriptJob) (due : List Due) (heads : List (Option ℕ))
    (jobs : List Job) : Type 0 where
  pub tasks : (x : ℕ) → x < length lines → (script_line lines x).task.0 < length heads
  pub inside : (t p : ℕ) → t < length heads → position_at heads t ≡ Some p → p < length due
  pub head : (t p : ℕ) → t < length heads → position_at heads t ≡ Some p → due_task lines due p ≡ t
  pub over : (p : ℕ) → p < length due → IsPast (position_at heads (due_task lines due p)) p
      → is_open (job_at jobs (due_place due p)).standing ≡ false
  pub open_still : (p : ℕ) → p < length due → IsFrom (position_at heads (due_task lines due p)) p
      → is_open (job_at jobs (due_place due p)).standing ≡ true

-- an owner is a job of the script, and the first of its task while it is open
pub record IsOwner (jobs : List Job) (due : List Due) (heads : List (Option ℕ))
    (o : ℕ) : Type 0 where
  pub below : o < length jobs
  pub first : is_open (job_at jobs o).standing ≡ true
      → HasHead due heads (job_at jobs o).line.task.0 o

-- a job of the script is the first of its task that is open
pub record IsHead (jobs : List Job) (due : List Due) (heads : List (Option ℕ))
    (x : ℕ) : Type 0 where
  pub below : x < length jobs
  pub first : HasHead due heads (job_at jobs x).line.task.0 x

-- how a state is represented by the order of its jobs and their completions, in a cache with room
-- for at least `sets` sets
pub record IsRepresented (sets : ℕ) (m : Machine) (order : List Due)
    (links firsts : List (Option ℕ)) (count : ℕ) (cs : List Completion) : Type 0 where
  pub room : sets ≤ length m.cache
  pub due : IsReleaseOrder (script_lines m.jobs) order
  pub linked : IsLinked (script_lines m.jobs) order links
  pub waiting : HasTaskHeads (script_lines m.jobs) order firsts m.jobs
  pub released : IsUpTo order m.time count
  pub over : (x : ℕ) → x < length m.jobs → is_open (job_at m.jobs x).standing ≡ false
      → (job_at m.jobs x).line.release < m.time
  pub told : length cs ≡ length m.jobs
  pub completions : (x : ℕ) → x < length m.jobs → completion cs x ≡ completion_at m x
  pub owner : (o : ℕ) → m.owner ≡ Some o → IsOwner m.jobs order firsts o

-- a schedule represents a state, with its order and completions
abbrev pub IsScheduled : ℕ → Cache → Memory → Schedule → Type 0
IsScheduled sets cache memory s =
    IsRepresented sets (machine_by cache memory s) s.queue.due.items s.queue.later.items
    s.queue.heads.items s.queue.released s.completions.items

-- whether the owner keeps the core
abbrev pub owner_keeps : Switching → ℕ → List Job → Option ℕ → Bool
owner_keeps switching time jobs None = false
owner_keeps switching time jobs (Some o) = keeps_core switching time (job_at jobs o)

-- no job is ready at a time
abbrev pub NoneIsReady : ℕ → List Job → Type 0
NoneIsReady time jobs = (x : ℕ) → is_ready time (job_at jobs x) ≡ false

-- a completion, recorded as open
abbrev pub open_completion : Completion → Completion
open_completion c = record { job = c.job; «end» = «end».Open }

-- the jobs at the positions from one up to another are recorded as open, and no others
pub record HasOpened (due : List Due) (from to : ℕ) (old new : List Completion) : Type 0 where
  pub long : length new ≡ length old
  pub same : (x : ℕ) → (completion new x).job ≡ (completion old x).job
  pub those : (p : ℕ) → from ≤ p → p < to
      → completion new (due_place due p) ≡ open_completion (completion old (due_place due p))
  pub others : (x : ℕ) → ((p : ℕ) → from ≤ p → p < to → due_place due p ≢ x)
      → completion new x ≡ completion old x

-- the jobs that are released in a step are recorded as open
pub record AreReleased (due : List Due) (time from to : ℕ)
    (cs new : List Completion) : Type 0 where
  pub opens : HasOpened due from to cs new
  pub rises : from ≤ to
  pub within : from ≤ length due → to ≤ length due
  pub come : (p : ℕ) → from ≤ p → p < to → due_release due p ≤ time
  pub wait : to < length due → time < due_release due to

-- the jobs that are released in a step are recorded as open, and nothing else changes
pub record HasToldReleases (old new : Schedule) : Type 0 where
  pub steps : new.steps ≡ old.steps
  pub owner : new.owner ≡ old.owner
  pub switch_left : new.switch_left ≡ old.switch_left
  pub jobs : new.jobs ≡ old.jobs
  pub due : new.queue.due.items ≡ old.queue.due.items
  pub later : new.queue.later.items ≡ old.queue.later.items
  pub heads : new.queue.heads.items ≡ old.queue.heads.items
  pub released : AreReleased old.queue.due.items old.steps old.queue.released new.queue.released
      old.completions.items new.completions.items

-- a cycle has passed: the jobs that are released in it are recorded as open, and it is counted
pub record HasPassed (old new : Schedule) : Type 0 where
  pub state : (cache : Cache) (memory : Memory)
      → machine_by cache memory new ≡ record (machine_by cache memory old) { time = suc old.steps }
  pub due : new.queue.due.items ≡ old.queue.due.items
  pub later : new.queue.later.items ≡ old.queue.later.items
  pub heads : new.queue.heads.items ≡ old.queue.heads.items
  pub released : AreReleased old.queue.due.items old.steps old.queue.released new.queue.released
      old.completions.items new.completions.items

-- the first open jobs of the tasks, once it is recorded whether the job at a place has ended
abbrev pub heads_after : List Job → List (Option ℕ) → List (Option ℕ) → ℕ → List (Option ℕ)
heads_after jobs later heads x =
    let task = (job_at jobs x).line.task.0 in
    if is_open (job_at jobs x).standing then heads else heads_without later heads task

-- the completions after that
abbrev pub completions_after : List Job → List Completion → ℕ → List Completion
completions_after jobs cs x =
    if is_open (job_at jobs x).standing then cs
    else slice_set cs x (record {
      job = (completion cs x).job;
      «end» = end_of_standing (job_at jobs x).standing;
    })

-- the first job of its task is recorded as ended if it is, and nothing else changes
pub record HasToldEnd (old new : Schedule) (place : ℕ) : Type 0 where
  pub state : (cache : Cache) (memory : Memory)
      → machine_by cache memory new ≡ machine_by cache memory old
  pub due : new.queue.due.items ≡ old.queue.due.items
  pub later : new.queue.later.items ≡ old.queue.later.items
  pub released : new.queue.released ≡ old.queue.released
  pub heads : new.queue.heads.items
      ≡ heads_after old.jobs.items old.queue.later.items old.queue.heads.items place
  pub completions : new.completions.items
      ≡ completions_after old.jobs.items old.completions.items place
