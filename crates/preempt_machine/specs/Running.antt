-- A machine that runs, and the effect of its steps.
use Rattle.std.specs.Prelude.{◌≡◌, ℕ, zero, suc, ◌<◌, ◌≤◌, if◌then◌else◌, length, List}
use Rattle.std.specs.Prelude.{slice_index_or, [], Option, Some, None, option_map}
use Rattle.crpd_base.specs.declared.data.JobId.{JobId}
use Rattle.crpd_base.specs.declared.data.Platform.{Platform}
use Rattle.crpd_base.specs.declared.data.ScriptJob.{ScriptJob}
use Rattle.crpd_base.specs.declared.data.TaskPlan.{TaskPlan}
use Rattle.crpd_base.specs.declared.data.TaskSet.{TaskSet}
use Rattle.rv_core.specs.Effect.{IsStore}
use Rattle.rv_core.specs.Memory.{Memory}
use Rattle.rv_decode.specs.declared.Ins.{Ins}
use Rattle.icache.specs.Cache.{Cache, block_of, is_hit}
use Rattle.icache.specs.declared.Access.{Access}
use Rattle.icache.specs.declared.Access.TheVariants.{Hit, Miss}
use Rattle.code_map.specs.Words.{Code, word_at}
use Rattle.flow_watch.specs.Iterations.{HasIterations}
use Rattle.preempt_machine.specs.declared.Completion.{Completion}
use Rattle.preempt_machine.specs.declared.Fetch as told
use Rattle.preempt_machine.specs.Machine.{System, Job, Machine, ins_at, job_at, start_machine}
use Rattle.preempt_machine.specs.Step as step
use Rattle.preempt_machine.specs.Step.{candidate, Turn, turn_of, turn_after_fetch}
use Rattle.preempt_machine.specs.Candidate.{task_of, release_of, job_number}
use Rattle.preempt_machine.specs.Safe.{end_by, system_of}

-- the platform, the state, and the fetch of the last step made
pub record Running : Type 0 where
  pub platform : Platform
  pub state : Machine
  pub fetch : Option told.Fetch

-- the machine's system, from a platform and the code of the tasks' files
abbrev pub system_by : Platform → Code → System
system_by platform code = record {
  platform = platform;
  plans = code.plans;
  word = word_at code.images;
}

-- the job at a place of the script, by its task and its number
abbrev pub job_id : Machine → ℕ → JobId
job_id m x = record { task = record { 0 = task_of m x }; number = job_number m x }

-- what an access to an address finds
abbrev pub access_by : Platform → Cache → ℕ → Access
access_by p cache address = if is_hit p cache (block_of p address) then Hit else Miss

-- a fetch, with what it found in the cache
abbrev pub fetch_told : System → Machine → step.Fetch → told.Fetch
fetch_told sys m f =
    record {
      job = job_id m f.job;
      address = f.address;
      access = access_by sys.platform m.cache f.address;
    }

-- the machine at the start of a run
abbrev pub start_of : TaskSet → Code → Cache → Memory → List ScriptJob → Running
start_of set code cache memory lines =
    record {
      platform = set.platform;
      state = start_machine (system_of set code) cache memory lines;
      fetch = None;
    }

-- the machine after one step
abbrev pub running_after_step : Code → Running → Running
running_after_step code r =
    let sys = system_by r.platform code in
    record {
      platform = r.platform;
      state = step.step sys r.state;
      fetch = option_map (fetch_told sys r.state) (step.fetch sys r.state);
    }

-- the machine after n steps
abbrev pub running_after_steps : ℕ → Code → Running → Running
running_after_steps zero code r = r
running_after_steps (suc n) code r = running_after_step code (running_after_steps n code r)

-- a job's task has a plan, with as many stated loops as the job's watch follows
pub record HasPlan (plans : List TaskPlan) (job : Job) : Type 0 where
  pub task : job.line.task.0 < length plans
  pub loops : HasIterations
      (length (slice_index_or plans job.line.task.0
      (record { entry = 0; stack = 0; global = 0; loops = [] })).loops) job.watch

-- each job's task has such a plan
abbrev pub HasPlans : Code → Machine → Type 0
HasPlans code m = (x : ℕ) → x < length m.jobs → HasPlan code.plans (job_at m.jobs x)

-- the turn gives a store its effect
pub record IsStoreNow (sys : System) (t : Turn) : Type 0 where
  pub ins : Ins
  pub instruction : ins_at sys t.job.pc ≡ Some ins
  pub last : (turn_after_fetch sys ins t).job.left ≤ 1
  pub store : IsStore ins

-- the step gives a store its effect: the last cycle of a store of the candidate, with no switch
-- cycle left
pub record GivesStore (sys : System) (m : Machine) : Type 0 where
  pub place : ℕ
  pub is_candidate : candidate sys m ≡ Some place
  pub switched : (turn_of sys m place).switch_left ≡ 0
  pub store : IsStoreNow sys (turn_of sys m place)

-- the machine after some of n steps, before one that gives a store its effect
pub record StopsAtStore (code : Code) (n : ℕ) (old new : Running) : Type 0 where
  pub made : ℕ
  pub fewer : made < n
  pub state : new ≡ running_after_steps made code old
  pub store : GivesStore (system_by old.platform code) new.state

-- the completion of the job at a place
abbrev pub completion_at : Machine → ℕ → Completion
completion_at m x = record {
  job = job_id m x;
  «end» = end_by m.time (release_of m x) (job_at m.jobs x).standing;
}

-- the job of this task and number is at a place of the script
pub record IsJobAt (m : Machine) (job : JobId) (x : ℕ) : Type 0 where
  pub below : x < length m.jobs
  pub task : job.task.0 ≡ task_of m x
  pub number : job.number ≡ job_number m x
