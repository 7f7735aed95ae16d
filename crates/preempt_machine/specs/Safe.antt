-- Properties of states and runs: completions, kept, late, safe.
use Rattle.std.specs.Prelude.{◌≡◌, ℕ, ◌+◌, ◌<◌, ◌≤◌, true, if◌then◌else◌, nat_le, List, length, map}
use Rattle.std.specs.Prelude.{slice_index, All}
use Rattle.crpd_base.specs.declared.data.ScriptJob.{ScriptJob}
use Rattle.crpd_base.specs.declared.data.TaskSet.{TaskSet}
use Rattle.rv_core.specs.Memory.{IsMemory}
use Rattle.code_map.specs.Words.{Code, word_at}
use Rattle.flow_watch.specs.Watch.{is_unbroken}
use Rattle.crpd_base.specs.Arrivals.{IsLegal}
use Rattle.preempt_machine.specs.declared.End.{End}
use Rattle.preempt_machine.specs.declared.End.TheVariants as «end»
use Rattle.preempt_machine.specs.Machine.{System, Standing, Open, Answered, Faulted, Job, Machine}
use Rattle.preempt_machine.specs.Step.{Start, state}

-- the standing of a job, with its release, after a number of steps
abbrev pub end_by : ℕ → ℕ → Standing → End
end_by time release Open = if nat_le time release then «end».Unreleased else «end».Open
end_by time release (Answered t) = «end».Answered t
end_by time release Faulted = «end».Faulted

-- the completions, in the script's order
abbrev pub completions : Machine → List End
completions m = map (λ (job : Job). end_by m.time job.line.release job.standing) m.jobs

-- no watch is broken
abbrev pub IsKept : Machine → Type 0
IsKept m = All (λ (job : Job). is_unbroken job.watch ≡ true) m.jobs

-- completed at this time or earlier
abbrev pub IsAnsweredBy : ℕ → Standing → Type 0
IsAnsweredBy deadline Open = ⊥
IsAnsweredBy deadline (Answered t) = t ≤ deadline
IsAnsweredBy deadline Faulted = ⊥

-- a job with this response time is late after a number of steps
abbrev pub IsLate : ℕ → ℕ → Job → Type 0
IsLate time response job =
    (job.line.arrival + response ≤ time) × ¬ IsAnsweredBy (job.line.arrival + response) job.standing

-- a list of lines names only tasks of the set
abbrev pub NamesTasks : TaskSet → List ScriptJob → Type 0
NamesTasks set lines = All (λ (line : ScriptJob). line.task.0 < length set.tasks) lines

-- what is required of a run: a cache with an entry for each of the platform's sets, a data memory,
-- and jobs of the set's tasks
pub record IsRunOf (set : TaskSet) (s : Start) : Type 0 where
  pub cache : s.system.platform.sets ≤ length s.cache
  pub memory : IsMemory s.memory
  pub tasks : NamesTasks set s.lines

-- such a run with a legal script
pub record IsLegalRun (set : TaskSet) (s : Start) : Type 0 where
  pub cache : s.system.platform.sets ≤ length s.cache
  pub memory : IsMemory s.memory
  pub tasks : NamesTasks set s.lines
  pub legal : IsLegal set s.lines

-- from every cache and memory, for every legal script, after any number of steps: if the state is
-- kept, no job is late
abbrev pub IsSafe : System → TaskSet → List ℕ → Type 0
IsSafe sys set responses =
    (s : Start) (n : ℕ) → s.system ≡ sys → IsLegalRun set s → IsKept (state s n) →
    All (λ (job : Job). ¬ IsLate n (slice_index responses job.line.task.0) job) (state s n).jobs

-- the machine's system of a task set and its code
abbrev pub system_of : TaskSet → Code → System
system_of set code = record {
  platform = set.platform;
  plans = code.plans;
  word = word_at code.images;
}

-- a task set with its code is safe with a response time for each task
abbrev pub IsSafeWith : TaskSet → Code → List ℕ → Type 0
IsSafeWith set code responses = IsSafe (system_of set code) set responses
