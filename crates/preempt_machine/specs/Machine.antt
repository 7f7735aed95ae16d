-- The states of a run.
use Rattle.std.specs.Prelude.{ℕ, suc, ◌+◌, ◌==◌, if◌then◌else◌, List, [], ◌∷◌, map, replicate}
use Rattle.std.specs.Prelude.{slice_index_or, zero, Option, Some, None, option_and_then}
use Rattle.crpd_base.specs.declared.data.Platform.{Platform}
use Rattle.crpd_base.specs.declared.data.ScriptJob.{ScriptJob}
use Rattle.crpd_base.specs.declared.data.TaskPlan.{TaskPlan}
use Rattle.rv_decode.specs.declared.Ins.{Ins}
use Rattle.rv_decode.specs.declared.Ins.TheVariants.{Ebreak}
use Rattle.rv_decode.specs.Table.{ins_of_word}
use Rattle.rv_core.specs.Memory.{Memory}
use Rattle.icache.specs.Cache.{Cache}
use Rattle.flow_watch.specs.Watch.{Watch, start}
use Rattle.rv_decode.specs.Address.{end_address}

-- the system of a run: the platform, a plan per task, and the word at each address that has one
pub record System : Type 0 where
  pub platform : Platform
  pub plans : List TaskPlan
  pub word : ℕ → Option ℕ

-- an instruction that a job can execute: any but EBREAK
abbrev pub runnable : Ins → Option Ins
runnable Ebreak = None
runnable ins = Some ins

-- the instruction at an address, or None if a fetch there faults
unfoldable pub ins_at : System → ℕ → Option Ins
ins_at sys a = option_and_then (λ w. option_and_then runnable (ins_of_word w)) (sys.word a)

-- an open job has not completed and not faulted
pub data Standing : Type 0 where
  Open : Standing
  Answered : ℕ → Standing
  Faulted : Standing

-- a job: its line of the script, its registers and pc, the cycles left of the instruction under way
-- (0 if none is), its watch, and its standing
pub record Job : Type 0 where
  pub line : ScriptJob
  pub registers : List ℕ
  pub pc : ℕ
  pub left : ℕ
  pub watch : Watch
  pub standing : Standing

-- the number of steps made, the cache and the data memory, the owner of the core by its place in
-- the script, the switch cycles left, and the jobs in the script's order
pub record Machine : Type 0 where
  pub time : ℕ
  pub cache : Cache
  pub memory : Memory
  pub owner : Option ℕ
  pub switch_left : ℕ
  pub jobs : List Job

-- the plan of the task at a place
abbrev pub plan_of : System → ℕ → TaskPlan
plan_of sys t = slice_index_or sys.plans t (record { entry = 0; stack = 0; global = 0; loops = [] })

-- a job before its first step
abbrev pub new_job : System → ScriptJob → Job
new_job sys line =
    let plan = plan_of sys line.task.0 in
    record {
      line = line;
      registers = 0 ∷ end_address ∷ plan.stack ∷ plan.global ∷ replicate 28 0;
      pc = plan.entry;
      left = 0;
      watch = start plan;
      standing = Open;
    }

-- the state at the start of a run
abbrev pub start_machine : System → Cache → Memory → List ScriptJob → Machine
start_machine sys cache memory lines =
    record {
      time = 0;
      cache = cache;
      memory = memory;
      owner = None;
      switch_left = 0;
      jobs = map (new_job sys) lines;
    }

-- a job's number: how many jobs of its task come before it in the script
abbrev pub number_in_script : List ScriptJob → ℕ → ℕ → ℕ
number_in_script [] task place = 0
number_in_script (l ∷ lines) task zero = 0
number_in_script (l ∷ lines) task (suc place) =
    (if l.task.0 == task then 1 else 0) + number_in_script lines task place

-- the job past the end of a list: one that has faulted
abbrev pub no_job : Job
no_job =
    record {
      line = record { task = record { 0 = 0 }; arrival = 0; release = 0 };
      registers = [];
      pc = 0;
      left = 0;
      watch = None;
      standing = Faulted;
    }

-- the job at a place; past the end no_job
abbrev pub job_at : List Job → ℕ → Job
job_at jobs i = slice_index_or jobs i no_job
