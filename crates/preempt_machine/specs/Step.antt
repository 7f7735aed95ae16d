-- One step of the machine, and runs.
use Rattle.std.specs.Prelude.{ℕ, zero, suc, ◌-◌, Bool, true, false, not, ◌&&◌, ◌||◌, ◌==◌, nat_lt}
use Rattle.std.specs.Prelude.{nat_le, if◌then◌else◌, List, length, slice_set, Option, Some, None}
use Rattle.std.specs.Prelude.{is_some}
use Rattle.crpd_base.specs.declared.data.Switching.{Switching}
use Rattle.crpd_base.specs.declared.data.Switching.TheVariants.{Cycle, Instruction}
use Rattle.crpd_base.specs.declared.data.ScriptJob.{ScriptJob}
use Rattle.rv_decode.specs.declared.Ins.{Ins}
use Rattle.rv_decode.specs.Cost.{cost}
use Rattle.rv_core.specs.declared.Next.{Next}
use Rattle.rv_core.specs.declared.Next.TheVariants.{Goto, Answer, Fault}
use Rattle.rv_core.specs.Effect.{next_pc, registers_after, memory_after}
use Rattle.rv_decode.specs.Address.{next_address, end_address}
use Rattle.rv_core.specs.Memory.{Memory}
use Rattle.icache.specs.Cache.{Cache, block_of, is_hit, cache_after_access}
use Rattle.flow_watch.specs.Watch.{step as watch_step}
use Rattle.preempt_machine.specs.Machine.{System, ins_at, Standing, Open, Answered, Faulted, Job}
use Rattle.preempt_machine.specs.Machine.{Machine, plan_of, start_machine, job_at}

-- a job is open until it completes or faults, and ready from its release on while it is open
abbrev pub is_open : Standing → Bool
is_open Open = true
is_open (Answered t) = false
is_open Faulted = false

-- whether a job is ready at a time
unfoldable pub is_ready : ℕ → Job → Bool
is_ready time job = is_open job.standing && nat_le job.line.release time

-- the line a of the script, at place x, comes before the line b, at place y: a higher task, then an
-- earlier release, then a smaller place (a job's number grows with its place among the jobs of its
-- task)
unfoldable pub comes_before : ScriptJob → ℕ → ScriptJob → ℕ → Bool
comes_before a x b y =
    nat_lt a.task.0 b.task.0
    || ((a.task.0 == b.task.0)
    && (nat_lt a.release b.release || ((a.release == b.release) && nat_lt x y)))

-- whether the job at a place comes before the one at another
abbrev pub before : List Job → ℕ → ℕ → Bool
before jobs x y = comes_before (job_at jobs x).line x (job_at jobs y).line y

-- the first of two in that order: of one found so far, and the job at a place if it is ready
abbrev pub better_candidate : ℕ → List Job → ℕ → Option ℕ → Option ℕ
better_candidate time jobs x best =
    if is_ready time (job_at jobs x)
    then (elim best [ None ↦ Some x | Some y ↦ if before jobs x y then Some x else Some y ])
    else best

-- the first of all the ready jobs below a place
abbrev pub first_ready : ℕ → List Job → ℕ → Option ℕ
first_ready time jobs zero = None
first_ready time jobs (suc n) = better_candidate time jobs n (first_ready time jobs n)

-- whether a job keeps the core: a ready one in the middle of an instruction, if switches wait for
-- its end
abbrev pub keeps_core : Switching → ℕ → Job → Bool
keeps_core Cycle time job = false
keeps_core Instruction time job = is_ready time job && nat_lt 0 job.left

-- the candidate, as the program finds it: the owner if it keeps the core, otherwise the ready job
-- that comes before all others. `Candidate` defines it as a relation
abbrev pub candidate_by : System → Machine → Option ℕ → Option ℕ
candidate_by sys m None = first_ready m.time m.jobs (length m.jobs)
candidate_by sys m (Some o) =
    if keeps_core sys.platform.switching m.time (job_at m.jobs o) then Some o
    else first_ready m.time m.jobs (length m.jobs)

-- the candidate of a state
unfoldable pub candidate : System → Machine → Option ℕ
candidate sys m = candidate_by sys m m.owner

-- the data of the candidate's turn: its job, the cache, the memory and the switch cycles left
pub record Turn : Type 0 where
  pub cache : Cache
  pub memory : Memory
  pub switch_left : ℕ
  pub job : Job

-- whether the job at a place is the owner: another candidate has all switch cycles left
abbrev pub is_owner : Option ℕ → ℕ → Bool
is_owner None i = false
is_owner (Some o) i = o == i

-- the turn of the job at a place
abbrev pub turn_of : System → Machine → ℕ → Turn
turn_of sys m i =
    record {
      cache = m.cache;
      memory = m.memory;
      switch_left = if is_owner m.owner i then m.switch_left else sys.platform.switch;
      job = job_at m.jobs i;
    }

-- whether a job continues at the next address, which the cost of its instruction depends on
abbrev pub goes_to_next : Next → ℕ → Bool
goes_to_next (Goto to) pc = to == next_address pc
goes_to_next Answer pc = true
goes_to_next Fault pc = true

-- the cycles of an instruction that is fetched now
abbrev pub fetch_cost : System → Ins → Turn → ℕ
fetch_cost sys ins t =
    let p = sys.platform in
    let pc = t.job.pc in
    cost p ins (not (is_hit p t.cache (block_of p pc)))
    (not (goes_to_next (next_pc ins pc t.job.registers) pc))

-- what the fetch leaves, if no instruction is under way
abbrev pub turn_after_fetch : System → Ins → Turn → Turn
turn_after_fetch sys ins t =
    if t.job.left == 0 then
    record t {
      cache = cache_after_access sys.platform t.cache (block_of sys.platform t.job.pc);
      job = record t.job { left = fetch_cost sys ins t };
    }
    else t

-- the instruction has its effect: an ECALL completes the job, an EBREAK faults, and any other
-- continues, under the watch, and completes the job at the address at which jobs end
abbrev pub turn_after_effect : System → ℕ → Ins → Turn → Next → Turn
turn_after_effect sys n ins t (Goto to) =
    let job = t.job in
    record t {
      memory = memory_after ins job.registers t.memory;
      job = record {
        line = job.line;
        registers = registers_after ins job.pc job.registers t.memory;
        pc = to;
        left = 0;
        watch = watch_step (plan_of sys job.line.task.0) job.watch job.pc ins to;
        standing = if to == end_address then Answered (suc n) else Open;
      };
    }
turn_after_effect sys n ins t Answer = record t {
  job = record t.job { left = 0; standing = Answered (suc n) };
}
turn_after_effect sys n ins t Fault = record t {
  job = record t.job { left = 0; standing = Faulted };
}

-- one cycle of the instruction is used, and with the last one it has its effect
abbrev pub turn_after_cycle : System → ℕ → Ins → Turn → Turn
turn_after_cycle sys n ins t =
    if nat_lt 1 t.job.left then record t { job = record t.job { left = t.job.left - 1 } }
    else turn_after_effect sys n ins t (next_pc ins t.job.pc t.job.registers)

-- if no instruction can be fetched the job faults
abbrev pub turn_after_execution : System → ℕ → Turn → Option Ins → Turn
turn_after_execution sys n t None = record t { job = record t.job { standing = Faulted } }
turn_after_execution sys n t (Some ins) = turn_after_cycle sys n ins (turn_after_fetch sys ins t)

-- a switch cycle is used if one is left, otherwise a cycle of the job's instruction
unfoldable pub turn_after_step : System → ℕ → Turn → Turn
turn_after_step sys n t =
    if nat_lt 0 t.switch_left then record t { switch_left = t.switch_left - 1 }
    else turn_after_execution sys n t (ins_at sys t.job.pc)

-- the state after the turn of the job at a place
abbrev pub machine_after_turn : Machine → ℕ → Turn → Machine
machine_after_turn m i t =
    record {
      time = suc m.time;
      cache = t.cache;
      memory = t.memory;
      owner = Some i;
      switch_left = t.switch_left;
      jobs = slice_set m.jobs i t.job;
    }

-- the state after a step of a candidate; with none only time passes
abbrev pub step_by : System → Machine → Option ℕ → Machine
step_by sys m None = record m { time = suc m.time }
step_by sys m (Some i) = machine_after_turn m i (turn_after_step sys m.time (turn_of sys m i))

-- the state after a step
abbrev pub step : System → Machine → Machine
step sys m = step_by sys m (candidate sys m)

-- the state after n steps
abbrev pub run : System → Machine → ℕ → Machine
run sys m zero = m
run sys m (suc n) = step sys (run sys m n)

-- what a run starts from
pub record Start : Type 0 where
  pub system : System
  pub cache : Cache
  pub memory : Memory
  pub lines : List ScriptJob

-- the state of a run after n steps
abbrev pub state : Start → ℕ → Machine
state s n = run s.system (start_machine s.system s.cache s.memory s.lines) n

-- a fetch: the job's place, and the address
pub record Fetch : Type 0 where
  pub job : ℕ
  pub address : ℕ

-- whether the turn of a job makes a fetch
abbrev pub makes_fetch : System → Turn → Bool
makes_fetch sys t = (t.switch_left == 0) && (t.job.left == 0) && is_some (ins_at sys t.job.pc)

-- the fetch of a candidate's step
abbrev pub fetch_by : System → Machine → Option ℕ → Option Fetch
fetch_by sys m None = None
fetch_by sys m (Some i) =
    if makes_fetch sys (turn_of sys m i)
    then Some (record { job = i; address = (job_at m.jobs i).pc }) else None

-- the fetch of the step from a state, if there is one
abbrev pub fetch : System → Machine → Option Fetch
fetch sys m = fetch_by sys m (candidate sys m)

-- the fetch of the step after n steps of a run
abbrev pub fetch_at : Start → ℕ → Option Fetch
fetch_at s n = fetch s.system (state s n)
