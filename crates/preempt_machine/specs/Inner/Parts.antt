-- The state that the machine's parts represent, and what its private calls make of it.
use Rattle.std.specs.Prelude.{◌≡◌, ℕ, suc, ◌+◌, ◌≤◌, Some, option_map}
use Rattle.code_map.specs.Words.{Code}
use Rattle.preempt_machine.specs.declared.parts.Parts.{Parts}
use Rattle.preempt_machine.specs.Machine.{System, Machine}
use Rattle.preempt_machine.specs.Step.{machine_after_turn, turn_after_step, turn_of}
use Rattle.preempt_machine.specs.Step.{fetch, fetch_by, step}
use Rattle.preempt_machine.specs.Running.{Running, fetch_told, running_after_steps}
use Rattle.preempt_machine.specs.Inner.Schedule.{machine_by, IsScheduled}

-- the state that the parts represent
abbrev pub machine_of : Parts → Machine
machine_of p = machine_by p.core.cache p.core.memory p.schedule

-- the parts represent it, with the order of their jobs and their completions
abbrev pub IsMachine : Parts → Type 0
IsMachine p = IsScheduled p.core.geometry.platform.sets p.core.cache p.core.memory p.schedule

-- what contracts see of the parts
abbrev pub running_of : Parts → Running
running_of p = record { platform = p.core.geometry.platform; state = machine_of p; fetch = p.fetch }

-- the job at a place had its turn at this time, which is not recorded yet
pub record HasTurned (sys : System) (old new : Parts) (place : ℕ) : Type 0 where
  pub state : record (machine_of new) { time = suc old.schedule.steps }
      ≡ machine_after_turn (machine_of old) place
      (turn_after_step sys old.schedule.steps (turn_of sys (machine_of old) place))
  pub steps : new.schedule.steps ≡ old.schedule.steps
  pub fetch : new.fetch ≡ option_map (fetch_told sys (machine_of old))
      (fetch_by sys (machine_of old) (Some place))
  pub geometry : new.core.geometry ≡ old.core.geometry
  pub completions : new.schedule.completions ≡ old.schedule.completions
  pub queue : new.schedule.queue ≡ old.schedule.queue

-- nothing changed
pub record HasSameState (old new : Parts) : Type 0 where
  pub state : machine_of new ≡ machine_of old
  pub fetch : new.fetch ≡ old.fetch
  pub geometry : new.core.geometry ≡ old.core.geometry
  pub completions : new.schedule.completions ≡ old.schedule.completions
  pub queue : new.schedule.queue ≡ old.schedule.queue

-- a step was made
pub record HasStepped (sys : System) (old new : Parts) : Type 0 where
  pub state : machine_of new ≡ step sys (machine_of old)
  pub fetch : new.fetch ≡ option_map (fetch_told sys (machine_of old)) (fetch sys (machine_of old))
  pub geometry : new.core.geometry ≡ old.core.geometry

-- some steps were made, none of them at a cycle or later
pub record HasMade (code : Code) (cycle : ℕ) (old new : Running) : Type 0 where
  pub made : ℕ
  pub some : 1 ≤ made
  pub within : old.state.time + made ≤ cycle
  pub state : new ≡ running_after_steps made code old
