-- How the program represents a machine that skips stretches of steps.
use Rattle.std.specs.Prelude.{◌≡◌, ◌↔◌, ℕ, ◌+◌, ◌<◌, ◌≤◌, true, IsTrue}
use Rattle.code_map.specs.Words.{Code}
use Rattle.preempt_machine.specs.Machine.{System, Machine}
use Rattle.preempt_machine.specs.Step.{is_open, turn_of, Start, state}
use Rattle.preempt_machine.specs.Running.{system_by, HasPlans}
use Rattle.preempt_machine.specs.Safe.{IsKept}
use Rattle.preempt_machine.specs.Inner.Schedule.{machine_by, IsScheduled}
use Rattle.preempt_machine.specs.declared.stretches.FastParts.{FastParts}
use Rattle.preempt_machine.specs.Inner.Addresses.{AreDecodedAddresses}
use Rattle.preempt_machine.specs.Stretch.{machine_after_turns}
use Rattle.preempt_machine.specs.Inner.Moves.{turn_after_steps}

-- the state that the parts represent
abbrev pub fast_machine_of : FastParts → Machine
fast_machine_of p = machine_by p.core.cache p.core.memory p.schedule

-- the parts represent a state with its order and completions
abbrev pub IsFastMachine : FastParts → Type 0
IsFastMachine p = IsScheduled p.core.geometry.platform.sets p.core.cache p.core.memory p.schedule

-- the parts run a code's jobs
pub record RunsCode (code : Code) (p : FastParts) : Type 0 where
  pub plans : HasPlans code (fast_machine_of p)
  pub decoded : AreDecodedAddresses p.core.geometry.platform code p.core.decoded.places.items

-- a state results from another by turns of the job at a place, which is open before each of them,
-- and none of them is at a time or later
pub record ComesByTurns (sys : System) (until place : ℕ) (old new : Machine) : Type 0 where
  pub made : ℕ
  pub some : 1 ≤ made
  pub within : old.time + made ≤ until
  pub state : new ≡ machine_after_turns old made place
      (turn_after_steps sys old.time (turn_of sys old place) made)
  pub open_before : (j : ℕ) → j < made
      → is_open (turn_after_steps sys old.time (turn_of sys old place) j).job.standing ≡ true

-- the job at a place took turns
pub record HasTakenTurns (sys : System) (until : ℕ) (old new : FastParts) (place : ℕ) : Type 0 where
  pub turns : ComesByTurns sys until place (fast_machine_of old) (fast_machine_of new)
  pub geometry : new.core.geometry ≡ old.core.geometry
  pub completions : new.schedule.completions ≡ old.schedule.completions
  pub queue : new.schedule.queue ≡ old.schedule.queue

-- the parts represent a state of a run, with its order, completions and flag, and run its code's
-- jobs
pub record RunsAs (s : Start) (code : Code) (p : FastParts) : Type 0 where
  pub system : s.system ≡ system_by p.core.geometry.platform code
  pub state : fast_machine_of p ≡ state s p.schedule.steps
  pub machine : IsFastMachine p
  pub run : RunsCode code p
  pub kept : IsTrue p.core.kept ↔ IsKept (fast_machine_of p)
