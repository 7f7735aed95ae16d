-- How the program knows whether no watch is broken.
use Rattle.std.specs.Prelude.{◌≡◌, ◌≢◌, ◌↔◌, ℕ, Bool, true, length, List, Option, Some, None}
use Rattle.std.specs.Prelude.{IsTrue}
use Rattle.flow_watch.specs.Watch.{is_unbroken}
use Rattle.preempt_machine.specs.declared.parts.Parts.{Parts}
use Rattle.preempt_machine.specs.Machine.{Job, Machine, job_at}
use Rattle.preempt_machine.specs.Safe.{IsKept}
use Rattle.preempt_machine.specs.Inner.Parts.{machine_of, IsMachine}

-- whether the watch of an owner is not broken, if there is one
abbrev pub kept_at : List Job → Option ℕ → Bool
kept_at jobs None = true
kept_at jobs (Some o) = is_unbroken (job_at jobs o).watch

-- whether the watch of a state's owner is not broken
abbrev pub owner_is_kept : Machine → Bool
owner_is_kept m = kept_at m.jobs m.owner

-- only the owner has changed, and each watch that is not broken was not broken before
pub record ChangesOwner (old new : Machine) : Type 0 where
  pub long : length new.jobs ≡ length old.jobs
  pub others : (x : ℕ) → new.owner ≢ Some x → job_at new.jobs x ≡ job_at old.jobs x
  pub before : (x : ℕ) → is_unbroken (job_at new.jobs x).watch ≡ true
      → is_unbroken (job_at old.jobs x).watch ≡ true

-- the parts, and a flag that says whether no watch is broken
pub record IsFlagged (parts : Parts) (flag : Bool) : Type 0 where
  pub machine : IsMachine parts
  pub kept : IsTrue flag ↔ IsKept (machine_of parts)
