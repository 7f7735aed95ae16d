-- Stretches of steps, and their results: what only contracts inside the crate cite.
use Rattle.std.specs.Prelude.{◌≡◌, ◌↔◌, ℕ, zero, suc, ◌+◌, ◌-◌, ◌<◌, ◌≤◌, Bool, true}
use Rattle.std.specs.Prelude.{if◌then◌else◌, Option, Some, None, IsTrue}
use Rattle.flow_watch.specs.Watch.{is_unbroken}
use Rattle.preempt_machine.specs.Machine.{System}
use Rattle.preempt_machine.specs.Safe.{IsKept}
use Rattle.preempt_machine.specs.Step.{Fetch, Start, state, fetch_at, makes_fetch, Turn}
use Rattle.preempt_machine.specs.Step.{turn_after_step, is_open}

-- a number of turns of a job in consecutive steps, the first of them at a time
abbrev pub turn_after_steps : System → ℕ → Turn → ℕ → Turn
turn_after_steps sys time t zero = t
turn_after_steps sys time t (suc k) = turn_after_step sys (time + k) (turn_after_steps sys time t k)

-- a job's move from one time to another: as many turns as cycles, before each of which it is open
pub record HasMoved (sys : System) (from to : ℕ) (old new : Turn) : Type 0 where
  pub later : from ≤ to
  pub turn : new ≡ turn_after_steps sys from old (to - from)
  pub open_before : (j : ℕ) → j < to - from
      → is_open (turn_after_steps sys from old j).job.standing ≡ true

-- the fetch of a turn of the job at a place
abbrev pub turn_fetch : System → ℕ → Turn → Option Fetch
turn_fetch sys place t =
    if makes_fetch sys t then Some (record { job = place; address = t.job.pc }) else None

-- a step of a run is a turn of the job at a place; the flag is for the watches of the others
pub record IsTurnAt (s : Start) (place n : ℕ) (t : Turn) (kept : Bool) : Type 0 where
  pub fetch : fetch_at s n ≡ turn_fetch s.system place t
  pub cache : (state s n).cache ≡ t.cache
  pub watches : IsKept (state s n) ↔ (IsTrue kept × (is_unbroken t.job.watch ≡ true))

-- each step from one time up to another is such a turn, as long as the job is open
abbrev pub AreTurnsAt : Start → ℕ → ℕ → ℕ → Turn → Bool → Type 0
AreTurnsAt s place from until t kept =
    (k : ℕ) → from + k < until →
    ((j : ℕ) → j ≤ k → is_open (turn_after_steps s.system from t j).job.standing ≡ true) →
    IsTurnAt s place (from + k) (turn_after_steps s.system from t k) kept
