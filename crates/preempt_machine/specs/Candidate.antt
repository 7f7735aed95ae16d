-- The job that a step takes: its candidate, and that the step's function finds it.
use Rattle.std.specs.Prelude.{◌≡◌, ◌↔◌, ◌⊎◌, ℕ, ◌<◌, ◌≤◌, length, map, Some, None}
use Rattle.crpd_base.specs.declared.data.Switching.TheVariants.{Instruction}
use Rattle.preempt_machine.specs.Machine.{System, Open, Job, Machine, job_at, number_in_script}
use Rattle.preempt_machine.specs.Step.{candidate}

-- the task of the job at a place of the script
abbrev pub task_of : Machine → ℕ → ℕ
task_of m x = (job_at m.jobs x).line.task.0

-- the release of that job
abbrev pub release_of : Machine → ℕ → ℕ
release_of m x = (job_at m.jobs x).line.release

-- the number of that job among the jobs of its task
abbrev pub job_number : Machine → ℕ → ℕ
job_number m x = number_in_script (map (λ (job : Job). job.line) m.jobs) (task_of m x) x

-- a job is ready from its release until it completes or faults
pub record IsReady (m : Machine) (x : ℕ) : Type 0 where
  pub job : x < length m.jobs
  pub released : release_of m x ≤ m.time
  pub open_still : (job_at m.jobs x).standing ≡ Open

-- a job comes before another: its task is higher; or the tasks are the same and it was released
-- earlier, or at the same time with a smaller number
pub data ComesBefore (m : Machine) (x y : ℕ) : Type 0 where
  higher : task_of m x < task_of m y → ComesBefore m x y
  earlier : task_of m x ≡ task_of m y → release_of m x < release_of m y → ComesBefore m x y
  smaller : task_of m x ≡ task_of m y → release_of m x ≡ release_of m y
      → job_number m x < job_number m y → ComesBefore m x y

-- the owner keeps the core: switches wait for the end of an instruction, and it is ready and has
-- one under way
pub record KeepsCore (sys : System) (m : Machine) (x : ℕ) : Type 0 where
  pub waits : sys.platform.switching ≡ Instruction
  pub owner : m.owner ≡ Some x
  pub ready : IsReady m x
  pub under_way : 1 ≤ (job_at m.jobs x).left

-- the ready job that comes before all other ready jobs
pub record IsFirstReady (m : Machine) (x : ℕ) : Type 0 where
  pub ready : IsReady m x
  pub first : (y : ℕ) → IsReady m y → (y ≡ x) ⊎ ComesBefore m x y

-- the candidate: the owner if it keeps the core, otherwise the first of the ready jobs
pub data IsCandidate (sys : System) (m : Machine) (x : ℕ) : Type 0 where
  the_owner : KeepsCore sys m x → IsCandidate sys m x
  the_first : ((y : ℕ) → KeepsCore sys m y → ⊥) → IsFirstReady m x → IsCandidate sys m x

-- the step's function gives the candidate
abbrev pub CandidateLaw : Type 0
CandidateLaw =
    (sys : System) (m : Machine) (x : ℕ) → (candidate sys m ≡ Some x) ↔ IsCandidate sys m x

-- there is no candidate exactly if no job is ready
abbrev pub NoCandidateLaw : Type 0
NoCandidateLaw =
    (sys : System) (m : Machine) → (candidate sys m ≡ None) ↔ ((x : ℕ) → IsReady m x → ⊥)

-- there is at most one candidate
abbrev pub OneCandidateLaw : Type 0
OneCandidateLaw =
    (sys : System) (m : Machine) (x y : ℕ) → IsCandidate sys m x → IsCandidate sys m y → x ≡ y
