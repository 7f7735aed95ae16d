-- Counts of jobs, in windows.
use Rattle.std.specs.Prelude.{◌<◌, ◌≤◌, List, length, slice_index, ℕ, ◌+◌, ◌-◌, ◌*◌, ◌/◌, ◌==◌}
use Rattle.std.specs.Prelude.{nat_lt, if◌then◌else◌}
use Rattle.crpd_base.specs.Limits.{longest_time}
use Rattle.crpd_base.specs.declared.data.TaskSet.{TaskSet}
use Rattle.crpd_base.specs.Tasks.{period_of, jitter_of, deadline_of}

-- the most jobs of a task released in a window: window plus jitter over period, rounded up
abbrev pub jobs_in : ℕ → ℕ → ℕ → ℕ
jobs_in period jitter window = (window + jitter + (period - 1)) / period

-- jobs of task j in a window
abbrev pub jobs_of : TaskSet → ℕ → ℕ → ℕ
jobs_of set j w = jobs_in (period_of set j) (jitter_of set j) w

-- how often jobs of task j may preempt those of task k within a window w of task i: for each job of
-- k, the jobs of j in k's window
abbrev pub preemptions : TaskSet → (ℕ → ℕ) → ℕ → ℕ → ℕ → ℕ → ℕ
preemptions set window w i j k =
    if k == i then jobs_of set j w else jobs_of set j (window k) * jobs_of set k w

-- the same for the tasks below j, and 0 for the others; of the tasks down to i, these are those
-- that j can affect in a window of i
abbrev pub affected_preemptions : TaskSet → (ℕ → ℕ) → ℕ → ℕ → ℕ → ℕ → ℕ
affected_preemptions set window w i j k = if nat_lt j k then preemptions set window w i j k else 0

-- a window of each task above task i, with its jitter within its deadline
pub record HasWindows (set : TaskSet) (windows : List ℕ) (i : ℕ) : Type 0 where
  pub tasks : i ≤ length windows
  pub most : (k : ℕ) → k < i → slice_index windows k ≤ longest_time
  pub in_deadline : (k : ℕ) → k < i → slice_index windows k + jitter_of set k ≤ deadline_of set k
