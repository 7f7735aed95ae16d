-- The name and the numbers of a task of a set, and their ranges.
use Rattle.std.specs.Prelude.{ℕ, ◌<◌, ◌≤◌, List, [], length, map, position, slice_index, slice_get}
use Rattle.std.specs.Prelude.{Option}
use Rattle.std.specs.Option.{option_map_or}
use Rattle.std.specs.Str.{bytes_eq}
use Rattle.crpd_base.specs.declared.data.Task.{Task}
use Rattle.crpd_base.specs.Limits.{most_tasks, longest_time}
use Rattle.crpd_base.specs.declared.data.TaskSpec.{TaskSpec}
use Rattle.crpd_base.specs.declared.data.TaskSet.{TaskSet}

-- the name of a task
abbrev pub task_name : TaskSet → Task → List ℕ
task_name set task = option_map_or (λ (t : TaskSpec). t.name) (slice_get set.tasks task.0) []

-- the place of the first task with this name
abbrev pub place_of_name : List TaskSpec → List ℕ → Option ℕ
place_of_name tasks name = position (λ (t : TaskSpec). bytes_eq name t.name) tasks

-- the period of the task at a place
abbrev pub period_of : TaskSet → ℕ → ℕ
period_of set t = slice_index (map (λ (k : TaskSpec). k.period) set.tasks) t

-- the jitter of the task at a place
abbrev pub jitter_of : TaskSet → ℕ → ℕ
jitter_of set t = slice_index (map (λ (k : TaskSpec). k.jitter) set.tasks) t

-- the deadline of the task at a place
abbrev pub deadline_of : TaskSet → ℕ → ℕ
deadline_of set t = slice_index (map (λ (k : TaskSpec). k.deadline) set.tasks) t

-- the ranges of the times of a task set, and of the number of its tasks
pub record HasTimes (set : TaskSet) : Type 0 where
  pub tasks : length set.tasks ≤ most_tasks
  pub period : (k : ℕ) → k < length set.tasks → 1 ≤ period_of set k
  pub longest : (k : ℕ) → k < length set.tasks → period_of set k ≤ longest_time
  pub deadline : (k : ℕ) → k < length set.tasks → deadline_of set k ≤ period_of set k
  pub jitter : (k : ℕ) → k < length set.tasks → jitter_of set k ≤ longest_time
