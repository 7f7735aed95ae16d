-- The ranges of a task set.
use Rattle.std.specs.Prelude.{◌≡◌, ◌≢◌, true, ◌≤◌, length, All, AllPairs}
use Rattle.crpd_base.specs.declared.data.Platform.{Platform}
use Rattle.crpd_base.specs.declared.data.LoopSpec.{LoopSpec}
use Rattle.crpd_base.specs.declared.data.TaskSpec.{TaskSpec}
use Rattle.crpd_base.specs.declared.data.TaskSet.{TaskSet}
use Rattle.crpd_base.specs.Limits.{most_sets, most_cost, most_tasks, most_loops, most_iterations}
use Rattle.crpd_base.specs.Limits.{longest_time}
use Rattle.crpd_base.specs.Names.{is_line_length, is_name, is_file}

-- a platform: lines of 4, 8, 16, 32 or 64 bytes, 1 to 512 sets, at least one cycle per instruction,
-- and costs below 2^16
pub record IsPlatform (p : Platform) : Type 0 where
  pub line : (4 ≤ p.line) × (p.line ≤ 64)
  pub line_size : is_line_length p.line ≡ true
  pub sets : (1 ≤ p.sets) × (p.sets ≤ most_sets)
  pub hit : (1 ≤ p.hit) × (p.hit ≤ most_cost)
  pub miss : p.miss ≤ most_cost
  pub memory : p.memory ≤ most_cost
  pub taken : p.taken ≤ most_cost
  pub switch : p.switch ≤ most_cost
  pub mul : p.mul ≤ most_cost
  pub div : p.div ≤ most_cost

-- a stated loop: a bound from 1 to 1,000,000
abbrev pub IsLoopSpec : LoopSpec → Type 0
IsLoopSpec l = (1 ≤ l.bound) × (l.bound ≤ most_iterations)

-- a task: a name and a file, a deadline of at most its period, times of at most 2^40 cycles, at
-- most 64 loops
pub record IsTaskSpec (t : TaskSpec) : Type 0 where
  pub name : is_name t.name ≡ true
  pub file : is_file t.file ≡ true
  pub period : (1 ≤ t.period) × (t.period ≤ longest_time)
  pub deadline : (1 ≤ t.deadline) × (t.deadline ≤ t.period)
  pub jitter : t.jitter ≤ longest_time
  pub few_loops : length t.loops ≤ most_loops
  pub loops : All IsLoopSpec t.loops

-- two tasks of different names
abbrev pub HaveOwnNames : TaskSpec → TaskSpec → Type 0
HaveOwnNames x y = x.name ≢ y.name

-- a task set: 1 to 32 tasks, each with its own name
pub record IsTaskSet (set : TaskSet) : Type 0 where
  pub platform : IsPlatform set.platform
  pub some : 1 ≤ length set.tasks
  pub few : length set.tasks ≤ most_tasks
  pub each : All IsTaskSpec set.tasks
  pub names : AllPairs HaveOwnNames set.tasks
