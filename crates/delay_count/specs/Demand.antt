-- The demand of a window.
use Rattle.std.specs.Prelude.{ℕ, zero, suc, ◌+◌, ◌-◌, ◌*◌, max, nat_le, if◌then◌else◌, ◌<◌, ◌≤◌}
use Rattle.std.specs.Prelude.{◌^◌, List, length, slice_index}
use Rattle.crpd_base.specs.declared.data.Part.{Part}
use Rattle.crpd_base.specs.declared.data.Switching.{Switching}
use Rattle.crpd_base.specs.declared.data.Switching.TheVariants.{Cycle, Instruction}
use Rattle.crpd_base.specs.declared.data.TaskSet.{TaskSet}
use Rattle.crpd_base.specs.declared.data.Method.{Method}
use Rattle.crpd_base.specs.declared.data.Method.TheVariants.{Ucb, Ecb}
use Rattle.crpd_base.specs.Sum.{sum_below}
use Rattle.delay_count.specs.Counts.{jobs_of}
use Rattle.delay_count.specs.Gamma.{gamma_ucb, gamma_ecb}

-- the largest of f i, .., f (n - 1), or 0
abbrev pub greatest_from : (ℕ → ℕ) → ℕ → ℕ → ℕ
greatest_from f i zero = 0
greatest_from f i (suc n) = if nat_le i n then max (f n) (greatest_from f i n) else 0

-- the most cycles that an instruction begun before the window may take of it, by the longest costs
-- of this task and of all below
abbrev pub blocking : Switching → (ℕ → ℕ) → ℕ → ℕ → ℕ
blocking Cycle longest i tasks = 0
blocking Instruction longest i tasks = greatest_from (λ k. longest k - 1) i tasks

-- the delay of a window w of task i by a higher task j, by a method
abbrev pub gamma : TaskSet → (ℕ → Part) → (ℕ → ℕ) → ℕ → Method → ℕ → ℕ → ℕ
gamma set parts window w Ucb i j = gamma_ucb set parts window w i j
gamma set parts window w Ecb i j = gamma_ecb set parts window w i j

-- what task i itself takes of its window: a switch, its bound, and the blocking
abbrev pub own_demand : TaskSet → (ℕ → Part) → (ℕ → ℕ) → ℕ → ℕ
own_demand set parts longest i =
    set.platform.switch + (parts i).bound + blocking set.platform.switching longest i
    (length set.tasks)

-- what the jobs of a higher task j take of a window of w cycles without their delay: each its bound
-- and two switches
abbrev pub jobs_demand : TaskSet → (ℕ → Part) → ℕ → ℕ → ℕ
jobs_demand set parts w j =
    jobs_of set j w * ((parts j).bound + (set.platform.switch + set.platform.switch))

-- the demand of a window w of task i, given a delay for each higher task: the task's own, and for
-- each higher task that of its jobs and the delay
abbrev pub demand_by : TaskSet → (ℕ → Part) → (ℕ → ℕ) → ℕ → (ℕ → ℕ) → ℕ → ℕ
demand_by set parts longest i delay w =
    own_demand set parts longest i + sum_below (λ j. jobs_demand set parts w j + delay j) i

-- what a higher task j takes of a window w of task i, with the delay by a method
abbrev pub higher_demand : TaskSet → (ℕ → Part) → (ℕ → ℕ) → ℕ → Method → ℕ → ℕ → ℕ
higher_demand set parts window w method i j =
    jobs_demand set parts w j + gamma set parts window w method i j

-- the demand of a window w of task i, by a method, with the tasks' parts and longest costs and the
-- windows of the higher ones
abbrev pub demand : TaskSet → (ℕ → Part) → (ℕ → ℕ) → (ℕ → ℕ) → ℕ → Method → ℕ → ℕ
demand set parts longest window i method w =
    demand_by set parts longest i (gamma set parts window w method i) w

-- the delays that this demand charges, summed over all higher tasks
abbrev pub charged_delays : TaskSet → (ℕ → Part) → (ℕ → ℕ) → ℕ → Method → ℕ → ℕ
charged_delays set parts window i method w = sum_below (gamma set parts window w method i) i

-- the longest cost of an instruction of each task
pub record HasLongest (set : TaskSet) (longest : List ℕ) : Type 0 where
  pub tasks : length set.tasks ≤ length longest
  pub range : (k : ℕ) → k < length set.tasks
      → (1 ≤ slice_index longest k) × (slice_index longest k ≤ 2 ^ 20)
