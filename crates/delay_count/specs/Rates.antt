-- Lower bounds on the rate at which a higher task uses any window.
use Rattle.std.specs.Prelude.{◌≡◌, ◌⊎◌, ℕ, ◌+◌, ◌*◌, ◌^◌, ◌<◌, ◌≤◌}
use Rattle.crpd_base.specs.declared.data.Part.{Part}
use Rattle.crpd_base.specs.declared.data.TaskSet.{TaskSet}
use Rattle.crpd_base.specs.declared.data.Method.{Method}
use Rattle.crpd_base.specs.Tasks.{period_of}
use Rattle.delay_count.specs.Demand.{higher_demand}

-- a rate in units of 2^-80: of every window w of task i, a higher task j takes at least rate * w
abbrev pub IsRate : TaskSet → (ℕ → Part) → (ℕ → ℕ) → Method → ℕ → ℕ → ℕ → Type 0
IsRate set parts window method i j rate =
    (w : ℕ) → rate * w ≤ higher_demand set parts window w method i j * 2 ^ 80

-- the rate is one, or above that of the jobs of a higher task j less one unit, if they are released
-- evenly, each with its bound and two switches
abbrev pub CountsJobs : TaskSet → (ℕ → Part) → ℕ → ℕ → Type 0
CountsJobs set parts j rate =
    (rate ≡ 2 ^ 80)
    ⊎ (((parts j).bound + (set.platform.switch + set.platform.switch)) * 2 ^ 80
    < (rate + 1) * period_of set j)
