-- Lower bounds on the rate at which a higher task uses any window: definitions that only contracts
-- inside the crate cite.
use Rattle.std.specs.Prelude.{ℕ, suc, ◌*◌, ◌/◌, ◌^◌, ◌==◌, min, nat_lt, if◌then◌else◌}
use Rattle.crpd_base.specs.Limits.{most_sets}
use Rattle.crpd_base.specs.declared.data.Part.{Part}
use Rattle.crpd_base.specs.declared.data.TaskSet.{TaskSet}
use Rattle.crpd_base.specs.declared.data.Method.{Method}
use Rattle.crpd_base.specs.declared.data.Method.TheVariants.{Ucb, Ecb}
use Rattle.crpd_base.specs.Sets.{has}
use Rattle.crpd_base.specs.Tasks.{period_of}
use Rattle.delay_count.specs.Counts.{jobs_of}
use Rattle.delay_count.specs.Gamma.{union_count, greatest_choice, shared_sets}

-- the delay of task i by `jobs` jobs of a higher task j, given how often the jobs of each task may
-- be preempted
abbrev pub gamma_by : Method → ℕ → (ℕ → Part) → (ℕ → ℕ) → ℕ → ℕ → ℕ → ℕ
gamma_by Ucb miss parts count jobs i j =
    miss * union_count jobs (has (parts j).evicting) (λ k. has (parts k).useful) count
    (suc i) most_sets
gamma_by Ecb miss parts count jobs i j =
    miss * greatest_choice (shared_sets parts j) count (suc i) jobs

-- the jobs that a task releases per cycle, in units of 2^-63, rounded down
abbrev pub release_rate : TaskSet → ℕ → ℕ
release_rate set k = 2 ^ 63 / period_of set k

-- how often jobs of j may preempt those of task k per cycle of task i, in the same units
abbrev pub affected_rate : TaskSet → (ℕ → ℕ) → ℕ → ℕ → ℕ → ℕ
affected_rate set window i j k =
    if nat_lt j k
    then (if k == i then release_rate set j
    else min (release_rate set j) (jobs_of set j (window k) * release_rate set k))
    else 0
