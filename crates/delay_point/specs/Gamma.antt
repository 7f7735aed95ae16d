-- The delay by program point.
use Rattle.std.specs.Prelude.{ℕ, suc, ◌*◌, ◌<◌, ◌↔◌, Bool, IsTrue, length}
use Rattle.crpd_base.specs.Limits.{most_sets}
use Rattle.crpd_base.specs.declared.data.Part.{Part}
use Rattle.crpd_base.specs.declared.data.TaskSet.{TaskSet}
use Rattle.useful_sets.specs.Useful.{Useful}
use Rattle.loop_regions.specs.TaskGraph.{TaskGraph}
use Rattle.cert_check.specs.JudgeInput.{accesses_of}
use Rattle.delay_count.specs.Counts.{jobs_of, affected_preemptions}
use Rattle.delay_count.specs.Gamma.{evicted_from, shared_count, greatest_choice}
use Rattle.delay_count.specs.Demand.{greatest_from}

-- a test of the cache sets at the nodes of each task: of task, node and set
abbrev pub SetsAtNodes : Type 0
SetsAtNodes = ℕ → ℕ → ℕ → Bool

-- the sets that are useful at each node, by the analysis
abbrev pub AreUsefulSets : TaskSet → (ℕ → TaskGraph) → SetsAtNodes → Type 0
AreUsefulSets set graphs useful =
    (k y c : ℕ) → k < length set.tasks → y < (graphs k).graph.size
    → IsTrue (useful k y c) ↔ Useful (graphs k).graph (accesses_of set.platform (graphs k)) y c

-- the most cache sets that one of the first `n` sets shares with evicted ones
abbrev pub most_shared : (ℕ → ℕ → Bool) → (ℕ → Bool) → ℕ → ℕ
most_shared sets evicted n = greatest_from (λ y. shared_count (sets y) evicted most_sets) 0 n

-- the largest number, over the nodes of task k, of cache sets that are useful at the node and
-- evicted by task j or one above it
abbrev pub point_shared : (ℕ → TaskGraph) → SetsAtNodes → (ℕ → Part) → ℕ → ℕ → ℕ
point_shared graphs useful parts j k =
    most_shared (useful k) (evicted_from parts j) (graphs k).graph.size

-- the delay of task j in a window w of task i by program point, given the most that is shared at a
-- node. Of its jobs that preempt each affected task, at most that task's preemptions, and in total
-- at most its jobs in the window, each evict what is shared with that task
abbrev pub gamma_point : TaskSet → (ℕ → ℕ → ℕ) → (ℕ → ℕ) → ℕ → ℕ → ℕ → ℕ
gamma_point set shared window w i j =
    set.platform.miss * greatest_choice (shared j) (affected_preemptions set window w i j) (suc i)
    (jobs_of set j w)
