-- What a job does at a step of a run, as tests, and how many steps pass a test.
use Rattle.std.specs.Prelude.{ℕ, Bool, not, ◌&&◌, ◌==◌, if◌then◌else◌, List}
use Rattle.crpd_base.specs.Sum.{sum_below}
use Rattle.icache.specs.Cache.{block_of, is_hit}
use Rattle.loop_regions.specs.TaskGraph.{TaskGraph}
use Rattle.preempt_machine.specs.Machine.{System}
use Rattle.preempt_machine.specs.Step.{is_owner, candidate, Turn, turn_of, makes_fetch}
use Rattle.preempt_machine.specs.Step.{Start, state}
use Rattle.run_account.specs.Fetches.{job_after}
use Rattle.run_account.specs.Nodes.{job_task, node_of_job}
use Rattle.run_account.specs.Walks.{fetched_nodes}
use Rattle.sound_laws.specs.CyclesToGo.{walk_of}

-- whether a turn makes a reload, given whether its node is counted as a hit: it is, and the turn
-- fetches there and misses
abbrev pub misses_if : System → Bool → Turn → Bool
misses_if sys counted u =
    makes_fetch sys u
    && (counted && not (is_hit sys.platform u.cache (block_of sys.platform u.job.pc)))

-- the same by a test of the nodes that are counted as hits
abbrev pub misses_counted_hit : System → TaskGraph → (ℕ → Bool) → Turn → Bool
misses_counted_hit sys t counted u = misses_if sys (counted (node_of_job t u.job)) u

-- whether job x uses a cycle of an instruction at step n
abbrev pub executes : Start → ℕ → ℕ → Bool
executes s x n =
    is_owner (candidate s.system (state s n)) x
    && ((turn_of s.system (state s n) x).switch_left == 0)

-- whether it makes a reload there
abbrev pub makes_reload : Start → TaskGraph → (ℕ → Bool) → ℕ → ℕ → Bool
makes_reload s t counted x n =
    is_owner (candidate s.system (state s n)) x && misses_counted_hit s.system t counted
    (turn_of s.system (state s n) x)

-- the same by a test of walks: whether their last nodes are counted as hits
abbrev pub is_counted : Start → (ℕ → TaskGraph) → (List ℕ → Bool) → ℕ → ℕ → Bool
is_counted s graphs counts x n =
    counts (walk_of (graphs (job_task s x)) (job_after s n x) (fetched_nodes s graphs n x))

abbrev pub makes_reload_on : Start → (ℕ → TaskGraph) → (List ℕ → Bool) → ℕ → ℕ → Bool
makes_reload_on s graphs counts x n =
    is_owner (candidate s.system (state s n)) x
    && misses_if s.system (is_counted s graphs counts x n) (turn_of s.system (state s n) x)

-- how many numbers below n pass a test
abbrev pub count_below : (ℕ → Bool) → ℕ → ℕ
count_below p n = sum_below (λ x. if p x then 1 else 0) n
