-- The UCB-union and the ECB-union multiset delays.
use Rattle.std.specs.Prelude.{ℕ, zero, suc, ◌+◌, ◌-◌, ◌*◌, max, min, Bool, ◌&&◌, ◌||◌}
use Rattle.std.specs.Prelude.{if◌then◌else◌, List, [], length, map, slice_index, slice_index_or}
use Rattle.crpd_base.specs.Limits.{most_sets}
use Rattle.crpd_base.specs.declared.data.Part.{Part}
use Rattle.crpd_base.specs.declared.data.TaskSet.{TaskSet}
use Rattle.crpd_base.specs.Sets.{has}
use Rattle.crpd_base.specs.Sum.{sum_below}
use Rattle.delay_count.specs.declared.share.Share.{Share}
use Rattle.delay_count.specs.Counts.{jobs_of, affected_preemptions}

-- the share of one cache set: the smaller of the jobs and of the preemptions of those tasks that
-- find it useful
abbrev pub set_share : ℕ → (ℕ → ℕ → Bool) → (ℕ → ℕ) → ℕ → ℕ → ℕ
set_share jobs useful count tasks c =
    min jobs (sum_below (λ k. if useful k c then count k else 0) tasks)

-- the UCB-union multiset count: the sum of the shares of the evicted sets below a number
unfoldable pub union_count : ℕ → (ℕ → Bool) → (ℕ → ℕ → Bool) → (ℕ → ℕ) → ℕ → ℕ → ℕ
union_count jobs evicts useful count tasks sets =
    sum_below (λ c. if evicts c then set_share jobs useful count tasks c else 0) sets

-- the number of sets, below a number, that are useful and evicted
unfoldable pub shared_count : (ℕ → Bool) → (ℕ → Bool) → ℕ → ℕ
shared_count useful evicted sets = sum_below (λ c. if useful c && evicted c then 1 else 0) sets

-- the largest of f 0, .., f n
abbrev pub greatest_to : (ℕ → ℕ) → ℕ → ℕ
greatest_to f zero = f zero
greatest_to f (suc n) = max (f (suc n)) (greatest_to f n)

-- the largest sum of value k * x k over all choices of numbers x 0, .., x (n - 1) with x k at most
-- count k, and their sum at most the budget
abbrev pub greatest_choice : (ℕ → ℕ) → (ℕ → ℕ) → ℕ → ℕ → ℕ
greatest_choice value count zero budget = 0
greatest_choice value count (suc n) budget =
    greatest_to (λ x. greatest_choice value count n (budget - x) + value n * x)
    (min (count n) budget)

-- how often the jobs of a task in a list of shares may be preempted
abbrev pub count_at : {W : ℕ} → List (Share W) → ℕ → ℕ
count_at {W = W} lower k = slice_index (map (λ (s : Share W). s.count) lower) k

-- and its useful sets
abbrev pub useful_at : {W : ℕ} → List (Share W) → ℕ → ℕ → Bool
useful_at {W = W} lower k = has (slice_index_or (map (λ (s : Share W). s.useful) lower) k [])

-- the UCB-union multiset delay by `jobs` jobs that evict sets below a number, given the shares of
-- the tasks that they affect
abbrev pub ucb_delay : {W : ℕ} → ℕ → ℕ → List ℕ → List (Share W) → ℕ → ℕ
ucb_delay miss jobs evicting lower sets =
    miss * union_count jobs (has evicting) (useful_at lower) (count_at lower) (length lower) sets

-- the ECB-union multiset delay, given the sets that these jobs and all of higher priority evict
abbrev pub ecb_delay : {W : ℕ} → ℕ → ℕ → List ℕ → List (Share W) → ℕ → ℕ
ecb_delay miss jobs evicting_up lower sets =
    miss * greatest_choice (λ k. shared_count (useful_at lower k) (has evicting_up) sets)
    (count_at lower) (length lower) jobs

-- the part at a place of a list
abbrev pub part_at : List Part → ℕ → Part
part_at parts k = slice_index_or parts k (record { bound = 0; evicting = []; useful = [] })

-- the UCB-union multiset count of task j in a window w of task i
abbrev pub ucb_count : TaskSet → (ℕ → Part) → (ℕ → ℕ) → ℕ → ℕ → ℕ → ℕ
ucb_count set parts window w i j =
    union_count (jobs_of set j w) (has (parts j).evicting) (λ k. has (parts k).useful)
    (affected_preemptions set window w i j) (suc i) most_sets

-- the UCB-union multiset delay of task j in a window w of task i: a reload for each unit of the
-- count
abbrev pub gamma_ucb : TaskSet → (ℕ → Part) → (ℕ → ℕ) → ℕ → ℕ → ℕ → ℕ
gamma_ucb set parts window w i j = set.platform.miss * ucb_count set parts window w i j

-- whether task j or one above it evicts a cache set
abbrev pub evicted_from : (ℕ → Part) → ℕ → ℕ → Bool
evicted_from parts zero c = has (parts zero).evicting c
evicted_from parts (suc j) c = has (parts (suc j)).evicting c || evicted_from parts j c

-- the number of sets that are useful to task k and evicted by task j or one above it
abbrev pub shared_sets : (ℕ → Part) → ℕ → ℕ → ℕ
shared_sets parts j k = shared_count (has (parts k).useful) (evicted_from parts j) most_sets

-- the ECB-union multiset count of task j in a window w of task i: each of its jobs preempts one
-- affected task, each task at most as often as its preemptions, and evicts that task's shared sets
abbrev pub ecb_count : TaskSet → (ℕ → Part) → (ℕ → ℕ) → ℕ → ℕ → ℕ → ℕ
ecb_count set parts window w i j =
    greatest_choice (shared_sets parts j) (affected_preemptions set window w i j) (suc i)
    (jobs_of set j w)

-- and the ECB-union multiset delay
abbrev pub gamma_ecb : TaskSet → (ℕ → Part) → (ℕ → ℕ) → ℕ → ℕ → ℕ → ℕ
gamma_ecb set parts window w i j = set.platform.miss * ecb_count set parts window w i j
