-- How the delays and the demand grow.
use Rattle.std.specs.Prelude.{◌≡◌, ℕ, suc, ◌<◌, ◌≤◌, List, length}
use Rattle.crpd_base.specs.Limits.{most_sets}
use Rattle.crpd_base.specs.declared.data.Part.{Part}
use Rattle.crpd_base.specs.declared.data.TaskSet.{TaskSet}
use Rattle.crpd_base.specs.declared.data.Method.{Method}
use Rattle.crpd_base.specs.Tasks.{HasTimes}
use Rattle.crpd_base.specs.Sets.{has}
use Rattle.delay_count.specs.declared.share.Share.{Share}
use Rattle.delay_count.specs.Counts.{jobs_of, affected_preemptions}
use Rattle.delay_count.specs.Gamma.{count_at, useful_at, ucb_delay, ecb_delay, gamma_ucb, gamma_ecb}
use Rattle.delay_count.specs.Gamma.{evicted_from}
use Rattle.delay_count.specs.Demand.{gamma, demand}

-- what a demand depends on: a task set, and the parts, longest costs and windows of its tasks
pub record Load : Type 0 where
  pub set : TaskSet
  pub parts : ℕ → Part
  pub longest : ℕ → ℕ
  pub window : ℕ → ℕ

-- the same tasks and cache sets; a reload, a switch, the bounds, the longest costs and the windows
-- of the higher tasks are at least as long
pub record IsCostlier (a b : Load) (i : ℕ) : Type 0 where
  pub tasks : b.set.tasks ≡ a.set.tasks
  pub switching : b.set.platform.switching ≡ a.set.platform.switching
  pub miss : a.set.platform.miss ≤ b.set.platform.miss
  pub switch : a.set.platform.switch ≤ b.set.platform.switch
  pub bound : (k : ℕ) → k ≤ i → (a.parts k).bound ≤ (b.parts k).bound
  pub evicting : (k : ℕ) → k ≤ i → (b.parts k).evicting ≡ (a.parts k).evicting
  pub useful : (k : ℕ) → k ≤ i → (b.parts k).useful ≡ (a.parts k).useful
  pub longest : (k : ℕ) → k < length a.set.tasks → a.longest k ≤ b.longest k
  pub window : (k : ℕ) → k < i → a.window k ≤ b.window k

-- the delay by a higher task, by either method, does not decrease as these and the window grow
abbrev pub DelayGrows : Type 0
DelayGrows =
    (a b : Load) (i j w longer : ℕ) (method : Method) → HasTimes a.set → i < length a.set.tasks
    → j < i → IsCostlier a b i → w ≤ longer →
    gamma a.set a.parts a.window w method i j ≤ gamma b.set b.parts b.window longer method i j

-- nor does the demand
abbrev pub DemandGrows : Type 0
DemandGrows =
    (a b : Load) (i w longer : ℕ) (method : Method) → HasTimes a.set → i < length a.set.tasks
    → IsCostlier a b i → w ≤ longer →
    demand a.set a.parts a.longest a.window i method w
    ≤ demand b.set b.parts b.longest b.window i method longer

-- the shares of the tasks down to i: how often jobs of a higher task j may preempt theirs in a
-- window w of i, and their useful cache sets
pub record AreShares {W : ℕ} (set : TaskSet) (parts : ℕ → Part) (window : ℕ → ℕ) (w i j : ℕ)
    (lower : List (Share W)) : Type 0 where
  pub tasks : length lower ≡ suc i
  pub counts : (k : ℕ) → k ≤ i → count_at lower k ≡ affected_preemptions set window w i j k
  pub useful : (k c : ℕ) → k ≤ i → useful_at lower k c ≡ has (parts k).useful c

-- with these shares the computed UCB-union delay is that of the tasks
abbrev pub UcbOfShares : Type 0
UcbOfShares =
    (W : ℕ) (set : TaskSet) (parts : ℕ → Part) (window : ℕ → ℕ) (w i j : ℕ)
    (lower : List (Share W)) → AreShares set parts window w i j lower →
    ucb_delay set.platform.miss (jobs_of set j w) (parts j).evicting lower most_sets
    ≡ gamma_ucb set parts window w i j

-- and so is the ECB-union one, with the sets that task j and all above it evict
abbrev pub EcbOfShares : Type 0
EcbOfShares =
    (W : ℕ) (set : TaskSet) (parts : ℕ → Part) (window : ℕ → ℕ) (w i j : ℕ)
    (lower : List (Share W)) (up : List ℕ) → AreShares set parts window w i j lower
    → ((c : ℕ) → has up c ≡ evicted_from parts j c) →
    ecb_delay set.platform.miss (jobs_of set j w) up lower most_sets
    ≡ gamma_ecb set parts window w i j
