-- Workloads, of which one is no more demanding than another.
use Rattle.std.specs.Prelude.{◌≡◌, ℕ, ◌<◌, ◌≤◌, IsTrue, List, length}
use Rattle.crpd_base.specs.Sets.{has}
use Rattle.crpd_base.specs.Tasks.{period_of, deadline_of, jitter_of}
use Rattle.crpd_base.specs.declared.data.Part.{Part}
use Rattle.crpd_base.specs.declared.data.Platform.{Platform}
use Rattle.crpd_base.specs.declared.data.TaskSet.{TaskSet}

-- a task set, with the parts and the longest instructions of its tasks
pub record Workload : Type 0 where
  pub set : TaskSet
  pub parts : ℕ → Part
  pub longest : ℕ → ℕ

-- the first tasks, so many, come from tasks of a larger set: each has an origin there, and the
-- priorities are in the same order. A task that is no origin is left away
pub record KeepsOrder (origin : ℕ → ℕ) (tasks larger : ℕ) : Type 0 where
  pub within : (k : ℕ) → k < tasks → origin k < larger
  pub rising : (j k : ℕ) → j < k → k < tasks → origin j < origin k

-- a switch and a miss cost no more, and a switch may happen at the same places
pub record IsNoDearer (less more : Platform) : Type 0 where
  pub switching : less.switching ≡ more.switching
  pub miss : less.miss ≤ more.miss
  pub switch : less.switch ≤ more.switch

-- no period and no deadline is shorter, and no jitter larger
pub record HasLooserTimes (origin : ℕ → ℕ) (less more : TaskSet) : Type 0 where
  pub period : (k : ℕ) → k < length less.tasks → period_of more (origin k) ≤ period_of less k
  pub deadline : (k : ℕ) → k < length less.tasks
      → deadline_of more (origin k) ≤ deadline_of less k
  pub jitter : (k : ℕ) → k < length less.tasks → jitter_of less k ≤ jitter_of more (origin k)

-- each member of a set is one of the other
abbrev pub IsSubset : List ℕ → List ℕ → Type 0
IsSubset less more = (c : ℕ) → IsTrue (has less c) → IsTrue (has more c)

-- the bound is no larger, and there are no further evicting or useful cache sets
pub record IsNoLargerPart (less more : Part) : Type 0 where
  pub bound : less.bound ≤ more.bound
  pub evicting : IsSubset less.evicting more.evicting
  pub useful : IsSubset less.useful more.useful

-- all of this, and no longest instruction is longer
pub record IsNoMoreDemanding (origin : ℕ → ℕ) (less more : Workload) : Type 0 where
  pub order : KeepsOrder origin (length less.set.tasks) (length more.set.tasks)
  pub platform : IsNoDearer less.set.platform more.set.platform
  pub times : HasLooserTimes origin less.set more.set
  pub parts : (k : ℕ) → k < length less.set.tasks
      → IsNoLargerPart (less.parts k) (more.parts (origin k))
  pub longest : (k : ℕ) → k < length less.set.tasks → less.longest k ≤ more.longest (origin k)

-- tasks of a larger set, on the same platform: perhaps fewer, with looser times
pub record IsLooser (origin : ℕ → ℕ) (less more : TaskSet) : Type 0 where
  pub platform : less.platform ≡ more.platform
  pub order : KeepsOrder origin (length less.tasks) (length more.tasks)
  pub times : HasLooserTimes origin less more
