-- The certificate that is made, and when there is none.
use Rattle.std.specs.Prelude.{◌≡◌, ℕ, ◌+◌, ◌<◌, ◌≤◌, List, length, slice_index_or}
use Rattle.crpd_base.specs.Limits.{longest_time, most_entries}
use Rattle.crpd_base.specs.declared.data.Platform.{Platform}
use Rattle.crpd_base.specs.declared.data.TaskSet.{TaskSet}
use Rattle.crpd_base.specs.declared.data.Part.{Part}
use Rattle.crpd_base.specs.declared.data.TaskPart.{TaskPart}
use Rattle.crpd_base.specs.declared.data.Certificate.{Certificate}
use Rattle.crpd_base.specs.Tasks.{jitter_of}
use Rattle.loop_regions.specs.TaskGraph.{TaskGraph}
use Rattle.evict_sets.specs.ListedPart.{no_task_part, certified_task}
use Rattle.delay_count.specs.Demand.{demand}
use Rattle.response.specs.Windows.{IsSmallerWindow, IsFirstWithoutWindow, IsWindowError}
use Rattle.response.specs.declared.choice.WindowError.{WindowError}
use Rattle.cert_check.specs.JudgeInput.{certified_part, window_at, longest_at, name_at}
use Rattle.cert_model.specs.Reading.{entries}
use Rattle.cert_build.specs.Best.{Demands, IsBestPart}
use Rattle.cert_build.specs.Analysis.{part_with, HasLargeBound}
use Rattle.cert_build.specs.declared.one_task.Analysis.{Analysis}
use Rattle.cert_build.specs.declared.error.BuildError.{BuildError}
use Rattle.cert_build.specs.declared.error.BuildError.TheVariants.{Memory, TooLarge, TooManyEntries}
use Rattle.cert_build.specs.declared.error.BuildError.TheVariants.{Unschedulable}

-- the input of windows from the k-th part
abbrev pub part_in : List TaskPart → ℕ → Part
part_in parts k = (slice_index_or parts k no_task_part).part

-- the parts of all tasks, of which only the analyses matter, with bounds of at most 2^40
pub record AreBestParts (set : TaskSet) (graphs : ℕ → TaskGraph)
    (parts : List TaskPart) : Type 0 where
  pub tasks : length parts ≡ length set.tasks
  pub each : (k : ℕ) → k < length set.tasks
      → IsBestPart set.platform (graphs k) (slice_index_or parts k no_task_part)
  pub within : (k : ℕ) → k < length set.tasks → (part_in parts k).bound ≤ longest_time

-- why a task has no analysis, as an error of the certificate
abbrev pub IsTaskError : Platform → TaskGraph → ℕ → BuildError → Type 0
IsTaskError p t task Memory = Unit {0}
IsTaskError p t task (TooLarge named address) =
    (named.0 ≡ task) × HasLargeBound p t × (address ≡ t.places.address t.graph.first)
IsTaskError p t task _ = ⊥

-- the first task whose bound exceeds 2^40
pub record IsFirstLarge (set : TaskSet) (graphs : ℕ → TaskGraph) (i : ℕ) : Type 0 where
  pub task : i < length set.tasks
  pub large : HasLargeBound set.platform (graphs i)
  pub before : (k : ℕ) → k < i → HasLargeBound set.platform (graphs k) → ⊥

-- when the analyses of all tasks fail: out of memory, at any time; a bound that is too large, for
-- the first such task, with the address of its entry; otherwise more than 4,000,000 state entries
-- of all parts
abbrev pub HaveNoAnalyses : TaskSet → (ℕ → TaskGraph) → BuildError → Type 0
HaveNoAnalyses set graphs Memory = Unit {0}
HaveNoAnalyses set graphs (TooLarge t address) =
    IsFirstLarge set graphs t.0 × (address ≡ (graphs t.0).places.address (graphs t.0).graph.first)
HaveNoAnalyses set graphs (TooManyEntries n) =
    (parts : List TaskPart) × AreBestParts set graphs parts × (n ≡ entries parts)
    × (most_entries < n)
HaveNoAnalyses set graphs (Unschedulable t) = ⊥

-- the condition of each error of a certificate by a demand: those of the analyses; otherwise the
-- first task without a window
abbrev pub IsRefusedBy : TaskSet → Demands → (ℕ → TaskGraph) → BuildError → Type 0
IsRefusedBy set demands graphs (Unschedulable t) =
    (parts : List TaskPart) × AreBestParts set graphs parts × (entries parts ≤ most_entries)
    × IsFirstWithoutWindow set (demands (part_in parts) (longest_at set.platform graphs)) t.0
IsRefusedBy set demands graphs e = HaveNoAnalyses set graphs e

-- and of each error of the analysis' certificate
abbrev pub IsBuildError : TaskSet → (ℕ → TaskGraph) → BuildError → Type 0
IsBuildError set = IsRefusedBy set (demand set)

-- a certificate with these analyses, whatever its windows: each with its task's name, and as
-- response its window plus jitter
pub record HasParts (set : TaskSet) (analyses : ℕ → Analysis) (c : Certificate) : Type 0 where
  pub platform : c.platform ≡ set.platform
  pub tasks : length c.tasks ≡ length set.tasks
  pub part : (k : ℕ) → k < length set.tasks →
      certified_task c k ≡ part_with (analyses k) (name_at set k) (certified_task c k).method
      (window_at c k) (window_at c k + jitter_of set k)

-- the certificate of these analyses, with the smaller window of each task by a demand
pub record IsCompletedBy (set : TaskSet) (demands : Demands) (graphs : ℕ → TaskGraph)
    (analyses : ℕ → Analysis) (c : Certificate) : Type 0 where
  pub parts : HasParts set analyses c
  pub smaller : (k : ℕ) → k < length set.tasks → IsSmallerWindow set
      (demands (certified_part c) (longest_at set.platform graphs) (window_at c) k) k
      (certified_task c k).method (window_at c k)

-- the same with the multiset delays
abbrev pub IsCompleted : TaskSet → (ℕ → TaskGraph) → (ℕ → Analysis) → Certificate → Type 0
IsCompleted set = IsCompletedBy set (demand set)

-- when these analyses have no windows by a demand
abbrev pub HaveNoWindowsBy : TaskSet → Demands → (ℕ → TaskGraph) → (ℕ → Analysis) → WindowError
    → Type 0
HaveNoWindowsBy set demands graphs analyses =
    IsWindowError set (demands (λ k. (analyses k).part) (longest_at set.platform graphs))

-- when they have none with the multiset delays
abbrev pub HasNoWindows : TaskSet → (ℕ → TaskGraph) → (ℕ → Analysis) → WindowError → Type 0
HasNoWindows set = HaveNoWindowsBy set (demand set)
