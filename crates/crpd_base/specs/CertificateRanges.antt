-- The ranges of a certificate, also of a refined one. A certificate that was read is within them;
-- one that is written within them reads back as the same.
use Rattle.std.specs.Prelude.{◌≡◌, ℕ, ◌+◌, ◌<◌, ◌≤◌, ◌^◌, List, [], ◌∷◌, length, All, true}
use Rattle.crpd_base.specs.Limits.{most_sets, most_tasks, most_nodes, longest_time, most_entries}
use Rattle.crpd_base.specs.Limits.{most_analyses}
use Rattle.crpd_base.specs.Ranges.{IsPlatform}
use Rattle.crpd_base.specs.declared.data.AnalysedTask.{AnalysedTask}
use Rattle.crpd_base.specs.declared.data.Analysis.{Analysis}
use Rattle.crpd_base.specs.declared.data.Certificate.{Certificate}
use Rattle.crpd_base.specs.declared.data.NodeState.{NodeState}
use Rattle.crpd_base.specs.declared.data.RefinedCertificate.{RefinedCertificate}
use Rattle.crpd_base.specs.declared.data.TaskPart.{TaskPart}
use Rattle.crpd_base.specs.declared.data.TaskWindow.{TaskWindow}
use Rattle.crpd_base.specs.Names.{is_name}
use Rattle.crpd_base.specs.Entries.{entries, refined_entries}

-- each number is above the one before: the first at least low, all below a limit
abbrev pub RiseFrom : {A : Type 0} → (A → ℕ) → ℕ → ℕ → List A → Type 0
RiseFrom number low limit [] = Unit
RiseFrom number low limit (x ∷ xs) =
    (low ≤ number x) × (number x < limit) × RiseFrom number (number x + 1) limit xs

-- the sure pairs of a node: their cache sets increase, and their blocks have 32 bits
pub record IsState (s : NodeState) : Type 0 where
  pub sets : RiseFrom (λ (p : ℕ × ℕ). p.0) 0 most_sets s.sure
  pub blocks : All (λ (p : ℕ × ℕ). p.1 < 2 ^ 32) s.sure

-- a node with at most 512 sure pairs
pub record HasFewPairs (s : NodeState) : Type 0 where
  pub few : length s.sure ≤ most_sets

-- at most 16,384 potentials, each at most 2^40
pub record ArePotentials (numbers : List ℕ) : Type 0 where
  pub few : length numbers ≤ most_nodes
  pub each : All (λ n. n ≤ longest_time) numbers

-- a task: its nodes increase
pub record IsTaskPart (t : TaskPart) : Type 0 where
  pub bound : t.part.bound ≤ 2 ^ 41
  pub loops : ArePotentials t.loops
  pub name : is_name t.name ≡ true
  pub potentials : ArePotentials t.potentials
  pub response : t.response ≤ 2 ^ 41
  pub nodes : RiseFrom (λ (s : NodeState). s.node) 0 most_nodes t.states
  pub states : All IsState t.states
  pub window : t.window ≤ longest_time

-- 1 to 32 tasks
pub record AreTasks (tasks : List TaskPart) : Type 0 where
  pub some : 1 ≤ length tasks
  pub few : length tasks ≤ most_tasks
  pub each : All IsTaskPart tasks

-- at most 4,000,000 state entries
pub record IsCertificate (c : Certificate) : Type 0 where
  pub platform : IsPlatform c.platform
  pub tasks : AreTasks c.tasks
  pub entries : entries c.tasks ≤ most_entries

-- a task of an analysis: its nodes increase
pub record IsAnalysedTask (t : AnalysedTask) : Type 0 where
  pub bound : t.part.bound ≤ 2 ^ 41
  pub loops : ArePotentials t.loops
  pub name : is_name t.name ≡ true
  pub potentials : ArePotentials t.potentials
  pub nodes : RiseFrom (λ (s : NodeState). s.node) 0 most_nodes t.states
  pub states : All IsState t.states

-- an analysis: 1 to 32 tasks
pub record IsAnalysis (a : Analysis) : Type 0 where
  pub some : 1 ≤ length a.tasks
  pub few : length a.tasks ≤ most_tasks
  pub each : All IsAnalysedTask a.tasks

-- 1 to 4 analyses
pub record AreAnalyses (analyses : List Analysis) : Type 0 where
  pub some : 1 ≤ length analyses
  pub few : length analyses ≤ most_analyses
  pub each : All IsAnalysis analyses

-- the window of a task, by one of that many analyses
pub record IsTaskWindow (analyses : ℕ) (w : TaskWindow) : Type 0 where
  pub analysis : w.analysis < analyses
  pub name : is_name w.name ≡ true
  pub response : w.response ≤ 2 ^ 41
  pub window : w.window ≤ longest_time

-- 1 to 32 windows
pub record AreTaskWindows (analyses : ℕ) (windows : List TaskWindow) : Type 0 where
  pub some : 1 ≤ length windows
  pub few : length windows ≤ most_tasks
  pub each : All (IsTaskWindow analyses) windows

-- at most 4,000,000 state entries over all analyses
pub record IsRefinedInRange (c : RefinedCertificate) : Type 0 where
  pub platform : IsPlatform c.platform
  pub analyses : AreAnalyses c.analyses
  pub windows : AreTaskWindows (length c.analyses) c.windows
  pub entries : refined_entries c.analyses ≤ most_entries
