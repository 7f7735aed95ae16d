-- Workloads with the parts by which windows are refined.
use Rattle.std.specs.Prelude.{ℕ, ◌<◌, Bool, IsTrue, length}
use Rattle.crpd_base.specs.declared.data.PointMethod.{PointMethod}
use Rattle.crpd_base.specs.declared.data.TaskSet.{TaskSet}
use Rattle.loop_regions.specs.TaskGraph.{TaskGraph}
use Rattle.cert_check.specs.JudgeInput.{longest_at}
use Rattle.delay_point.specs.Chosen.{RefinedParts, parts_by}
use Rattle.sustainability.specs.Workload.{Workload, IsNoMoreDemanding}

-- a task set, with its graphs and the parts by which its windows are refined
pub record RefinedWorkload : Type 0 where
  pub set : TaskSet
  pub graphs : ℕ → TaskGraph
  pub parts : RefinedParts

-- what a window by a method counts of it
abbrev pub counted_by : PointMethod → RefinedWorkload → Workload
counted_by method load = record {
  set = load.set;
  parts = (parts_by load.parts method).part;
  longest = longest_at load.set.platform load.graphs;
}

-- the sets that are useful at a node of a task, by the parts that a method counts
abbrev pub useful_by : PointMethod → RefinedWorkload → ℕ → ℕ → ℕ → Bool
useful_by method load = (parts_by load.parts method).useful

-- a node of another task at which all sets are useful that are useful at this one
pub record HasFullerNode (here : ℕ → Bool) (nodes : ℕ) (there : ℕ → ℕ → Bool) : Type 0 where
  pub node : ℕ
  pub within : node < nodes
  pub useful : (c : ℕ) → IsTrue (here c) → IsTrue (there node c)

-- the first workload is no more demanding by what each method counts, and has no further sets that
-- are useful at one node
pub record IsNoMoreDemandingAtNodes (origin : ℕ → ℕ) (less more : RefinedWorkload) : Type 0 where
  pub counted : (method : PointMethod)
      → IsNoMoreDemanding origin (counted_by method less) (counted_by method more)
  pub nodes : (method : PointMethod) (k y : ℕ) → k < length less.set.tasks
      → y < (less.graphs k).graph.size
      → HasFullerNode (useful_by method less k y) (more.graphs (origin k)).graph.size
      (useful_by method more (origin k))
