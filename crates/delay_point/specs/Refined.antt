-- The refined windows: for each task the smallest by five methods.
use Rattle.std.specs.Prelude.{◌≡◌, ℕ, ◌+◌, ◌<◌, ◌≤◌, List, length, map, slice_index, slice_index_or}
use Rattle.crpd_base.specs.declared.data.Part.{Part}
use Rattle.crpd_base.specs.declared.data.TaskSet.{TaskSet}
use Rattle.crpd_base.specs.Tasks.{jitter_of}
use Rattle.delay_count.specs.Gamma.{gamma_ucb, gamma_ecb}
use Rattle.delay_count.specs.Demand.{demand_by}
use Rattle.response.specs.Windows.{IsWindow}
use Rattle.loop_regions.specs.TaskGraph.{TaskGraph}
use Rattle.cert_check.specs.JudgeInput.{longest_at}
use Rattle.crpd_base.specs.declared.data.PointMethod.{PointMethod}
use Rattle.crpd_base.specs.declared.data.PointMethod.TheVariants.{Ucb, Ecb, Point}
use Rattle.crpd_base.specs.declared.data.PointMethod.TheVariants.{PersistentUcb, PersistentPoint}
use Rattle.crpd_base.specs.declared.data.RefinedTask.{RefinedTask}
use Rattle.delay_point.specs.Gamma.{point_shared, gamma_point}
use Rattle.delay_point.specs.Chosen.{RefinedParts, AreRefinedParts, parts_by, bound_by}

-- the delay of task j in a window w of task i by a method, with parts and with the most that is
-- shared at a node
abbrev pub refined_gamma : TaskSet → (ℕ → Part) → (ℕ → ℕ → ℕ) → (ℕ → ℕ) → ℕ → PointMethod → ℕ → ℕ
    → ℕ
refined_gamma set parts shared window w Ucb i j = gamma_ucb set parts window w i j
refined_gamma set parts shared window w Ecb i j = gamma_ecb set parts window w i j
refined_gamma set parts shared window w Point i j = gamma_point set shared window w i j
refined_gamma set parts shared window w PersistentUcb i j = gamma_ucb set parts window w i j
refined_gamma set parts shared window w PersistentPoint i j = gamma_point set shared window w i j

-- the demand of a window w of task i by a method, given the most that is shared at a node, the
-- longest instructions of the tasks and the windows of the higher ones
abbrev pub refined_demand : TaskSet → (ℕ → Part) → (ℕ → ℕ → ℕ) → (ℕ → ℕ) → (ℕ → ℕ) → ℕ
    → PointMethod → ℕ → ℕ
refined_demand set parts shared longest window i method w =
    demand_by set parts longest i (refined_gamma set parts shared window w method i) w

-- the order in which the methods are tried
abbrev pub place : PointMethod → ℕ
place Ucb = 0
place Ecb = 1
place Point = 2
place PersistentUcb = 3
place PersistentPoint = 4

-- the smallest of the windows that the methods give, and the first method that gives it: one
-- method for the whole task
pub record IsRefinedWindow (set : TaskSet) (needs : PointMethod → ℕ → ℕ) (i : ℕ)
    (method : PointMethod) (w : ℕ) : Type 0 where
  pub window : IsWindow set (needs method) i w
  pub least : (m : PointMethod) (v : ℕ) → IsWindow set (needs m) i v → w ≤ v
  pub first : (m : PointMethod) (v : ℕ) → place m < place method → IsWindow set (needs m) i v
      → w < v

-- the window of a task of a list
abbrev pub window_at : List RefinedTask → ℕ → ℕ
window_at tasks k = slice_index (map (λ (t : RefinedTask). t.window) tasks) k

-- the method of a task of a list
abbrev pub method_at : List RefinedTask → ℕ → PointMethod
method_at tasks k = slice_index_or (map (λ (t : RefinedTask). t.method) tasks) k Ucb

-- the execution bound of a task of a list
abbrev pub bound_at : List RefinedTask → ℕ → ℕ
bound_at tasks k = slice_index (map (λ (t : RefinedTask). t.bound) tasks) k

-- the responses of all tasks
abbrev pub responses : List RefinedTask → List ℕ
responses tasks = map (λ (t : RefinedTask). t.response) tasks

-- the demand of a task's window, from the windows of higher tasks, a task, a method and the window
abbrev pub Needs : Type 0
Needs = (ℕ → ℕ) → ℕ → PointMethod → ℕ → ℕ

-- the execution bound of a task's part, for a task and a method
abbrev pub Bounds : Type 0
Bounds = ℕ → PointMethod → ℕ

-- the refined windows of the first n tasks by their demands, each with those of the higher ones,
-- and with the bound of the task for its method
pub record AreFirstRefined (set : TaskSet) (needs : Needs) (bounds : Bounds) (n : ℕ)
    (tasks : List RefinedTask) : Type 0 where
  pub size : length tasks ≡ n
  pub bound : (i : ℕ) → i < n → bound_at tasks i ≡ bounds i (method_at tasks i)
  pub window : (i : ℕ) → i < n
      → IsRefinedWindow set (needs (window_at tasks) i) i (method_at tasks i) (window_at tasks i)
  pub response : (i : ℕ) → i < n
      → slice_index (responses tasks) i ≡ window_at tasks i + jitter_of set i

-- the demands by the methods, each with the parts of all tasks that it counts and the sets that are
-- useful at their nodes
abbrev pub point_needs : TaskSet → (ℕ → TaskGraph) → RefinedParts → Needs
point_needs set graphs all window i method =
    let parts = parts_by all method in
    refined_demand set parts.part (point_shared graphs parts.useful parts.part)
    (longest_at set.platform graphs) window i method

-- the refined windows of all tasks, with these parts
abbrev pub AreRefinedBy : TaskSet → (ℕ → TaskGraph) → RefinedParts → List RefinedTask → Type 0
AreRefinedBy set graphs parts =
    AreFirstRefined set (point_needs set graphs parts) (bound_by parts) (length set.tasks)

-- the refined windows of a task set with its graphs
pub record AreRefined (set : TaskSet) (graphs : ℕ → TaskGraph)
    (tasks : List RefinedTask) : Type 0 where
  pub parts : RefinedParts
  pub are : AreRefinedParts set graphs parts
  pub by : AreRefinedBy set graphs parts tasks
