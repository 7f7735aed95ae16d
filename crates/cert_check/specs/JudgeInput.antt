-- What the checker reads of graphs and certificates.
use Rattle.std.specs.Prelude.{◌≡◌, ℕ, ◌<◌, List, [], Some, slice_index_or, map}
use Rattle.crpd_base.specs.declared.data.Platform.{Platform}
use Rattle.crpd_base.specs.declared.data.Part.{Part}
use Rattle.crpd_base.specs.declared.data.TaskPlan.{TaskPlan}
use Rattle.crpd_base.specs.declared.data.TaskSpec.{TaskSpec}
use Rattle.crpd_base.specs.declared.data.TaskSet.{TaskSet}
use Rattle.crpd_base.specs.declared.data.TaskPart.{TaskPart}
use Rattle.crpd_base.specs.declared.data.Certificate.{Certificate}
use Rattle.rv_decode.specs.Flow.{Words, flows}
use Rattle.rv_decode.specs.Table.{ins_of_word}
use Rattle.icache.specs.Accesses.{Accesses, accesses}
use Rattle.flat_graph.specs.FlatGraph.{HasNoErrors}
use Rattle.flat_graph.specs.Numbered.{FollowsCode}
use Rattle.loop_regions.specs.Stated.{IsRegions, HasNoLoopRefusals}
use Rattle.loop_regions.specs.TaskGraph.{TaskGraph, node_code_of, answering}
use Rattle.evict_sets.specs.Longest.{longest}
use Rattle.evict_sets.specs.ListedPart.{certified_task}

-- the accesses at a task's nodes
abbrev pub accesses_of : Platform → TaskGraph → Accesses
accesses_of p t = accesses p t.places.address

-- the longest cost of one instruction of a task
abbrev pub longest_of : Platform → TaskGraph → ℕ
longest_of p t = longest p t.graph (node_code_of t) (answering t)

-- the task graph is that of the code from the plan's entry, and has none of the refusals of graphs
-- and loops
pub record IsGraphOf (words : Words) (plan : TaskPlan) (t : TaskGraph) : Type 0 where
  pub follows : FollowsCode (flows words) plan.entry t.graph t.places
  pub no_errors : HasNoErrors (flows words) plan.entry
  pub instructions : (u w : ℕ) → u < t.graph.size → words (t.places.address u) ≡ Some w
      → ins_of_word w ≡ Some (t.ins u)
  pub regions : IsRegions t.graph t.places plan.loops t.nest
  pub accepted : HasNoLoopRefusals t.graph t.nest

-- the certified window of the task at a place
abbrev pub window_at : Certificate → ℕ → ℕ
window_at c i = (certified_task c i).window

-- the part of each task that matters for windows
abbrev pub certified_part : Certificate → ℕ → Part
certified_part c i = (certified_task c i).part

-- the longest cost of one instruction of the task at a place
abbrev pub longest_at : Platform → (ℕ → TaskGraph) → ℕ → ℕ
longest_at p graphs i = longest_of p (graphs i)

-- the name of a task of a set
abbrev pub name_at : TaskSet → ℕ → List ℕ
name_at set i = slice_index_or (map (λ (k : TaskSpec). k.name) set.tasks) i []

-- the reported responses
abbrev pub responses : Certificate → List ℕ
responses c = map (λ (t : TaskPart). t.response) c.tasks
