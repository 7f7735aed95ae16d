-- The stored graphs of tasks, and what an account requires of them and of a certificate.
use Rattle.std.specs.Prelude.{◌≡◌, ℕ, ◌<◌, List, length}
use Rattle.crpd_base.specs.declared.data.Certificate.{Certificate}
use Rattle.crpd_base.specs.declared.data.TaskSet.{TaskSet}
use Rattle.crpd_base.specs.Sets.{has}
use Rattle.code_map.specs.Words.{Code}
use Rattle.flat_graph.specs.CodeGraph.{CodeGraph, graph_of, places_of, ins_of, graph_at}
use Rattle.loop_regions.specs.Nest.{Nest}
use Rattle.loop_regions.specs.TaskGraph.{TaskGraph}
use Rattle.loop_regions.specs.TaskSteps.{IsGraphOfTask}
use Rattle.evict_sets.specs.ListedPart.{listed_of, certified_task}
use Rattle.evict_sets.specs.CacheClauses.{MeetsListing, MeetsSets}
use Rattle.evict_sets.specs.Listing.{HasLowSets, node_accesses}

-- the task graph of each task; a ledger does not depend on regions, so they may be any
abbrev pub with_nests : List CodeGraph → (ℕ → Nest) → ℕ → TaskGraph
with_nests graphs nests i =
    record {
      graph = graph_of (graph_at graphs i);
      places = places_of (graph_at graphs i);
      ins = ins_of (graph_at graphs i);
      nest = nests i;
    }

-- there is a graph for each task, which is the flat graph of its code
pub record AreGraphsOf (code : Code) (set : TaskSet) (graphs : List CodeGraph) : Type 0 where
  pub all : length graphs ≡ length set.tasks
  pub each : (i : ℕ) → i < length set.tasks → IsGraphOfTask code i (graph_at graphs i)

-- what a ledger requires of each task: the certificate has a part for it, which lists cache sets
-- below 512 and satisfies the clauses on which full states depend
pub record MeetsTask (set : TaskSet) (graphs : List CodeGraph) (c : Certificate)
    (i : ℕ) : Type 0 where
  pub has_task : i < length c.tasks
  pub low_sets : HasLowSets (certified_task c i)
  pub listing : let g = graph_at graphs i in
      MeetsListing (graph_of g) (node_accesses set.platform g) (listed_of (certified_task c i))

-- each task satisfies this
abbrev pub TasksAreMet : TaskSet → List CodeGraph → Certificate → Type 0
TasksAreMet set graphs c = (i : ℕ) → i < length set.tasks → MeetsTask set graphs c i

-- what the facts of its reloads require in addition: the part satisfies the clauses on useful sets
abbrev pub SetsAreMet : TaskSet → List CodeGraph → Certificate → Type 0
SetsAreMet set graphs c =
    (i : ℕ) → i < length set.tasks →
    let g = graph_at graphs i in
    let t = certified_task c i in
    MeetsSets (graph_of g) (node_accesses set.platform g) (listed_of t)
    (has t.part.evicting) (has t.part.useful)
