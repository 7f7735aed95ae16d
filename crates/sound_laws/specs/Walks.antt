-- The nodes of a job's fetches, and that they are a kept walk of its task's graph.
use Rattle.std.specs.Prelude.{◌≡◌, ◌≢◌, ℕ, ◌<◌, ◌≤◌, true, ◌==◌, if◌then◌else◌, List, [], ◌∷◌}
use Rattle.std.specs.Prelude.{length, drop, Some}
use Rattle.crpd_base.specs.Limits.{most_sets}
use Rattle.crpd_base.specs.declared.data.TaskPlan.{TaskPlan}
use Rattle.crpd_base.specs.declared.data.TaskSet.{TaskSet}
use Rattle.rv_decode.specs.Flow.{Words, IsCodeMap, flows}
use Rattle.crpd_base.specs.Tasks.{period_of}
use Rattle.crpd_base.specs.Arrivals.{IsLegal}
use Rattle.flow_watch.specs.Watch.{Frame, is_unbroken}
use Rattle.flat_graph.specs.Graph.{IsWalk}
use Rattle.loop_regions.specs.Nest.{IsKeptWalk}
use Rattle.loop_regions.specs.Watched.{IsWatchedWalk}
use Rattle.loop_regions.specs.TaskGraph.{TaskGraph}
use Rattle.crpd_base.specs.declared.data.Certificate.{Certificate}
use Rattle.evict_sets.specs.ListedPart.{certified_task}
use Rattle.cert_check.specs.declared.outcome.Clause.{Clause}
use Rattle.cert_check.specs.JudgeInput.{IsGraphOf}
use Rattle.cert_check.specs.Verdict.{GraphHolds}
use Rattle.crpd_base.specs.Tasks.{deadline_of}
use Rattle.preempt_machine.specs.Machine.{System, Job, plan_of}
use Rattle.preempt_machine.specs.Step.{is_open, Start}
use Rattle.preempt_machine.specs.Safe.{NamesTasks}
use Rattle.run_account.specs.Fetches.{job_after}
use Rattle.run_account.specs.Nodes.{job_task, plan_at, node_of_job}
use Rattle.run_account.specs.Walks.{fetched_nodes}

-- what the ranges of a task set give
pub record HasTaskRanges (set : TaskSet) : Type 0 where
  pub hit : 1 ≤ set.platform.hit
  pub sets : 1 ≤ set.platform.sets
  pub few_sets : set.platform.sets ≤ most_sets
  pub periods : (k : ℕ) → k < length set.tasks → 1 ≤ period_of set k
  pub deadlines : (k : ℕ) → k < length set.tasks → deadline_of set k ≤ period_of set k

-- what is required of a run: a cache with an entry for each of the platform's sets, jobs of the
-- set's tasks, and a legal script
pub record RunsLegally (set : TaskSet) (s : Start) : Type 0 where
  pub cache : s.system.platform.sets ≤ length s.cache
  pub tasks : NamesTasks set s.lines
  pub legal : IsLegal set s.lines

-- the system runs the set on its code, of which these are the tasks' graphs
pub record IsCodeOf (sys : System) (set : TaskSet) (graphs : ℕ → TaskGraph) : Type 0 where
  pub platform : sys.platform ≡ set.platform
  pub map : IsCodeMap sys.word
  pub graphs_of : (k : ℕ) → k < length set.tasks → IsGraphOf sys.word (plan_of sys k) (graphs k)

-- each task's part of a certificate satisfies the clauses of the task's graph
abbrev pub MeetsGraphs : TaskSet → (ℕ → TaskGraph) → Certificate → Type 0
MeetsGraphs set graphs c =
    (k : ℕ) (clause : Clause) → k < length set.tasks
    → GraphHolds set.platform (graphs k) (certified_task c k) clause

-- the nodes before the job's own node, given the nodes of its fetches; the job may be in the middle
-- of its own node's instruction
abbrev pub before_of : Job → List ℕ → List ℕ
before_of job nodes = if job.left == 0 then nodes else drop 1 nodes

-- a job is at a node to which its fetches lead, with the open loops and counts of the walk
pub record IsOnWalk (words : Words) (plan : TaskPlan) (t : TaskGraph) (job : Job)
    (nodes : List ℕ) : Type 0 where
  pub frames : List Frame
  pub watch : job.watch ≡ Some frames
  pub walked : IsWatchedWalk (flows words) plan t.graph t.places t.nest (node_of_job t job)
      (before_of job nodes) job.pc frames
  pub under_way : job.left ≢ 0 → nodes ≡ node_of_job t job ∷ before_of job nodes

-- no node yet, or a kept walk
abbrev pub IsNoneOrKeptWalk : TaskGraph → List ℕ → Type 0
IsNoneOrKeptWalk t [] = Unit {0}
IsNoneOrKeptWalk t (y ∷ before) = IsWalk t.graph (y ∷ before) × IsKeptWalk t.nest (y ∷ before)

-- a job of a run of the set's jobs that has kept its watch for n steps
pub record IsFollowed (set : TaskSet) (s : Start) (n x : ℕ) : Type 0 where
  -- all jobs are of the set's tasks
  pub tasks : NamesTasks set s.lines
  -- it is one of them
  pub job : x < length s.lines
  -- its watch is not broken
  pub unbroken : is_unbroken (job_after s n x).watch ≡ true

-- the fetches of such a job are a kept walk, and an open one continues from it
abbrev pub FetchesAreKeptWalk : Type 0
FetchesAreKeptWalk =
    (s : Start) (set : TaskSet) (graphs : ℕ → TaskGraph) (n x : ℕ) →
    HasTaskRanges set → IsCodeOf s.system set graphs → IsFollowed set s n x →
    IsNoneOrKeptWalk (graphs (job_task s x)) (fetched_nodes s graphs n x)
    × (is_open (job_after s n x).standing ≡ true
    → IsOnWalk s.system.word (plan_at s x) (graphs (job_task s x)) (job_after s n x)
    (fetched_nodes s graphs n x))
