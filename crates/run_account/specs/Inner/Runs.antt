-- A run that is followed: what stays the same along it, and what is required of it.
use Rattle.std.specs.Prelude.{◌≡◌, ℕ, ◌<◌, ◌≤◌, ◌+◌, ◌^◌, Bool, false, List, [], length, map}
use Rattle.std.specs.Prelude.{Option, Some, None, slice_get}
use Rattle.crpd_base.specs.Ranges.{IsTaskSet}
use Rattle.crpd_base.specs.declared.data.Certificate.{Certificate}
use Rattle.crpd_base.specs.declared.data.Platform.{Platform}
use Rattle.rv_decode.specs.Address.{end_address}
use Rattle.code_map.specs.Words.{word_at}
use Rattle.flat_graph.specs.CodeGraph.{CodeGraph, graph_of, graph_at}
use Rattle.loop_regions.specs.Nest.{Nest}
use Rattle.loop_regions.specs.TaskGraph.{TaskGraph}
use Rattle.evict_sets.specs.ListedPart.{listed_of, certified_task}
use Rattle.preempt_machine.specs.Safe.{IsKept, NamesTasks}
use Rattle.preempt_machine.specs.Step.{Start, state}
use Rattle.run_account.specs.declared.run.Hits.{Hits}
use Rattle.run_account.specs.declared.run.Run.{Run}
use Rattle.evict_sets.specs.Listing.{CountsHits, counted, node_accesses}
use Rattle.run_account.specs.declared.trails.Trails.{Trails}
use Rattle.run_account.specs.Ledger.{IsLedger}
use Rattle.run_account.specs.Inner.Trails.{ledger_reload_of, AreTrailsOf}
use Rattle.preempt_machine.specs.Starts.{start_of_script}
use Rattle.run_account.specs.AccountGraphs.{with_nests, AreGraphsOf, TasksAreMet}

-- an account does not depend on regions, so there are none
abbrev pub no_nests : ℕ → Nest
no_nests i = record { size = 0; head = λ r. 0; bound = λ r. 0; holds = λ r y. false }

-- what the run starts from
abbrev pub run_start : Run → Start
run_start r = start_of_script r.set.now r.code.now r.script.now

-- the task graph of each task
abbrev pub run_graphs : Run → ℕ → TaskGraph
run_graphs r = with_nests r.graphs.now no_nests

-- the certificate
abbrev pub run_certificate : Run → Certificate
run_certificate r = r.certificate.now

-- the flags of a task
abbrev pub flags_by : Option Hits → List Bool
flags_by None = []
flags_by (Some h) = h.flags.items

-- the flags of the task at a place
abbrev pub flags_of : List Hits → ℕ → List Bool
flags_of all i = flags_by (slice_get all i)

-- the flags of each task say which nodes of its graph are counted as hits
pub record AreHits (p : Platform) (graphs : List CodeGraph) (c : Certificate)
    (all : List Hits) : Type 0 where
  pub tasks : length all ≡ length graphs
  pub nodes : (i : ℕ) → i < length graphs
      → length (flags_of all i) ≡ length (graph_at graphs i).nodes
  pub each : (i : ℕ) → i < length graphs
      → CountsHits (graph_of (graph_at graphs i)) (node_accesses p (graph_at graphs i))
      (listed_of (certified_task c i)) (counted (flags_of all i))

-- what an account requires, with the flags
pub record HasAccountInput (r : Run) : Type 0 where
  pub set : IsTaskSet r.set.now
  pub plans : length r.code.now.plans ≡ length r.set.now.tasks
  pub words : (a w : ℕ) → word_at r.code.now.images a ≡ Some w
      → (a + 4 ≤ end_address) × (w < 2 ^ 32)
  pub graphs : AreGraphsOf r.code.now r.set.now r.graphs.now
  pub met : TasksAreMet r.set.now r.graphs.now r.certificate.now
  pub tasks : NamesTasks r.set.now r.script.now.jobs
  pub hits : AreHits r.set.now.platform r.graphs.now r.certificate.now r.hits.now

-- the fetches of the first n steps are recorded as long as no watch is broken
pub record IsFollowed (r : Run) (n : ℕ) (t : Trails) : Type 0 where
  pub ready : HasAccountInput r
  pub noted : IsKept (state (run_start r) n)
      → AreTrailsOf (run_start r) (run_graphs r) (run_certificate r) n t
  pub ledger : IsLedger (run_start r) (run_graphs r) (run_certificate r) n
      (map ledger_reload_of t.reloads.items)
