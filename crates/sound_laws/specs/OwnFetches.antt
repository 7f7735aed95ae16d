-- A job's own last fetches agree with the full states, and a ledger's reload is its job's own.
use Rattle.std.specs.Prelude.{◌≡◌, ◌≢◌, ℕ, Bool, true, IsTrue}
use Rattle.crpd_base.specs.declared.data.TaskSet.{TaskSet}
use Rattle.evict_sets.specs.Full.{FullState, FullUseful}
use Rattle.evict_sets.specs.CacheClauses.{StateAfter}
use Rattle.crpd_base.specs.declared.data.TaskPart.{TaskPart}
use Rattle.crpd_base.specs.declared.data.Certificate.{Certificate}
use Rattle.evict_sets.specs.ListedPart.{listed_of}
use Rattle.crpd_base.specs.Sets.{has as has_set}
use Rattle.loop_regions.specs.TaskGraph.{TaskGraph}
use Rattle.cert_check.specs.PotentialClauses.{CountsHits}
use Rattle.cert_check.specs.JudgeInput.{accesses_of}
use Rattle.evict_sets.specs.ListedPart.{certified_task}
use Rattle.preempt_machine.specs.Step.{is_open, Fetch, Start}
use Rattle.run_account.specs.Fetches.{job_after}
use Rattle.run_account.specs.Reloads.{HasOwn, IsOwnReload}
use Rattle.run_account.specs.Nodes.{job_task, IsNodeOfJob}
use Rattle.sound_laws.specs.Walks.{IsFollowed}
use Rattle.sound_laws.specs.Accepted.{IsAccepted}
use Rattle.sound_laws.specs.StepTests.{makes_reload}

-- each block that the full state of a job's node gives to a set is the block of the job's own last
-- fetch to it; while an instruction is under way, the same holds of the state after its node
pub record OwnFetchesAgree (s : Start) (t : TaskGraph) (c : TaskPart) (n x : ℕ) : Type 0 where
  pub node : ℕ
  pub at : IsNodeOfJob t (job_after s n x) node
  pub between : (job_after s n x).left ≡ 0 → (set m : ℕ)
      → FullState t.graph (accesses_of s.system.platform t) (listed_of c) node set m
      → HasOwn s x set n m
  pub within : (job_after s n x).left ≢ 0 → (set m : ℕ)
      → StateAfter t.graph (accesses_of s.system.platform t) (listed_of c) node set m
      → HasOwn s x set n m

-- after a yes this holds of an open job whose watch is not broken
abbrev pub OwnFetchesAgreeLaw : Type 0
OwnFetchesAgreeLaw =
    (s : Start) (set : TaskSet) (graphs : ℕ → TaskGraph) (c : Certificate) (n x : ℕ) →
    IsAccepted s.system set graphs c → IsFollowed set s n x →
    is_open (job_after s n x).standing ≡ true →
    OwnFetchesAgree s (graphs (job_task s x)) (certified_task c (job_task s x)) n x

-- a ledger's reload is its job's own, and its set is in the useful set of its node and of its task
pub record IsUsefulReload (s : Start) (t : TaskGraph) (c : TaskPart) (n x : ℕ) : Type 0 where
  pub own_time : ℕ
  pub own : Fetch
  pub reload : IsOwnReload s x n own_time (record { job = x; address = (job_after s n x).pc }) own
  pub node : ℕ
  pub at : IsNodeOfJob t (job_after s n x) node
  pub useful : FullUseful t.graph (accesses_of s.system.platform t) (listed_of c) node
      ((accesses_of s.system.platform t).set node)
  pub in_set : IsTrue (has_set c.part.useful ((accesses_of s.system.platform t).set node))

-- after a yes, with any test of the hits that are counted
abbrev pub LedgerReloadsAreOwn : Type 0
LedgerReloadsAreOwn =
    (s : Start) (set : TaskSet) (graphs : ℕ → TaskGraph) (c : Certificate) (n x : ℕ)
    (is_hit : ℕ → Bool) → IsAccepted s.system set graphs c → IsFollowed set s n x →
    let t = graphs (job_task s x) in
    let part = certified_task c (job_task s x) in
    CountsHits t.graph (accesses_of s.system.platform t) (listed_of part) is_hit
    → makes_reload s t is_hit x n ≡ true → IsUsefulReload s t part n x
