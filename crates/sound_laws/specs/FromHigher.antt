-- The tasks that cause a reload.
use Rattle.std.specs.Prelude.{◌≡◌, ◌⊎◌, ℕ, ◌<◌, true, IsTrue, Bool, ◌≤◌}
use Rattle.crpd_base.specs.declared.data.TaskSet.{TaskSet}
use Rattle.evict_sets.specs.Full.{FullUseful}
use Rattle.crpd_base.specs.declared.data.Certificate.{Certificate}
use Rattle.evict_sets.specs.ListedPart.{listed_of}
use Rattle.crpd_base.specs.Sets.{has as has_set}
use Rattle.loop_regions.specs.TaskGraph.{TaskGraph}
use Rattle.cert_check.specs.JudgeInput.{accesses_of}
use Rattle.evict_sets.specs.ListedPart.{certified_task}
use Rattle.preempt_machine.specs.Step.{before, Start, state}
use Rattle.preempt_machine.specs.Safe.{IsRunOf, IsKept}
use Rattle.run_account.specs.Fetches.{job_after, fetched_set}
use Rattle.run_account.specs.Nodes.{job_task, IsNodeOfJob}
use Rattle.run_account.specs.Ledger.{IsPreempted}
use Rattle.sound_laws.specs.Accepted.{IsAccepted}
use Rattle.sound_laws.specs.StepTests.{count_below}

-- a reload's evictor and preemptor are of higher tasks than its job, and the evictor does not come
-- after the preemptor. Its set is in the evictor's evicting set, in its own task's useful set, and
-- in the useful set of the full state of the node at which the job resumed: the node of the second
-- of the two fetches between which the evictor fetched
pub record IsFromHigher (s : Start) (graphs : ℕ → TaskGraph) (c : Certificate) (n x p : ℕ)
    (e : IsPreempted s graphs c n x p) : Type 0 where
  pub evictor : job_task s e.is.evictor.job < job_task s x
  pub preemptor : job_task s p < job_task s x
  pub not_after : (e.is.evictor.job ≡ p) ⊎ (before (state s 0).jobs e.is.evictor.job p ≡ true)
  pub evicts : IsTrue
      (has_set (certified_task c (job_task s e.is.evictor.job)).part.evicting
      (fetched_set s e.fetch))
  pub in_set : IsTrue
      (has_set (certified_task c (job_task s x)).part.useful (fetched_set s e.fetch))
  pub node : ℕ
  pub at : IsNodeOfJob (graphs (job_task s x)) (job_after s e.until x) node
  pub carried : let t = graphs (job_task s x) in
      FullUseful t.graph (accesses_of s.system.platform t)
      (listed_of (certified_task c (job_task s x))) node (fetched_set s e.fetch)

-- after a yes this holds in every run, legal or not
abbrev pub ReloadComesFromHigher : Type 0
ReloadComesFromHigher =
    (s : Start) (set : TaskSet) (graphs : ℕ → TaskGraph) (c : Certificate) (n x p : ℕ) →
    IsAccepted s.system set graphs c → IsRunOf set s →
    (e : IsPreempted s graphs c n x p) → IsFromHigher s graphs c n x p e

-- the reloads of a job with one preemptor are at most as many as the useful sets of the node at
-- which the job resumed
abbrev pub PreemptorWithinUseful : Type 0
PreemptorWithinUseful =
    (s : Start) (set : TaskSet) (graphs : ℕ → TaskGraph) (c : Certificate) (until x p first : ℕ)
    (test useful : ℕ → Bool) →
    IsAccepted s.system set graphs c → IsRunOf set s → IsKept (state s until) →
    (e : IsPreempted s graphs c first x p) →
    ((n : ℕ) → test n ≡ true → (n < until) × IsPreempted s graphs c n x p) →
    ((node z : ℕ) → IsNodeOfJob (graphs (job_task s x)) (job_after s e.until x) node →
    FullUseful (graphs (job_task s x)).graph
    (accesses_of s.system.platform (graphs (job_task s x)))
    (listed_of (certified_task c (job_task s x))) node z → useful z ≡ true) →
    count_below test until ≤ count_below useful s.system.platform.sets
