-- The cycles that a job executes are paid for by its bound and its reloads.
use Rattle.std.specs.Prelude.{◌≡◌, ℕ, ◌+◌, ◌*◌, ◌≤◌, Bool, true}
use Rattle.crpd_base.specs.declared.data.TaskPart.{TaskPart}
use Rattle.crpd_base.specs.declared.data.TaskSet.{TaskSet}
use Rattle.crpd_base.specs.declared.data.Certificate.{Certificate}
use Rattle.cert_check.specs.ListedPotentials.{potentials_of}
use Rattle.loop_regions.specs.Potentials.{rest as rest_by}
use Rattle.loop_regions.specs.TaskGraph.{TaskGraph}
use Rattle.evict_sets.specs.ListedPart.{listed_of, certified_task}
use Rattle.cert_check.specs.PotentialClauses.{CountsHits}
use Rattle.cert_check.specs.JudgeInput.{accesses_of}
use Rattle.preempt_machine.specs.Step.{is_open, Start}
use Rattle.run_account.specs.Fetches.{job_after}
use Rattle.run_account.specs.Nodes.{job_task, plan_at}
use Rattle.run_account.specs.Walks.{fetched_nodes}
use Rattle.sound_laws.specs.Walks.{IsFollowed}
use Rattle.sound_laws.specs.Accepted.{IsAccepted}
use Rattle.sound_laws.specs.CyclesToGo.{cycles_to_go, rest_of_walk, has_rest}
use Rattle.sound_laws.specs.StepTests.{executes, makes_reload, count_below}

-- of job x after n steps, with a part of its task and a test of the hits that are counted: the
-- cycles that it has executed plus those that remain are at most its bound plus the cost of a miss
-- for each of its reloads so far. The rest of an open job that has one is at least 1
pub record IsPaidFor (s : Start) (graphs : ℕ → TaskGraph) (part : TaskPart) (is_hit : ℕ → Bool)
    (n x : ℕ) : Type 0 where
  pub within : let t = graphs (job_task s x) in
      count_below (executes s x) n
      + cycles_to_go s.system (plan_at s x) t (rest_by t.nest (potentials_of part)) (job_after s n x)
      (fetched_nodes s graphs n x)
      ≤ part.part.bound + s.system.platform.miss * count_below (makes_reload s t is_hit x) n
  pub rest : let t = graphs (job_task s x) in
      let job = job_after s n x in
      is_open job.standing ≡ true → has_rest s.system (plan_at s x) job ≡ true
      → 1 ≤ rest_of_walk s.system (plan_at s x) t (rest_by t.nest (potentials_of part)) job
      (fetched_nodes s graphs n x)

-- after a yes this holds with any test of the hits that are counted
abbrev pub ExecutionWithinBound : Type 0
ExecutionWithinBound =
    (s : Start) (set : TaskSet) (graphs : ℕ → TaskGraph) (c : Certificate) (n x : ℕ)
    (is_hit : ℕ → Bool) → IsAccepted s.system set graphs c → IsFollowed set s n x →
    let t = graphs (job_task s x) in
    let part = certified_task c (job_task s x) in
    CountsHits t.graph (accesses_of s.system.platform t) (listed_of part) is_hit
    → IsPaidFor s graphs part is_hit n x
