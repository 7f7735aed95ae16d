-- What a sound part says of each job of its task: the cycles that it executes are paid for, its
-- reloads are its own, and what its states hold is in credit or its own.
use Rattle.std.specs.Prelude.{◌≡◌, ◌≢◌, ◌⊎◌, ℕ, ◌+◌, ◌*◌, ◌<◌, ◌≤◌, true, Option, IsTrue, length}
use Rattle.crpd_base.specs.declared.data.TaskSet.{TaskSet}
use Rattle.crpd_base.specs.Sets.{has}
use Rattle.icache.specs.Accesses.{accesses}
use Rattle.icache.specs.Cache.{block_of, set_of}
use Rattle.loop_regions.specs.TaskGraph.{TaskGraph}
use Rattle.walk_parts.specs.Credit.{Payments, in_credit, After, ArePrepaid, given_by}
use Rattle.walk_parts.specs.Parts.{WalkPart, IsSoundPart}
use Rattle.preempt_machine.specs.Step.{is_open, Fetch, Start, state}
use Rattle.preempt_machine.specs.Safe.{IsRunOf, IsKept, IsAnsweredBy}
use Rattle.run_account.specs.Fetches.{job_after}
use Rattle.run_account.specs.Nodes.{job_task, plan_at, node_of_job, IsNodeOfJob}
use Rattle.run_account.specs.Reloads.{HasOwn, IsOwnReload, IsPreemptor}
use Rattle.run_account.specs.Walks.{fetched_nodes}
use Rattle.sound_laws.specs.Walks.{HasTaskRanges, IsCodeOf, IsFollowed}
use Rattle.sound_laws.specs.CyclesToGo.{walk_of, cycles_to_go, rest_of_walk, has_rest}
use Rattle.sound_laws.specs.StepTests.{executes, makes_reload_on, count_below}
use Rattle.sound_laws.specs.Headline.{IsUndisturbed}

-- of job x after n steps: the cycles that it has executed plus those that remain are at most its
-- part's bound plus the cost of a miss for each of its reloads so far. What remains includes a miss
-- for each set in credit. The rest of an open job that has one is at least 1
pub record IsPaidByPart (s : Start) (graphs : ℕ → TaskGraph) (part : WalkPart)
    (n x : ℕ) : Type 0 where
  pub within : let t = graphs (job_task s x) in
      count_below (executes s x) n
      + cycles_to_go s.system (plan_at s x) t part.rest (job_after s n x)
      (fetched_nodes s graphs n x)
      ≤ part.part.bound
      + s.system.platform.miss * count_below (makes_reload_on s graphs part.counts x) n
  pub some_rest : let t = graphs (job_task s x) in
      let job = job_after s n x in
      is_open job.standing ≡ true → has_rest s.system (plan_at s x) job ≡ true
      → 1 ≤ rest_of_walk s.system (plan_at s x) t part.rest job (fetched_nodes s graphs n x)

abbrev pub PartPaysExecution : Type 0
PartPaysExecution =
    (s : Start) (set : TaskSet) (graphs : ℕ → TaskGraph) (part : WalkPart) (n x : ℕ) →
    HasTaskRanges set → IsCodeOf s.system set graphs → IsFollowed set s n x →
    IsSoundPart s.system.platform (graphs (job_task s x)) part → IsPaidByPart s graphs part n x

-- a reload by a part is its job's own, and its set is in the task's useful set
pub record IsOwnPartReload (s : Start) (part : WalkPart) (n x : ℕ) : Type 0 where
  pub own_time : ℕ
  pub own : Fetch
  pub reload : IsOwnReload s x n own_time (record { job = x; address = (job_after s n x).pc }) own
  pub in_set : IsTrue
      (has part.part.useful
      (set_of s.system.platform (block_of s.system.platform (job_after s n x).pc)))

abbrev pub PartReloadsAreOwn : Type 0
PartReloadsAreOwn =
    (s : Start) (set : TaskSet) (graphs : ℕ → TaskGraph) (part : WalkPart) (n x : ℕ) →
    HasTaskRanges set → IsCodeOf s.system set graphs → IsFollowed set s n x →
    IsSoundPart s.system.platform (graphs (job_task s x)) part
    → makes_reload_on s graphs part.counts x n ≡ true → IsOwnPartReload s part n x

-- each set that holds a block before the job's node is in credit, or the job's own last fetch to it
-- was to that block. While an instruction is under way, this is true of the state after the node
pub record HoldsPrepaid (s : Start) (graphs : ℕ → TaskGraph) (pay : Payments)
    (holds : ℕ → ℕ → ℕ → Type 0) (n x : ℕ) : Type 0 where
  pub node : ℕ
  pub at : IsNodeOfJob (graphs (job_task s x)) (job_after s n x) node
  pub between : let t = graphs (job_task s x) in
      let a = accesses s.system.platform t.places.address in
      (job_after s n x).left ≡ 0 → (set m : ℕ) → holds node set m
      → (in_credit a pay set (walk_of t (job_after s n x) (fetched_nodes s graphs n x)) ≡ true)
      ⊎ HasOwn s x set n m
  pub within : let t = graphs (job_task s x) in
      let a = accesses s.system.platform t.places.address in
      (job_after s n x).left ≢ 0 → (set m : ℕ) → After a holds node set m
      → ((a.set node ≢ set)
      × (in_credit a pay set (walk_of t (job_after s n x) (fetched_nodes s graphs n x)) ≡ true))
      ⊎ HasOwn s x set n m

abbrev pub PrepaidFetches : Type 0
PrepaidFetches =
    (s : Start) (set : TaskSet) (graphs : ℕ → TaskGraph) (pay : Payments)
    (state : ℕ → ℕ → Option ℕ) (n x : ℕ) →
    HasTaskRanges set → IsCodeOf s.system set graphs → IsFollowed set s n x →
    is_open (job_after s n x).standing ≡ true →
    let t = graphs (job_task s x) in
    ArePrepaid t.graph (accesses s.system.platform t.places.address) pay (given_by state)
    → HoldsPrepaid s graphs pay (given_by state) n x

-- each task of a set has a sound part
abbrev pub HaveSoundParts : TaskSet → (ℕ → TaskGraph) → (ℕ → WalkPart) → Type 0
HaveSoundParts set graphs parts =
    (k : ℕ) → k < length set.tasks → IsSoundPart set.platform (graphs k) (parts k)

-- the set of a reload by such a part is useful at the node at which its job resumed: the node of the
-- second of the two fetches between which the evictor fetched
abbrev pub PartReloadsAreUseful : Type 0
PartReloadsAreUseful =
    (s : Start) (set : TaskSet) (graphs : ℕ → TaskGraph) (parts : ℕ → WalkPart)
    (n x p from time until : ℕ) →
    HasTaskRanges set → IsCodeOf s.system set graphs → IsRunOf set s → IsKept (state s n) →
    HaveSoundParts set graphs parts →
    let t = graphs (job_task s x) in
    let part = parts (job_task s x) in
    makes_reload_on s graphs part.counts x n ≡ true →
    IsPreemptor s x p n from time until (record { job = x; address = (job_after s n x).pc })
    → part.useful (node_of_job t (job_after s until x))
    (set_of s.system.platform (block_of s.system.platform (job_after s n x).pc))
    ≡ true

-- in a kept run, legal or not, an undisturbed job completes within its switch and the bound of its
-- sound part
abbrev pub PartIsBounded : Type 0
PartIsBounded =
    (s : Start) (set : TaskSet) (graphs : ℕ → TaskGraph) (parts : ℕ → WalkPart) (n x first : ℕ) →
    HasTaskRanges set → IsCodeOf s.system set graphs → IsRunOf set s → IsKept (state s n) →
    HaveSoundParts set graphs parts → x < length s.lines →
    let steps = s.system.platform.switch + (parts (job_task s x)).part.bound in
    first + steps ≤ n → IsUndisturbed s x first steps
    → IsAnsweredBy (first + steps) (job_after s n x).standing
