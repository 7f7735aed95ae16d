-- The clauses of a certificate, and the checker's verdict: yes, or no with the first one that
-- fails.
use Rattle.std.specs.Prelude.{◌≡◌, ◌⊎◌, ℕ, suc, ◌+◌, ◌<◌, ◌≤◌, Bool, length, All}
use Rattle.crpd_base.specs.Sets.{has}
use Rattle.crpd_base.specs.Tasks.{jitter_of, deadline_of}
use Rattle.crpd_base.specs.declared.data.Platform.{Platform}
use Rattle.crpd_base.specs.declared.data.NodeState.{NodeState}
use Rattle.crpd_base.specs.declared.data.TaskPart.{TaskPart}
use Rattle.crpd_base.specs.declared.data.TaskSet.{TaskSet}
use Rattle.crpd_base.specs.declared.data.Certificate.{Certificate}
use Rattle.loop_regions.specs.TaskGraph.{TaskGraph, node_code_of, answering}
use Rattle.evict_sets.specs.CacheClauses.{ListsLeaders, StatesMeet, UsefulMeets, SetsMeet}
use Rattle.evict_sets.specs.CacheClauses.{MeetsListing, MeetsSets}
use Rattle.evict_sets.specs.ListedPart.{listed_of, certified_task}
use Rattle.delay_count.specs.Demand.{demand}
use Rattle.cert_check.specs.ListedPotentials.{potentials_of}
use Rattle.cert_check.specs.PotentialClauses.{CountsHits, edge_costs, PotentialsMeet, BoundMeets}
use Rattle.cert_check.specs.JudgeInput.{accesses_of, window_at, certified_part, longest_at}
use Rattle.cert_check.specs.JudgeInput.{name_at}
use Rattle.cert_check.specs.declared.outcome.Clause.{Clause}
use Rattle.cert_check.specs.declared.outcome.Clause.TheVariants.{Platforms, HasTask, Names, Last}
use Rattle.cert_check.specs.declared.outcome.Clause.TheVariants.{Leaders, NodePotentials}
use Rattle.cert_check.specs.declared.outcome.Clause.TheVariants.{LoopPotentials, States, UsefulSets}
use Rattle.cert_check.specs.declared.outcome.Clause.TheVariants.{TaskSets, Inequalities, Bound}
use Rattle.cert_check.specs.declared.outcome.Clause.TheVariants.{Window, Response, Deadline}

-- a clause's number
abbrev pub clause_number : Clause → ℕ
clause_number Platforms = 1
clause_number HasTask = 1
clause_number Names = 1
clause_number Last = 1
clause_number Leaders = 2
clause_number NodePotentials = 2
clause_number LoopPotentials = 2
clause_number (States u) = 3
clause_number (UsefulSets u) = 4
clause_number (TaskSets u) = 5
clause_number (Inequalities u) = 6
clause_number Bound = 7
clause_number Window = 8
clause_number Response = 9
clause_number Deadline = 9

-- and its place among those of its number: a node's number if it is of a node
abbrev pub clause_place : Clause → ℕ
clause_place Platforms = 0
clause_place HasTask = 1
clause_place Names = 2
clause_place Last = 3
clause_place Leaders = 0
clause_place NodePotentials = 1
clause_place LoopPotentials = 2
clause_place (States u) = u
clause_place (UsefulSets u) = u
clause_place (TaskSets u) = u
clause_place (Inequalities u) = u
clause_place Bound = 0
clause_place Window = 0
clause_place Response = 0
clause_place Deadline = 1

-- the clauses of a task's graph, with its part of the certificate; the other clauses depend on more
abbrev pub GraphHolds : Platform → TaskGraph → TaskPart → Clause → Type 0
GraphHolds p t c Leaders =
    All (λ (s : NodeState). s.node < t.graph.size) c.states × ListsLeaders t.graph (listed_of c)
GraphHolds p t c NodePotentials = length c.potentials ≡ t.graph.size
GraphHolds p t c LoopPotentials = length c.loops ≡ t.nest.size
GraphHolds p t c (States u) =
    u < t.graph.size → StatesMeet t.graph (accesses_of p t) (listed_of c) u
GraphHolds p t c (UsefulSets u) =
    u < t.graph.size → UsefulMeets t.graph (accesses_of p t) (listed_of c) u
GraphHolds p t c (TaskSets u) =
    u < t.graph.size →
    SetsMeet t.graph (accesses_of p t) (listed_of c) (has c.part.evicting) (has c.part.useful) u
GraphHolds p t c (Inequalities u) =
    (is_hit : ℕ → Bool) → CountsHits t.graph (accesses_of p t) (listed_of c) is_hit →
    u < t.graph.size →
    PotentialsMeet t.graph t.nest (edge_costs p (node_code_of t) (answering t) is_hit)
    (potentials_of c) u
GraphHolds p t c Bound = BoundMeets t.graph t.nest (potentials_of c) c.part.bound
GraphHolds p t c _ = Unit {0}

-- the clauses of a task's times, with the longest cost of one instruction of each task; the other
-- clauses depend on more
abbrev pub TimesHold : TaskSet → (ℕ → ℕ) → Certificate → ℕ → Clause → Type 0
TimesHold set longest c i Window =
    (1 ≤ window_at c i)
    × (demand set (certified_part c) longest (window_at c) i (certified_task c i).method
    (window_at c i)
    ≤ window_at c i)
TimesHold set longest c i Response = (certified_task c i).response ≡ window_at c i + jitter_of set i
TimesHold set longest c i Deadline = (certified_task c i).response ≤ deadline_of set i
TimesHold set longest c i _ = Unit {0}

-- the clause holds for task i
abbrev pub ClauseHolds : TaskSet → (ℕ → TaskGraph) → Certificate → ℕ → Clause → Type 0
ClauseHolds set graphs c i Platforms = c.platform ≡ set.platform
ClauseHolds set graphs c i HasTask = i < length c.tasks
ClauseHolds set graphs c i Names = (certified_task c i).name ≡ name_at set i
ClauseHolds set graphs c i Last = suc i ≡ length set.tasks → length c.tasks ≡ length set.tasks
ClauseHolds set graphs c i Window = TimesHold set (longest_at set.platform graphs) c i Window
ClauseHolds set graphs c i Response = TimesHold set (longest_at set.platform graphs) c i Response
ClauseHolds set graphs c i Deadline = TimesHold set (longest_at set.platform graphs) c i Deadline
ClauseHolds set graphs c i clause = GraphHolds set.platform (graphs i) (certified_task c i) clause

-- the checker says yes: every clause holds for every task
abbrev pub IsYes : TaskSet → (ℕ → TaskGraph) → Certificate → Type 0
IsYes set graphs c =
    (i : ℕ) (clause : Clause) → i < length set.tasks → ClauseHolds set graphs c i clause

-- then each task's listing satisfies the clauses on which full states depend
abbrev pub YesMeetsListing : Type 0
YesMeetsListing =
    (set : TaskSet) (graphs : ℕ → TaskGraph) (c : Certificate) (i : ℕ) →
    IsYes set graphs c → i < length set.tasks →
    MeetsListing (graphs i).graph (accesses_of set.platform (graphs i))
    (listed_of (certified_task c i))

-- and each task's sets satisfy clauses 4 and 5 at each node
abbrev pub YesMeetsSets : Type 0
YesMeetsSets =
    (set : TaskSet) (graphs : ℕ → TaskGraph) (c : Certificate) (i : ℕ) →
    IsYes set graphs c → i < length set.tasks →
    MeetsSets (graphs i).graph (accesses_of set.platform (graphs i))
    (listed_of (certified_task c i))
    (has (certified_task c i).part.evicting) (has (certified_task c i).part.useful)

-- of one task, a clause is checked before another one
abbrev pub IsEarlierClause : Clause → Clause → Type 0
IsEarlierClause k l =
    (clause_number k < clause_number l)
    ⊎ ((clause_number k ≡ clause_number l) × (clause_place k < clause_place l))

-- the first clause that fails: those of the tasks before i hold, and those before it
pub record IsFirstFailure (set : TaskSet) (graphs : ℕ → TaskGraph) (c : Certificate) (i : ℕ)
    (k : Clause) : Type 0 where
  pub task : i < length set.tasks
  pub fails : ClauseHolds set graphs c i k → ⊥
  pub tasks_before : (j : ℕ) (l : Clause) → j < i → ClauseHolds set graphs c j l
  pub clauses_before : (l : Clause) → IsEarlierClause l k → ClauseHolds set graphs c i l

-- the verdict: yes, or the task, the clause and the place that fail
pub data Answer : Type 0 where
  Yes : Answer
  No : (task clause place : ℕ) → Answer

-- the verdict is the right one
abbrev pub IsJudged : TaskSet → (ℕ → TaskGraph) → Certificate → Answer → Type 0
IsJudged set graphs c Yes = IsYes set graphs c
IsJudged set graphs c (No i n p) =
    (k : Clause) × (clause_number k ≡ n) × (clause_place k ≡ p) × IsFirstFailure set graphs c i k

-- there is at most one right verdict
abbrev pub OneAnswerLaw : Type 0
OneAnswerLaw =
    (set : TaskSet) (graphs : ℕ → TaskGraph) (c : Certificate) (a b : Answer) →
    IsJudged set graphs c a → IsJudged set graphs c b → a ≡ b
