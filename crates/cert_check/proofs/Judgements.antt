-- The clauses of a task combined, and those of all tasks.
use Rattle.std.proofs.Common.{◌≡◌, ◌↔◌, ℕ, ◌+◌, ◌<◌, ◌≤◌, List, length, refl, sym, subst, ⊎_elim}
use Rattle.std.proofs.Common.{arith, slice_index}
use Rattle.std.proofs.lemmas.Bool.{cases_eq}
use Rattle.crpd_base.specs.Tasks.{HasTimes}
use Rattle.crpd_base.specs.declared.data.TaskSet.{TaskSet}
use Rattle.crpd_base.specs.declared.data.Certificate.{Certificate}
use Rattle.flat_graph.specs.CodeGraph.{CodeGraph}
use Rattle.loop_regions.specs.CodeNest.{CodeNest}
use Rattle.loop_regions.specs.TaskGraph.{TaskGraph}
use Rattle.evict_sets.specs.ListedPart.{certified_task}
use Rattle.delay_count.specs.Laws.{DemandGrows}
use Rattle.cert_check.specs.JudgeInput.{window_at, certified_part, longest_at}
use Rattle.cert_check.specs.declared.outcome.Clause.{Clause}
use Rattle.cert_check.specs.declared.outcome.Clause.TheVariants.{Platforms, HasTask, Names, Last}
use Rattle.cert_check.specs.declared.outcome.Clause.TheVariants.{Window, Response, Deadline}
use Rattle.cert_check.specs.Verdict.{clause_number, clause_place, GraphHolds, TimesHold}
use Rattle.cert_check.specs.Verdict.{ClauseHolds, IsJudged, No}
use Rattle.cert_check.specs.Inner.FirstFailing.{IsFirstFailingWithin, AllHold}
use Rattle.evict_sets.specs.Longest.{AreLongest}
use Rattle.cert_check.specs.Inner.Times.{HigherHold}
use Rattle.loop_regions.specs.TaskGraphs.{task_graph_at}
use Rattle.cert_check.proofs.Found.{numbers}
use Rattle.delay_count.proofs.Growth.{demand_same}

pub graph_same : (set : TaskSet) (graphs : ℕ → TaskGraph) (c : Certificate) (i : ℕ) (k : Clause)
    → 2 ≤ clause_number k → clause_number k ≤ 7
    → GraphHolds set.platform (graphs i) (certified_task c i) k ↔ ClauseHolds set graphs c i k
graph_same set graphs c i Platforms low high = absurd (omega (arith, low))
graph_same set graphs c i HasTask low high = absurd (omega (arith, low))
graph_same set graphs c i Names low high = absurd (omega (arith, low))
graph_same set graphs c i Last low high = absurd (omega (arith, low))
graph_same set graphs c i Window low high = absurd (omega (arith, high))
graph_same set graphs c i Response low high = absurd (omega (arith, high))
graph_same set graphs c i Deadline low high = absurd (omega (arith, high))
graph_same set graphs c i k low high = ((λ h. h), (λ h. h))

-- the clauses of the times with the costs that are passed
pub times_same : (grows : DemandGrows) (set : TaskSet) (times : HasTimes set)
    (graphs : ℕ → TaskGraph) (c : Certificate) (i : ℕ) (costs : List ℕ) → i < length set.tasks
    → ((k : ℕ) → k < length set.tasks → slice_index costs k ≡ longest_at set.platform graphs k)
    → (k : Clause) → 8 ≤ clause_number k → clause_number k ≤ 9
    → TimesHold set (slice_index costs) c i k ↔ ClauseHolds set graphs c i k
times_same grows set times graphs c i costs lt C Window low high =
    let same = demand_same set (certified_part c) (certified_part c) (slice_index costs)
    (longest_at set.platform graphs) (window_at c) (window_at c) i times lt (λ k le. refl) C
    (λ k l. refl) (certified_task c i).method (window_at c i) in (
      (λ h. (h.0, subst (λ x. x ≤ window_at c i) same h.1)),
      (λ h. (h.0, subst (λ x. x ≤ window_at c i) (sym same) h.1)),
    )
times_same grows set times graphs c i costs lt C Response low high = ((λ h. h), (λ h. h))
times_same grows set times graphs c i costs lt C Deadline low high = ((λ h. h), (λ h. h))
times_same grows set times graphs c i costs lt C k low high = absurd (omega (arith, low))

pub longest_same : (set : TaskSet) (graphs : List CodeGraph) (nests : List CodeNest)
    (costs : List ℕ) → AreLongest set graphs costs → (k : ℕ) → k < length set.tasks
    → slice_index costs k ≡ longest_at set.platform (task_graph_at graphs nests) k
longest_same set graphs nests costs L k lt = L.each k lt

pub higher_hold : (set : TaskSet) (graphs : ℕ → TaskGraph) (c : Certificate) (i : ℕ)
    → i < length c.tasks → ((j : ℕ) (k : Clause) → j < i → ClauseHolds set graphs c j k)
    → HigherHold set c i
higher_hold set graphs c i lt before = record {
  tasks = lt;
  response = λ k k_lt. before k Response k_lt;
  in_deadline = λ k k_lt. before k Deadline k_lt;
}

-- all clauses of one more task
pub holds_more : (set : TaskSet) (graphs : ℕ → TaskGraph) (c : Certificate) (i : ℕ)
    → AllHold (ClauseHolds set graphs c i) 1 9
    → ((j : ℕ) (k : Clause) → j < i → ClauseHolds set graphs c j k) → (j : ℕ) (k : Clause)
    → j < i + 1 → ClauseHolds set graphs c j k
holds_more set graphs c i here before j k lt =
    ⊎_elim
    (λ (e : j ≡ i). subst (λ x. ClauseHolds set graphs c x k) (sym e)
    (here k (numbers k).0 (numbers k).1))
    (λ ne. before j k (omega arith))
    (cases_eq j i)

pub judged_no : (set : TaskSet) (graphs : ℕ → TaskGraph) (c : Certificate) (i : ℕ) (k : Clause)
    (number place : ℕ) → number ≡ clause_number k → place ≡ clause_place k → i < length set.tasks
    → ((j : ℕ) (l : Clause) → j < i → ClauseHolds set graphs c j l)
    → IsFirstFailingWithin (ClauseHolds set graphs c i) 1 9 k
    → IsJudged set graphs c (No i number place)
judged_no set graphs c i k number place n p lt before F = (
  k,
  sym n,
  sym p,
  record {
    task = lt;
    fails = F.fails;
    tasks_before = λ j l j_lt. before j l j_lt;
    clauses_before = λ l earlier. F.before l (numbers l).0 earlier;
  },
)
