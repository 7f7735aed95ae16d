-- Every certificate has a verdict.
use Rattle.std.proofs.Common.{◌≡◌, ℕ, suc, ◌<◌, ◌≤◌, length, refl, ◌∙◌, inl, inr, ⊎_elim, arith}
use Rattle.std.proofs.lemmas.Bool.{cases_lt}
use Rattle.crpd_base.specs.declared.data.Certificate.{Certificate}
use Rattle.crpd_base.specs.declared.data.TaskSet.{TaskSet}
use Rattle.loop_regions.specs.TaskGraph.{TaskGraph}
use Rattle.cert_check.specs.Verdict.{ClauseHolds, IsEarlierClause, IsFirstFailure, clause_number}
use Rattle.cert_check.specs.Verdict.{clause_place}
use Rattle.cert_check.specs.declared.outcome.Clause.{Clause}
use Rattle.cert_check.specs.declared.outcome.Clause.TheVariants.{Platforms, HasTask, Names, Last}
use Rattle.cert_check.specs.declared.outcome.Clause.TheVariants.{Leaders, NodePotentials}
use Rattle.cert_check.specs.declared.outcome.Clause.TheVariants.{LoopPotentials, States, UsefulSets}
use Rattle.cert_check.specs.declared.outcome.Clause.TheVariants.{TaskSets, Inequalities, Bound}
use Rattle.cert_check.specs.declared.outcome.Clause.TheVariants.{Window, Response, Deadline}
use Rattle.cert_check.specs.declared.outcome.Verdict.TheVariants as verdict
use Rattle.cert_check.specs.FirstFailing.{AVerdictExists}
use Rattle.crpd_base.proofs.Classical.{IsLeastBelow, NotNot, all_below, decided, least_below}
use Rattle.crpd_base.proofs.Classical.{mapped, unrefuted, ◌>>=◌}

-- ---- what cannot be refuted of each clause cannot be refuted of all

record OfAll (H : Clause → Type 0) : Type 0 where
  platforms : H Platforms
  has_task : H HasTask
  names : H Names
  last : H Last
  leaders : H Leaders
  node_potentials : H NodePotentials
  loop_potentials : H LoopPotentials
  states : (u : ℕ) → H (States u)
  useful : (u : ℕ) → H (UsefulSets u)
  sets : (u : ℕ) → H (TaskSets u)
  inequalities : (u : ℕ) → H (Inequalities u)
  bound : H Bound
  window : H Window
  response : H Response
  deadline : H Deadline

of_each : (H : Clause → Type 0) → OfAll H → (k : Clause) → H k
of_each H a Platforms = a.platforms
of_each H a HasTask = a.has_task
of_each H a Names = a.names
of_each H a Last = a.last
of_each H a Leaders = a.leaders
of_each H a NodePotentials = a.node_potentials
of_each H a LoopPotentials = a.loop_potentials
of_each H a (States u) = a.states u
of_each H a (UsefulSets u) = a.useful u
of_each H a (TaskSets u) = a.sets u
of_each H a (Inequalities u) = a.inequalities u
of_each H a Bound = a.bound
of_each H a Window = a.window
of_each H a Response = a.response
of_each H a Deadline = a.deadline

-- past the last node nothing is said
record SaysNothing (H : Clause → Type 0) (size : ℕ) : Type 0 where
  states : (u : ℕ) → size ≤ u → H (States u)
  useful : (u : ℕ) → size ≤ u → H (UsefulSets u)
  sets : (u : ℕ) → size ≤ u → H (TaskSets u)
  inequalities : (u : ℕ) → size ≤ u → H (Inequalities u)

module _ (H : Clause → Type 0) (size : ℕ) (past : SaysNothing H size)
    (each : (k : Clause) → NotNot (H k)) where
  at_nodes : (f : ℕ → Clause) → ((u : ℕ) → size ≤ u → H (f u)) → NotNot ((u : ℕ) → H (f u))
  at_nodes f nothing =
      mapped
      (λ (below : (u : ℕ) → u < size → H (f u)) u. elim (cases_lt u size) [
        | inl lt ↦ below u lt
        | inr ge ↦ nothing u ge
      ])
      (all_below (λ u. H (f u)) size (λ u lt. each (f u)))

  all_clauses : NotNot ((k : Clause) → H k)
  all_clauses =
      at_nodes States past.states >>= (λ states.
      at_nodes UsefulSets past.useful >>= (λ useful.
      at_nodes TaskSets past.sets >>= (λ sets.
      at_nodes Inequalities past.inequalities >>= (λ inequalities.
      each Platforms >>= (λ platforms. each HasTask >>= (λ has_task. each Names >>= (λ names.
      each Last >>= (λ last. each Leaders >>= (λ leaders.
      each NodePotentials >>= (λ node_potentials.
      each LoopPotentials >>= (λ loop_potentials. each Bound >>= (λ bound.
      each Window >>= (λ window. each Response >>= (λ response. each Deadline >>= (λ deadline.
      unrefuted (of_each H (record {
        platforms = platforms;
        has_task = has_task;
        names = names;
        last = last;
        leaders = leaders;
        node_potentials = node_potentials;
        loop_potentials = loop_potentials;
        states = states;
        useful = useful;
        sets = sets;
        inequalities = inequalities;
        bound = bound;
        window = window;
        response = response;
        deadline = deadline;
      })))))))))))))))))

numbers : (k : Clause) → clause_number k < 10
numbers Platforms = omega arith
numbers HasTask = omega arith
numbers Names = omega arith
numbers Last = omega arith
numbers Leaders = omega arith
numbers NodePotentials = omega arith
numbers LoopPotentials = omega arith
numbers (States u) = omega arith
numbers (UsefulSets u) = omega arith
numbers (TaskSets u) = omega arith
numbers (Inequalities u) = omega arith
numbers Bound = omega arith
numbers Window = omega arith
numbers Response = omega arith
numbers Deadline = omega arith

-- ---- the first clause that fails

module _ (set : TaskSet) (graphs : ℕ → TaskGraph) (c : Certificate) where
  abbrev Holds : ℕ → Clause → Type 0
  Holds i k = ClauseHolds set graphs c i k

  abbrev Fails : ℕ → Type 0
  Fails i = (k : Clause) × (Holds i k → ⊥)

  nothing_past : (i : ℕ) → SaysNothing (Holds i) (graphs i).graph.size
  nothing_past i = record {
    states = λ u ge lt. absurd (omega arith);
    useful = λ u ge lt. absurd (omega arith);
    sets = λ u ge lt. absurd (omega arith);
    inequalities = λ u ge is_hit counts lt. absurd (omega arith);
  }

  all_hold : (i : ℕ) → (Fails i → ⊥) → NotNot ((k : Clause) → Holds i k)
  all_hold i none =
      all_clauses (Holds i) (graphs i).graph.size (nothing_past i) (λ k no. none (k, no))

  module _ (i : ℕ) where
    abbrev FailsOf : ℕ → Type 0
    FailsOf number = (k : Clause) × (clause_number k ≡ number) × (Holds i k → ⊥)

    abbrev FailsAt : ℕ → ℕ → Type 0
    FailsAt number place =
        (k : Clause) × (clause_number k ≡ number) × (clause_place k ≡ place) × (Holds i k → ⊥)

    module _ (number : ℕ) (N : IsLeastBelow FailsOf 10 number) (most place : ℕ)
        (P : IsLeastBelow (FailsAt number) most place) where
      abbrev first : Clause
      first = P.holds.0

      abbrev HoldsEarlier : Clause → Type 0
      HoldsEarlier l = IsEarlierClause l first → Holds i l

      not_earlier : (l : Clause) → (Holds i l → ⊥) → IsEarlierClause l first → ⊥
      not_earlier l fails (inl lt) =
          N.least (clause_number l) (omega (arith, lt, P.holds.1)) (l, refl, fails)
      not_earlier l fails (inr (same, lt)) =
          P.least (clause_place l) (omega (arith, lt, P.holds.2))
          (l, same ∙ P.holds.1, refl, fails)

      earlier_hold : NotNot ((l : Clause) → HoldsEarlier l)
      earlier_hold =
          all_clauses HoldsEarlier (graphs i).graph.size
          (record {
            states = λ u ge earlier lt. absurd (omega arith);
            useful = λ u ge earlier lt. absurd (omega arith);
            sets = λ u ge earlier lt. absurd (omega arith);
            inequalities = λ u ge earlier is_hit counts lt. absurd (omega arith);
          })
          (λ l none. decided (Holds i l) (⊎_elim
          (λ h. none (λ earlier. h))
          (λ no. none (λ earlier. absurd (not_earlier l no earlier)))))

  a_failure : (i : ℕ) → i < length set.tasks → Fails i
      → ((j : ℕ) → j < i → (k : Clause) → Holds j k)
      → NotNot ((k : Clause) × IsFirstFailure set graphs c i k)
  a_failure i lt f before = λ none.
      least_below (FailsOf i) 10 (⊎_elim
      (λ (n : (number : ℕ) × IsLeastBelow (FailsOf i) 10 number).
      let most = suc (clause_place n.1.holds.0) in
      least_below (FailsAt i n.0) most (⊎_elim
      (λ (p : (place : ℕ) × IsLeastBelow (FailsAt i n.0) most place).
      earlier_hold i n.0 n.1 most p.0 p.1 (λ earlier.
      none (
        p.1.holds.0,
        record {
          task = lt;
          fails = p.1.holds.3;
          tasks_before = λ j l below. before j below l;
          clauses_before = earlier;
        },
      )))
      (λ no. no (clause_place n.1.holds.0) (omega arith)
      (n.1.holds.0, n.1.holds.1, refl, n.1.holds.2))))
      (λ no. no (clause_number f.0) (numbers f.0) (f.0, refl, f.1)))

pub a_verdict_exists : AVerdictExists
a_verdict_exists set graphs c none =
    least_below (Fails set graphs c) (length set.tasks) (⊎_elim
    (λ (i : (i : ℕ) × IsLeastBelow (Fails set graphs c) (length set.tasks) i).
    all_below (λ j. (k : Clause) → Holds set graphs c j k) i.0
    (λ j lt. all_hold set graphs c j (i.1.least j lt))
    (λ before. a_failure set graphs c i.0 i.1.below i.1.holds before
    (λ k. none (verdict.No (record { 0 = i.0 }) (clause_number k.0) (clause_place k.0))
    (k.0, refl, refl, k.1))))
    (λ no.
    all_below (λ j. (k : Clause) → Holds set graphs c j k) (length set.tasks)
    (λ j lt. all_hold set graphs c j (no j lt))
    (λ all. none verdict.Yes (λ i k lt. all i lt k))))
