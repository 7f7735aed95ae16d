-- The clauses of the nodes of a task's graph.
use Rattle.std.proofs.Common.{◌≡◌, ℕ, ◌<◌, Bool, Ok, Err, refl, arith}
use Rattle.crpd_base.specs.Sets.{has}
use Rattle.crpd_base.specs.declared.data.Platform.{Platform}
use Rattle.crpd_base.specs.declared.data.TaskPart.{TaskPart}
use Rattle.loop_regions.specs.TaskGraph.{TaskGraph, node_code_of, answering}
use Rattle.evict_sets.specs.CacheClauses.{StatesMeet, UsefulMeets, SetsMeet}
use Rattle.evict_sets.specs.ListedPart.{listed_of}
use Rattle.cert_check.specs.ListedPotentials.{potentials_of}
use Rattle.cert_check.specs.PotentialClauses.{CountsHits, edge_costs, PotentialsMeet}
use Rattle.cert_check.specs.JudgeInput.{accesses_of}
use Rattle.cert_check.specs.declared.outcome.Clause.{Clause}
use Rattle.cert_check.specs.declared.outcome.Clause.TheVariants.{States, UsefulSets, TaskSets}
use Rattle.cert_check.specs.declared.outcome.Clause.TheVariants.{Inequalities, Bound}
use Rattle.cert_check.specs.Verdict.{clause_number, clause_place, GraphHolds}
use Rattle.cert_check.specs.Inner.FirstFailing.{IsFirstFailingWithin, AllHold}
use Rattle.cert_check.specs.Inner.JudgedNodes.{IsFirst}
use Rattle.cert_check.proofs.Found.{IsOfNodes, found_first, then_found, node_fails, nodes_hold}
use Rattle.cert_check.proofs.Found.{fails_first, bound_holds}
use Rattle.cert_check.proofs.Clauses.{tests_agree, same_meets}

only_states : (l : Clause) → clause_number l ≡ 3 → States (clause_place l) ≡ l
only_states (States u) e = refl
only_states l e = absurd (omega (arith, e))

only_useful : (l : Clause) → clause_number l ≡ 4 → UsefulSets (clause_place l) ≡ l
only_useful (UsefulSets u) e = refl
only_useful l e = absurd (omega (arith, e))

only_sets : (l : Clause) → clause_number l ≡ 5 → TaskSets (clause_place l) ≡ l
only_sets (TaskSets u) e = refl
only_sets l e = absurd (omega (arith, e))

only_inequalities : (l : Clause) → clause_number l ≡ 6 → Inequalities (clause_place l) ≡ l
only_inequalities (Inequalities u) e = refl
only_inequalities l e = absurd (omega (arith, e))

module _ (p : Platform) (t : TaskGraph) (c : TaskPart) where
  pub of_states : IsOfNodes (GraphHolds p t c) (StatesMeet t.graph (accesses_of p t) (listed_of c))
      (λ u. States u) 3 t.graph.size
  of_states =
      record {
        number = λ u. refl;
        place = λ u. refl;
        only = only_states;
        to = λ u lt m below. m;
        past = λ u le below. absurd (omega (arith, le, below));
        back = λ u lt h. h lt;
      }

  pub of_useful : IsOfNodes (GraphHolds p t c) (UsefulMeets t.graph (accesses_of p t) (listed_of c))
      (λ u. UsefulSets u) 4 t.graph.size
  of_useful =
      record {
        number = λ u. refl;
        place = λ u. refl;
        only = only_useful;
        to = λ u lt m below. m;
        past = λ u le below. absurd (omega (arith, le, below));
        back = λ u lt h. h lt;
      }

  pub of_sets : IsOfNodes (GraphHolds p t c)
      (SetsMeet t.graph (accesses_of p t) (listed_of c) (has c.part.evicting) (has c.part.useful))
      (λ u. TaskSets u) 5 t.graph.size
  of_sets =
      record {
        number = λ u. refl;
        place = λ u. refl;
        only = only_sets;
        to = λ u lt m below. m;
        past = λ u le below. absurd (omega (arith, le, below));
        back = λ u lt h. h lt;
      }

  pub of_inequalities : (is_hit : ℕ → Bool)
      → CountsHits t.graph (accesses_of p t) (listed_of c) is_hit
      → IsOfNodes (GraphHolds p t c)
      (PotentialsMeet t.graph t.nest (edge_costs p (node_code_of t) (answering t) is_hit)
      (potentials_of c)) (λ u. Inequalities u) 6 t.graph.size
  of_inequalities is_hit counts =
      record {
        number = λ u. refl;
        place = λ u. refl;
        only = only_inequalities;
        to = λ u lt m other others below.
            same_meets p t (potentials_of c) is_hit other u
            (tests_agree t.graph (accesses_of p t) (listed_of c) is_hit other u counts others lt) m;
        past = λ u le other others below. absurd (omega (arith, le, below));
        back = λ u lt h. h is_hit counts lt;
      }

  abbrev H : Clause → Type 0
  H = GraphHolds p t c

  -- a fact that holds at each node of the graph
  abbrev Everywhere : (ℕ → Type 0) → Type 0
  Everywhere P = (u : ℕ) → u < t.graph.size → P u

  abbrev StatesHold : ℕ → Type 0
  StatesHold = StatesMeet t.graph (accesses_of p t) (listed_of c)

  abbrev UsefulHold : ℕ → Type 0
  UsefulHold = UsefulMeets t.graph (accesses_of p t) (listed_of c)

  abbrev SetsHold : ℕ → Type 0
  SetsHold =
      SetsMeet t.graph (accesses_of p t) (listed_of c) (has c.part.evicting) (has c.part.useful)

  -- the states and sets, checked in order
  pub states_fail : (u : ℕ) → IsFirst StatesHold t.graph.size u
      → IsFirstFailingWithin H 3 5 (States u)
  states_fail u F =
      found_first H 3 3 5 (States u) (omega arith) (node_fails H _ _ 3 t.graph.size of_states u F)

  module _ (S : Everywhere StatesHold) where
    states_hold : AllHold H 3 3
    states_hold = nodes_hold H _ _ 3 t.graph.size of_states S

    pub useful_fail : (u : ℕ) → IsFirst UsefulHold t.graph.size u
        → IsFirstFailingWithin H 3 5 (UsefulSets u)
    useful_fail u F =
        then_found H 3 3 5 (Err (UsefulSets u)) (omega arith) (omega arith) states_hold
        (found_first H 4 4 5 (UsefulSets u) (omega arith)
        (node_fails H _ _ 4 t.graph.size of_useful u F))

    module _ (U : Everywhere UsefulHold) where
      useful_hold : AllHold H 3 4
      useful_hold =
          then_found H 3 3 4 (Ok tt) (omega arith) (omega arith) states_hold
          (nodes_hold H _ _ 4 t.graph.size of_useful U)

      pub sets_fail : (u : ℕ) → IsFirst SetsHold t.graph.size u
          → IsFirstFailingWithin H 3 5 (TaskSets u)
      sets_fail u F =
          then_found H 3 4 5 (Err (TaskSets u)) (omega arith) (omega arith) useful_hold
          (node_fails H _ _ 5 t.graph.size of_sets u F)

      pub sets_hold : Everywhere SetsHold → AllHold H 3 5
      sets_hold T =
          then_found H 3 4 5 (Ok tt) (omega arith) (omega arith) useful_hold
          (nodes_hold H _ _ 5 t.graph.size of_sets T)

  -- and the potentials with the bound
  module _ (is_hit : ℕ → Bool)
      (counts : CountsHits t.graph (accesses_of p t) (listed_of c) is_hit) where
    abbrev PotentialsHold : ℕ → Type 0
    PotentialsHold =
        PotentialsMeet t.graph t.nest (edge_costs p (node_code_of t) (answering t) is_hit)
        (potentials_of c)

    pub inequalities_fail : (u : ℕ) → IsFirst PotentialsHold t.graph.size u
        → IsFirstFailingWithin H 6 7 (Inequalities u)
    inequalities_fail u F =
        found_first H 6 6 7 (Inequalities u) (omega arith)
        (node_fails H _ _ 6 t.graph.size (of_inequalities is_hit counts) u F)

    inequalities_hold : Everywhere PotentialsHold → AllHold H 6 6
    inequalities_hold all = nodes_hold H _ _ 6 t.graph.size (of_inequalities is_hit counts) all

    pub bound_fails : Everywhere PotentialsHold → (H Bound → ⊥) → IsFirstFailingWithin H 6 7 Bound
    bound_fails all none =
        then_found H 6 6 7 (Err Bound) (omega arith) (omega arith) (inequalities_hold all)
        (fails_first H Bound refl none)

    pub potentials_hold : Everywhere PotentialsHold → H Bound → AllHold H 6 7
    potentials_hold all h =
        then_found H 6 6 7 (Ok tt) (omega arith) (omega arith) (inequalities_hold all)
        (bound_holds H h)
