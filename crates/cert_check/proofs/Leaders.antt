-- A node that is no leader continues another one.
use Rattle.std.proofs.Common.{◌≡◌, ℕ, zero, suc, ◌+◌, ◌<◌, List, [], ◌∷◌, Contains, IsTrue, IsFalse}
use Rattle.std.proofs.Common.{inl, inr, ⊎_elim, sym, subst, arith}
use Rattle.std.proofs.lemmas.Bool.{cases_eq, both_ways}
use Rattle.flat_graph.specs.Graph.{Graph, Edge, Continues, IsLeader, IsGraph}
use Rattle.flat_graph.proofs.Decided.{Decided, is_below, «both», never, some_below, all_below}
use Rattle.flat_graph.proofs.Decided.{same_fact, implied}
use Rattle.evict_sets.specs.Full.{Listed}

not_in : (x : ℕ) (xs : List ℕ) (v : ℕ) → (x ≡ v → ⊥) → (Contains xs v → ⊥) → Contains (x ∷ xs) v → ⊥
not_in x xs v ne none (zero, lt, e) = ne e
not_in x xs v ne none (suc k, lt, e) = none (k, omega (arith, lt), e)

contains : (xs : List ℕ) (v : ℕ) → Decided (Contains xs v)
contains [] v = inr (λ c. absurd (omega (arith, c.1)))
contains (x ∷ xs) v =
    ⊎_elim
    (λ e. inl (0, omega arith, e))
    (λ ne. ⊎_elim
    (λ c. inl (suc c.0, omega (arith, c.1), c.2))
    (λ none. inr (λ c. not_in x xs v ne none c))
    (contains xs v))
    (cases_eq x v)

module _ (g : Graph) (G : IsGraph g) where
  edge : (u v : ℕ) → Decided (Edge g u v)
  edge u v = «both» (is_below u g.size) (contains (g.next u) v)

  one_edge : (u v : ℕ) → Decided ((w : ℕ) → Edge g w v → w ≡ u)
  one_edge u v =
      same_fact (λ f w e. f w e.0 e) (λ f w lt e. f w e)
      (all_below (λ w. Edge g w v → w ≡ u) (λ w. implied (edge w v) (cases_eq w u)) g.size)

  one_successor : (u v : ℕ) → Decided ((w : ℕ) → Edge g u w → w ≡ v)
  one_successor u v =
      same_fact (λ f w e. f w (G.edges u w e) e) (λ f w lt e. f w e)
      (all_below (λ w. Edge g u w → w ≡ v) (λ w. implied (edge u w) (cases_eq w v)) g.size)

  continues : (u v : ℕ) → Decided (Continues g u v)
  continues u v =
      same_fact
      (λ p. record { edge = p.0; not_first = p.1.0; one_edge = p.1.1.0; one_successor = p.1.1.1 })
      (λ c. (c.edge, (c.not_first, (c.one_edge, c.one_successor))))
      («both» (edge u v)
      («both» (never (cases_eq v g.first)) («both» (one_edge u v) (one_successor u v))))

  pub continues_one : (v : ℕ) → (IsLeader g v → ⊥) → (u : ℕ) × Continues g u v
  continues_one v h =
      ⊎_elim
      (λ s. (s.0, s.2))
      (λ none. absurd (h (λ c. none (c.0, c.1.edge.0, c.1))))
      (some_below (λ u. Continues g u v) (λ u. continues u v) g.size)

-- the leaders below a number are listed
abbrev pub ListsBelow : Graph → Listed → ℕ → Type 0
ListsBelow g l n = (y : ℕ) → y < n → IsFalse (l.is_listed y) → (u : ℕ) × Continues g u y

-- one more node, which is listed or no leader
pub listed_more : (g : Graph) (l : Listed) (n : ℕ) → IsTrue (l.is_listed n) → ListsBelow g l n
    → ListsBelow g l (n + 1)
listed_more g l n t below y lt out =
    ⊎_elim
    (λ e. absurd (both_ways (l.is_listed y) out (subst (λ x. IsTrue (l.is_listed x)) (sym e) t)))
    (λ ne. below y (omega arith) out)
    (cases_eq y n)

pub other_more : (g : Graph) (l : Listed) (n : ℕ) → IsGraph g → (IsLeader g n → ⊥)
    → ListsBelow g l n → ListsBelow g l (n + 1)
other_more g l n G h below y lt out =
    ⊎_elim
    (λ e. continues_one g G y (subst (λ x. IsLeader g x → ⊥) (sym e) h))
    (λ ne. below y (omega arith) out)
    (cases_eq y n)
