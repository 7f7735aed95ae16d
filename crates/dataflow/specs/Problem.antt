-- A dataflow problem over a graph, and its solution: at each node the join over all paths to it.
use Rattle.std.specs.Prelude.{◌≡◌, ℕ, ◌<◌, List, [], ◌∷◌, Option, Some, None, option_map}
use Rattle.std.specs.Prelude.{slice_index_or}
use Rattle.std.specs.List.{All}

-- values with joins, what an edge makes of the value before its source, the values that paths begin
-- with, and a graph: its nodes are the numbers below `nodes`, and `ends k` has the source and the
-- target of edge k
pub record Problem (V : Type 0) : Type 0 where
  pub joined : V → V → V
  pub passed : ℕ → ℕ → V → V
  pub begins : ℕ → Option V
  pub nodes : ℕ
  pub edges : ℕ
  pub ends : ℕ → ℕ × ℕ

-- the problem of these parts: `passed` is what a node makes of a value, and `crossed` what an edge
-- makes of the value after its source
abbrev pub problem : {V : Type 0} → (V → V → V) → (ℕ → V → V) → (ℕ → ℕ → V → V) → (ℕ → Option V)
    → ℕ → ℕ → (ℕ → ℕ × ℕ) → Problem V
problem joined passed crossed begins nodes edges ends =
    record {
      joined = joined;
      passed = λ m n v. crossed m n (passed m v);
      begins = begins;
      nodes = nodes;
      edges = edges;
      ends = ends;
    }

-- joins are idempotent, commutative and associative
pub record IsSemilattice (V : Type 0) (joined : V → V → V) : Type 0 where
  pub same : (a : V) → joined a a ≡ a
  pub swapped : (a b : V) → joined a b ≡ joined b a
  pub grouped : (a b c : V) → joined (joined a b) c ≡ joined a (joined b c)

-- the order in which a join is the least value above both
abbrev pub IsBelow : {V : Type 0} → Problem V → V → V → Type 0
IsBelow p a b = p.joined a b ≡ b

-- an edge leads from one node to another
abbrev pub HasEdge : {V : Type 0} → Problem V → ℕ → ℕ → Type 0
HasEdge p m n = (k : ℕ) × (k < p.edges) × (p.ends k ≡ (m, n))

-- a path along edges, its last node first
abbrev pub IsPath : {V : Type 0} → Problem V → List ℕ → Type 0
IsPath p [] = ⊥
IsPath p (n ∷ []) = n < p.nodes
IsPath p (n ∷ (m ∷ before)) = HasEdge p m n × IsPath p (m ∷ before)

-- the value before a path's last node, if the path begins with one
abbrev pub path_value : {V : Type 0} → Problem V → List ℕ → Option V
path_value p [] = None
path_value p (n ∷ []) = p.begins n
path_value p (n ∷ (m ∷ before)) = option_map (p.passed m n) (path_value p (m ∷ before))

-- some path brings the value to node n
abbrev pub Brings : {V : Type 0} → Problem V → ℕ → V → Type 0
Brings p n v = (before : List ℕ) × IsPath p (n ∷ before) × (path_value p (n ∷ before) ≡ Some v)

-- the join of a first value and the rest of a list
abbrev pub joined_all : {V : Type 0} → (V → V → V) → V → List V → V
joined_all joined first [] = first
joined_all joined first (v ∷ rest) = joined first (joined_all joined v rest)

-- the join of finitely many values that paths bring, above each value that a path brings
pub record IsJoinOverPaths (V : Type 0) (p : Problem V) (n : ℕ) (v : V) : Type 0 where
  pub first : V
  pub rest : List V
  pub brought : All (Brings p n) (first ∷ rest)
  pub join : joined_all p.joined first rest ≡ v
  pub above : (w : V) → Brings p n w → IsBelow p w v

-- the value of the fact at node n
abbrev pub fact_at : {F V : Type 0} → (F → V) → List (Option F) → ℕ → Option V
fact_at view facts n = option_map view (slice_index_or facts n None)

-- the fact at node n: none if no path brings a value, otherwise the join over all paths
abbrev pub IsFact : {V : Type 0} → Problem V → ℕ → Option V → Type 0
IsFact {V} p n None = (w : V) → Brings p n w → ⊥
IsFact {V} p n (Some v) = IsJoinOverPaths V p n v

-- there is a value, and it is at least v
abbrev pub IsAtLeast : {V : Type 0} → Problem V → Option V → V → Type 0
IsAtLeast {V} p o v = (w : V) × (o ≡ Some w) × IsBelow p v w

-- facts that cover what begins at each node and what comes in along each edge
pub record Solves (V : Type 0) (p : Problem V) (facts : ℕ → Option V) : Type 0 where
  pub begun : (n : ℕ) (v : V) → n < p.nodes → p.begins n ≡ Some v → IsAtLeast p (facts n) v
  pub carried : (m n : ℕ) (v : V) → HasEdge p m n → facts m ≡ Some v
      → IsAtLeast p (facts n) (p.passed m n v)

-- a solution below every other
pub record IsLeastSolution (V : Type 0) (p : Problem V) (facts : ℕ → Option V) : Type 0 where
  pub solves : Solves V p facts
  pub least : (other : ℕ → Option V) → Solves V p other → (n : ℕ) (v : V) → facts n ≡ Some v
      → IsAtLeast p (other n) v

-- a is below b if their join is b: that is an order, and a join is the least value above both
pub record IsOrderWithJoins (V : Type 0) (joined : V → V → V) : Type 0 where
  pub reflexive : (a : V) → joined a a ≡ a
  pub transitive : (a b c : V) → joined a b ≡ b → joined b c ≡ c → joined a c ≡ c
  pub antisymmetric : (a b : V) → joined a b ≡ b → joined b a ≡ a → a ≡ b
  pub above_left : (a b : V) → joined a (joined a b) ≡ joined a b
  pub above_right : (a b : V) → joined b (joined a b) ≡ joined a b
  pub least : (a b c : V) → joined a c ≡ c → joined b c ≡ c → joined (joined a b) c ≡ c
