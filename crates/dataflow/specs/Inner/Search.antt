-- The state of the search for the solution.
use Rattle.std.specs.Prelude.{◌≡◌, ◌≢◌, ℕ, ◌+◌, ◌-◌, ◌<◌, ◌⊎◌, List, ◌∷◌, Option, Some, None}
use Rattle.std.specs.Prelude.{option_map, slice_index_or, slice_index, length, ◌*◌, Bool, true}
use Rattle.std.specs.Prelude.{false, IsTrue, suc, if◌then◌else◌}
use Rattle.std.specs.List.{All, sum_by}
use Rattle.crpd_base.specs.Sum.{one_if}
use Rattle.dataflow.specs.Problem.{Problem, Brings, joined_all, IsAtLeast}

-- one more than an edge's number, 0 if there is no edge
abbrev pub past_edge : Option ℕ → ℕ
past_edge None = 0
past_edge (Some k) = suc k

-- the last edge below `bound` whose source is m
pub record IsLastEdge (ends : ℕ → ℕ × ℕ) (bound m : ℕ) (o : Option ℕ) : Type 0 where
  pub edge : (k : ℕ) → o ≡ Some k → (k < bound) × ((ends k).0 ≡ m)
  pub last : (j : ℕ) → j < bound → (ends j).0 ≡ m → j < past_edge o

-- the last edge of each node, and for each edge the last one before it from its source
pub record IsChained (nodes edges : ℕ) (ends : ℕ → ℕ × ℕ)
    (last before : List (Option ℕ)) : Type 0 where
  pub all_nodes : length last ≡ nodes
  pub all_edges : length before ≡ edges
  pub of_node : (m : ℕ) → m < nodes → IsLastEdge ends edges m (slice_index_or last m None)
  pub of_edge : (k : ℕ) → k < edges → IsLastEdge ends k (ends k).0 (slice_index_or before k None)

-- whether node n waits
abbrev pub waits : List Bool → ℕ → Bool
waits pending n = slice_index_or pending n false

-- the join of finitely many values that paths bring
pub record IsJoinOfPaths (V : Type 0) (p : Problem V) (n : ℕ) (v : V) : Type 0 where
  pub first : V
  pub rest : List V
  pub brought : All (Brings p n) (first ∷ rest)
  pub join : joined_all p.joined first rest ≡ v

-- edge k's target has what edge k's source brings
abbrev pub IsCarried : {V : Type 0} → Problem V → (ℕ → Option V) → ℕ → Type 0
IsCarried {V} p facts k =
    (v : V) → facts (p.ends k).0 ≡ Some v
    → IsAtLeast p (facts (p.ends k).1) (p.passed (p.ends k).0 (p.ends k).1 v)

-- facts that paths bring and that cover what begins; each edge that is done is carried, or its
-- source waits
pub record IsPartialSolution (V : Type 0) (p : Problem V) (facts : ℕ → Option V)
    (waiting : ℕ → Bool) (done : ℕ → Type 0) : Type 0 where
  pub sound : (n : ℕ) (v : V) → facts n ≡ Some v → IsJoinOfPaths V p n v
  pub begun : (n : ℕ) (v : V) → n < p.nodes → p.begins n ≡ Some v → IsAtLeast p (facts n) v
  pub carried : (k : ℕ) → k < p.edges → done k → IsTrue (waiting (p.ends k).0) ⊎ IsCarried p facts k

-- the value u after node m is being passed on across its edges: it is that of the fact at m, or m
-- waits again
pub record IsPassedOn (V : Type 0) (p : Problem V) (crossed : ℕ → ℕ → V → V)
    (facts : ℕ → Option V) (waiting : ℕ → Bool) (m : ℕ) (u : V) : Type 0 where
  pub from : V
  pub passed : (n : ℕ) → p.passed m n from ≡ crossed m n u
  pub brought : IsJoinOfPaths V p m from
  pub fresh : IsTrue (waiting m) ⊎ (facts m ≡ Some from)

-- a fact after a value was joined in
abbrev pub absorbed : {V : Type 0} → (V → V → V) → Option V → V → V
absorbed joined None u = u
absorbed joined (Some v) u = joined v u

-- how often a fact has risen at most: its value's height plus one, 0 without a value
abbrev pub rank : {V : Type 0} → (V → ℕ) → Option V → ℕ
rank height None = 0
rank height (Some v) = suc (height v)

-- every number below `nodes`, and no others
pub record IsVisitOrder (nodes : ℕ) (order : List ℕ) : Type 0 where
  pub own : (i : ℕ) → i < length order → slice_index order i < nodes
  pub each : (n : ℕ) → n < nodes → (i : ℕ) × (i < length order) × (slice_index order i ≡ n)

-- the work left: twice the rises that facts still can have, and the waiting nodes
abbrev pub work_left : {F V : Type 0} → (F → V) → (V → ℕ) → ℕ → List (Option F) → List Bool → ℕ
work_left view height tallest facts pending =
    2 * sum_by (λ o. suc tallest - rank height (option_map view o)) facts + sum_by one_if pending

-- a value u was joined in at node t, which waits unless its fact is unchanged; all other facts are
-- unchanged
pub record AbsorbsAt (V : Type 0) (p : Problem V) (facts new : ℕ → Option V)
    (waiting woken : ℕ → Bool) (t : ℕ) (u : V) : Type 0 where
  pub others : (n : ℕ) → n ≢ t → new n ≡ facts n
  pub here : new t ≡ Some (absorbed p.joined (facts t) u)
  pub kept : (n : ℕ) → IsTrue (waiting n) → IsTrue (woken n)
  pub changed : IsTrue (woken t) ⊎ (new t ≡ facts t)

-- a number is in a list
abbrev pub IsInList : ℕ → List ℕ → Type 0
IsInList n xs = (i : ℕ) × (i < length xs) × (slice_index xs i ≡ n)

-- a depth-first search: each node found is on the path or already left
pub record IsInDepth (nodes edges : ℕ) (seen : List Bool) (next : List (Option ℕ))
    (path work_left : List ℕ) : Type 0 where
  pub seen_nodes : length seen ≡ nodes
  pub next_nodes : length next ≡ nodes
  pub next_edges : (m k : ℕ) → slice_index_or next m None ≡ Some k → k < edges
  pub on_path : (i : ℕ) → i < length path → slice_index path i < nodes
  pub own : (i : ℕ) → i < length work_left → slice_index work_left i < nodes
  pub found : (n : ℕ) → slice_index_or seen n false ≡ true → IsInList n path ⊎ IsInList n work_left

-- node k, or the k-th node from the last one back
abbrev pub root_at : Bool → ℕ → ℕ → ℕ
root_at from_last nodes k = if from_last then nodes - 1 - k else k

-- the work left: twice the next edges' numbers, each plus one, and the path
abbrev pub to_follow : List (Option ℕ) → List ℕ → ℕ
to_follow next path = 2 * sum_by past_edge next + length path
