-- What holds of the ends of a node's edges.
use Rattle.std.proofs.Common.{ℕ, ◌<◌, get_or, All, subst}
use Rattle.std.proofs.lemmas.List.{get_or_default}
use Rattle.flat_graph.specs.Graph.{Graph, Edge}

-- what holds of each successor holds at each edge, and vice versa
pub all_at_edges : (g : Graph) (u : ℕ) (P : ℕ → Type 0) → All P (g.next u) → (v : ℕ)
    → Edge g u v → P v
all_at_edges g u P all v (lt, (k, below, e)) = subst P e (all k v below)

pub edges_at_all : (g : Graph) (u : ℕ) (P : ℕ → Type 0) → u < g.size → ((v : ℕ) → Edge g u v → P v)
    → All P (g.next u)
edges_at_all g u P lt each k d below =
    let v = get_or (g.next u) k d in
    each v (lt, (k, below, get_or_default (g.next u) k v d below))
