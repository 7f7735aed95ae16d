-- The edges of a graph as a list: definitions that only contracts inside the crate cite.
use Rattle.std.specs.Prelude.{ℕ, zero, suc, List, [], ◌++◌, map}
use Rattle.flat_graph.specs.Graph.{Graph}

-- an edge from one node to each of these
abbrev pub edges_from : ℕ → List ℕ → List (ℕ × ℕ)
edges_from u next = map (λ v. (u, v)) next

-- the edges of the nodes below n, node by node
abbrev pub edges_below : Graph → ℕ → List (ℕ × ℕ)
edges_below g zero = []
edges_below g (suc n) = edges_below g n ++ edges_from n (g.next n)
