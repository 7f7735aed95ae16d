-- For which sets edges pay, and their prices, by a table with two entries for each node.
use Rattle.std.specs.Prelude.{◌≡◌, ℕ, ◌+◌, ◌*◌, ◌<◌, Bool, List, Some, length, slice_get, slice_index}
use Rattle.std.specs.Prelude.{IsTrue, ◌↔◌}
use Rattle.crpd_base.specs.Sets.{has, members_below}
use Rattle.exec_bound.specs.Costs.{price_place}
use Rattle.flat_graph.specs.Graph.{Graph}
use Rattle.must_cache.specs.Events.{Events}
use Rattle.must_cache.specs.Marks.{sets_at}
use Rattle.must_cache.specs.Prepaid.{Pays}

-- whether the edge from u to v pays for set s, by the table
abbrev pub is_paid : Graph → List (List ℕ) → ℕ → ℕ → ℕ → Bool
is_paid g table u v s = has (sets_at table (2 * u + price_place (slice_get (g.next u) 0) v)) s

-- the first entries of the table are those of the first n nodes
abbrev pub ArePaidBelow : Graph → Events → List (List ℕ) → ℕ → Type 0
ArePaidBelow g e table n =
    (u k v s : ℕ) → u < n → k < 2 → slice_get (g.next u) k ≡ Some v
    → IsTrue (has (sets_at table (2 * u + k)) s) ↔ Pays g e u v s

-- how many cache sets are in a set of them
unfoldable pub sets_in : List ℕ → ℕ
sets_in words = members_below words 512

-- each price is that of the loads of the table's entry
abbrev pub ArePrices : ℕ → List (List ℕ) → List ℕ → Type 0
ArePrices miss table prices =
    (k : ℕ) → k < length table → slice_index prices k ≡ miss * sets_in (sets_at table k)
