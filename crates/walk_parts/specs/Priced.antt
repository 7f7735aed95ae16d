-- Potentials that pay for what the edges that enter regions load in advance.
use Rattle.std.specs.Prelude.{ℕ, ◌+◌, ◌≤◌, Bool}
use Rattle.crpd_base.specs.declared.data.Platform.{Platform}
use Rattle.loop_regions.specs.Nest.{Item, IsItem, IsNested}
use Rattle.loop_regions.specs.Potentials.{Costs, Potentials, Meets, PricesAhead, edge_costs}
use Rattle.loop_regions.specs.Potentials.{item_potential, rest}
use Rattle.loop_regions.specs.TaskGraph.{TaskGraph, node_code_of, answering}
use Rattle.walk_parts.specs.Credit.{Payments, price, start_price}
use Rattle.walk_parts.specs.PaidParts.{CoversPrices}

-- the edge costs with these hits, and the prices of the edges
abbrev pub paid_costs : Platform → TaskGraph → Payments → (ℕ → Bool) → Costs
paid_costs p t pay hit =
    record (edge_costs p (node_code_of t) (answering t) hit) { price = price p pay }

-- potentials that meet the inequalities with these costs cover the prices, if no back edge pays
abbrev pub PotentialsCoverPrices : Type 0
PotentialsCoverPrices =
    (p : Platform) (t : TaskGraph) (pay : Payments) (hit : ℕ → Bool) (q : Potentials) (bound : ℕ) →
    IsNested t.graph t.nest → PricesAhead t.graph t.nest (paid_costs p t pay hit) →
    Meets t.graph t.nest (paid_costs p t pay hit) q →
    ((i : Item) → IsItem t.nest t.graph.first i → item_potential q i + start_price p pay ≤ bound)
    → CoversPrices p t pay hit (rest t.nest q) bound
