-- Potentials cover the prices of the edges that pay.
use Rattle.std.proofs.Common.{ℕ, ◌+◌, ◌≤◌, Bool, [], ◌∷◌, refl, arith}
use Rattle.crpd_base.specs.declared.data.Platform.{Platform}
use Rattle.loop_regions.specs.Nest.{Item, IsItem, IsNested, IsKeptWalk}
use Rattle.loop_regions.specs.Potentials.{Potentials, Meets, PricesAhead, item_potential, rest}
use Rattle.loop_regions.specs.TaskGraph.{TaskGraph}
use Rattle.loop_regions.proofs.Potential.{potential_law, step_rest_law, item_law}
use Rattle.walk_parts.specs.Credit.{Payments, start_price}
use Rattle.walk_parts.specs.Priced.{paid_costs, PotentialsCoverPrices}

module _ (p : Platform) (t : TaskGraph) (pay : Payments) (hit : ℕ → Bool) (q : Potentials)
    (bound : ℕ) (N : IsNested t.graph t.nest)
    (ahead : PricesAhead t.graph t.nest (paid_costs p t pay hit))
    (M : Meets t.graph t.nest (paid_costs p t pay hit) q) where
  start : ((i : Item) → IsItem t.nest t.graph.first i
      → item_potential q i + start_price p pay ≤ bound) → IsKeptWalk t.nest (t.graph.first ∷ [])
      → rest t.nest q (t.graph.first ∷ []) + start_price p pay ≤ bound
  start covers kept =
      let i = item_law t.nest t.graph.first in
      let law = potential_law t.graph t.nest (paid_costs p t pay hit) q i.0 (t.graph.first ∷ []) N
      ahead M i.1 refl kept in
      let b = covers i.0 i.1 in
      omega (arith, law, b)

pub potentials_cover_prices : PotentialsCoverPrices
potentials_cover_prices p t pay hit q bound N ahead M covers =
    record {
      start = start p t pay hit q bound N ahead M covers;
      edge = λ u v before e. let le = (M.nodes u e.0).edge v e in omega (arith, le);
      end = λ u before l answers. let le = (M.nodes u l).end answers in omega (arith, le);
      step = λ u v before e kept.
          step_rest_law t.graph t.nest (paid_costs p t pay hit) q u v before N ahead M e kept;
    }
