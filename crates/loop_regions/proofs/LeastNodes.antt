-- Refusals at smallest nodes.
use Rattle.std.proofs.Common.{◌≡◌, ℕ, ◌<◌, Some, arith, List}
use Rattle.crpd_base.specs.declared.data.LoopAt.{LoopAt}
use Rattle.flat_graph.specs.Graph.{Graph, Places}
use Rattle.loop_regions.specs.Nest.{Nest}
use Rattle.loop_regions.specs.Stated.{IsRegions, IsSecondEntry, IsNotNested, IsLeastAt}
use Rattle.loop_regions.specs.Inner.Least.{IsLeastNumber}
use Rattle.loop_regions.proofs.Stated.{holds_nodes}

pub least_at : (g : Graph) (p : Places) (P : ℕ → Type 0) (y a : ℕ) → IsLeastNumber P (Some y)
    → y < g.size → p.address y ≡ a → IsLeastAt g p P a
least_at g p P y a h lt e = (y, lt, h.0, e, λ z below q. absurd (let le = h.1 z q in omega arith))

module _ (g : Graph) (p : Places) (loops : List LoopAt) (n : Nest) (R : IsRegions g p loops n) where
  pub entry_within : (v : ℕ) → IsSecondEntry g n v → v < g.size
  entry_within v s = holds_nodes g p loops n R s.0 v s.2

  pub not_nested_within : (y : ℕ) → IsNotNested n y → y < g.size
  not_nested_within y s = holds_nodes g p loops n R s.0 y s.4
