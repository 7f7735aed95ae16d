-- The part of a task where persistent blocks are paid for at the entry of their loop.
use Rattle.std.specs.Prelude.{◌≡◌, ◌↔◌, ℕ, ◌+◌, ◌<◌, Bool, IsTrue}
use Rattle.crpd_base.specs.declared.data.Part.{Part}
use Rattle.crpd_base.specs.declared.data.Platform.{Platform}
use Rattle.crpd_base.specs.Sets.{IsSetOf}
use Rattle.evict_sets.specs.Evicting.{IsEcb}
use Rattle.exec_bound.specs.Least.{AreLeastPotentials}
use Rattle.icache.specs.Accesses.{accesses}
use Rattle.loop_regions.specs.Nest.{Item, IsItem}
use Rattle.loop_regions.specs.Potentials.{Potentials, item_potential}
use Rattle.loop_regions.specs.TaskGraph.{TaskGraph}
use Rattle.must_cache.specs.Events.{Events}
use Rattle.must_cache.specs.Prepaid.{CountsPrepaidHits, CountsPayments, PaysAtStart}
use Rattle.useful_sets.specs.Unpaid.{UsefulPrepaid}
use Rattle.walk_parts.specs.Credit.{Payments, start_price}
use Rattle.walk_parts.specs.Priced.{paid_costs}
use Rattle.persistent_blocks.specs.Regions.{AreRegionEvents}

-- the bound where the edges and the start pay for what they bring: the least potential of the first
-- node's item, with prepaid hits and the prices of the edges, and the price of the start
pub record IsPrepaidBound (p : Platform) (t : TaskGraph) (e : Events) (bound : ℕ) : Type 0 where
  pub is_hit : ℕ → Bool
  pub hits : CountsPrepaidHits t.graph e is_hit
  pub pay : Payments
  pub edges : CountsPayments t.graph e pay.edge
  pub start : (s : ℕ) → IsTrue (pay.start s) ↔ PaysAtStart e.at_start s
  pub potentials : Potentials
  pub least : AreLeastPotentials t.graph t.nest (paid_costs p t pay is_hit) potentials
  pub bound_is : (i : Item) → IsItem t.nest t.graph.first i
      → bound ≡ item_potential potentials i + start_price p pay

-- the persistent bound of a task: with the events of its regions
pub record IsPersistentBound (p : Platform) (t : TaskGraph) (bound : ℕ) : Type 0 where
  pub events : Events
  pub are : AreRegionEvents t.graph (accesses p t.places.address) t.nest events
  pub bound_is : IsPrepaidBound p t events bound

-- the persistent part of a task, with the sets that are useful with persistence before each node: its
-- useful set has those of all nodes
pub record IsPersistentPart (p : Platform) (t : TaskGraph) (part : Part)
    (useful : ℕ → ℕ → Bool) : Type 0 where
  pub events : Events
  pub are : AreRegionEvents t.graph (accesses p t.places.address) t.nest events
  pub bound : IsPrepaidBound p t events part.bound
  pub evicting : IsSetOf part.evicting (IsEcb t.graph (accesses p t.places.address))
  pub useful_sets : IsSetOf part.useful
      (λ s. (y : ℕ) × (y < t.graph.size) × UsefulPrepaid t.graph events y s)
  pub at_nodes : (y s : ℕ) → y < t.graph.size
      → IsTrue (useful y s) ↔ UsefulPrepaid t.graph events y s
