-- Laws of persistent parts.
use Rattle.std.specs.Prelude.{◌≡◌, ◌↔◌, ℕ, ◌<◌, ◌≤◌, Bool, IsTrue}
use Rattle.crpd_base.specs.declared.data.Part.{Part}
use Rattle.crpd_base.specs.declared.data.Platform.{Platform}
use Rattle.crpd_base.specs.Ranges.{IsPlatform}
use Rattle.crpd_base.specs.Sets.{IsSetOf}
use Rattle.flat_graph.specs.Graph.{IsGraph}
use Rattle.icache.specs.Accesses.{accesses}
use Rattle.loop_regions.specs.Nest.{IsNested, Item, IsItem}
use Rattle.loop_regions.specs.Potentials.{Potentials, edge_costs, item_potential}
use Rattle.loop_regions.specs.Stated.{IsOnCycle}
use Rattle.loop_regions.specs.TaskGraph.{TaskGraph, node_code_of, answering}
use Rattle.must_cache.specs.Sure.{CountsSureHits}
use Rattle.useful_sets.specs.Useful.{Useful, IsUcb}
use Rattle.exec_bound.specs.Least.{AreLeastPotentials}
use Rattle.walk_parts.specs.Parts.{WalkPart, IsSoundPart}
use Rattle.persistent_blocks.specs.PersistentPart.{IsPersistentPart, IsPersistentBound}

-- a persistent part is the bound and the sets of a sound part: what the proof of safety needs
pub record HasSoundWalks (p : Platform) (t : TaskGraph) (part : Part)
    (useful : ℕ → ℕ → Bool) : Type 0 where
  pub walks : WalkPart
  pub sound : IsSoundPart p t walks
  pub part_is : walks.part ≡ part
  pub useful_is : walks.useful ≡ useful

-- persistent parts are sound
abbrev pub PersistentPartIsSound : Type 0
PersistentPartIsSound =
    (p : Platform) (t : TaskGraph) (part : Part) (useful : ℕ → ℕ → Bool) →
    1 ≤ p.sets → IsGraph t.graph → IsNested t.graph t.nest → IsPersistentPart p t part useful
    → HasSoundWalks p t part useful

-- a task has at most one persistent bound
abbrev pub OnePersistentBound : Type 0
OnePersistentBound =
    (p : Platform) (t : TaskGraph) (one two : ℕ) → IsGraph t.graph → IsPersistentBound p t one
    → IsPersistentBound p t two → one ≡ two

-- a task has at most one persistent part, with one useful set for each node
pub record IsSamePart (t : TaskGraph) (one two : Part) (useful others : ℕ → ℕ → Bool) : Type 0 where
  pub part : one ≡ two
  pub at_nodes : (y s : ℕ) → y < t.graph.size → useful y s ≡ others y s

abbrev pub OnePersistentPart : Type 0
OnePersistentPart =
    (p : Platform) (t : TaskGraph) (one two : Part) (useful others : ℕ → ℕ → Bool) →
    IsGraph t.graph → IsPersistentPart p t one useful → IsPersistentPart p t two others
    → IsSamePart t one two useful others

-- it cannot be refuted that a task has a persistent part
abbrev pub APersistentPartExists : Type 0
APersistentPartExists =
    (p : Platform) (t : TaskGraph) → IsPlatform p → IsGraph t.graph → IsNested t.graph t.nest →
    ((y : ℕ) → IsOnCycle t.graph t.nest y → ⊥)
    → ((part : Part) (useful : ℕ → ℕ → Bool) → IsPersistentPart p t part useful → ⊥) → ⊥

-- the part by the plain analysis: the sets that are useful by hits by Sure, and the least potential of
-- the first node's item with these hits
pub record IsPlainPart (p : Platform) (t : TaskGraph) (part : Part)
    (useful : ℕ → ℕ → Bool) : Type 0 where
  pub bound : (is_hit : ℕ → Bool) (q : Potentials) (i : Item)
      → CountsSureHits t.graph (accesses p t.places.address) is_hit
      → AreLeastPotentials t.graph t.nest (edge_costs p (node_code_of t) (answering t) is_hit) q
      → IsItem t.nest t.graph.first i → part.bound ≡ item_potential q i
  pub useful_sets : IsSetOf part.useful (IsUcb t.graph (accesses p t.places.address))
  pub at_nodes : (y s : ℕ) → y < t.graph.size
      → IsTrue (useful y s) ↔ Useful t.graph (accesses p t.places.address) y s

-- without regions a persistent part is the plain one
abbrev pub NoRegions : Type 0
NoRegions =
    (p : Platform) (t : TaskGraph) (part : Part) (useful : ℕ → ℕ → Bool) → IsGraph t.graph
    → t.nest.size ≡ 0 → IsPersistentPart p t part useful → IsPlainPart p t part useful
