-- What is found for a task set with some costs.
use Rattle.std.specs.Prelude.{◌≡◌, ℕ, ◌<◌, Bool, List, [], length, slice_index_or, Option, Some}
use Rattle.std.specs.Prelude.{None}
use Rattle.crpd_base.specs.declared.data.Platform.{Platform}
use Rattle.crpd_base.specs.declared.data.Part.{Part}
use Rattle.crpd_base.specs.declared.data.TaskSet.{TaskSet}
use Rattle.loop_regions.specs.TaskGraph.{TaskGraph}
use Rattle.evict_sets.specs.Listing.{counted}
use Rattle.exec_bound.specs.Costs.{greatest_bound}
use Rattle.must_cache.specs.Sure.{CountsSureHits}
use Rattle.cert_check.specs.JudgeInput.{accesses_of}
use Rattle.delay_count.specs.Gamma.{part_at}
use Rattle.sensitivity.specs.declared.analysis.Bounded.{Bounded}
use Rattle.sensitivity.specs.declared.analysis.Bounded.TheVariants.{Parts, TooLarge}
use Rattle.sensitivity.specs.declared.cost.Cost.{Cost}
use Rattle.sensitivity.specs.declared.cost.Cost.TheVariants.{Switch, Miss}
use Rattle.crpd_base.specs.declared.data.Stop.{Stop}
use Rattle.sensitivity.specs.Costs.{with_switch, with_miss}
use Rattle.sensitivity.specs.Accepted.{HasCacheBlocks, IsLeastBound, AreAnalysedParts, IsAccepted}
use Rattle.sensitivity.specs.Accepted.{IsFirstTooLarge, IsStop}

-- the bound is above 2^40
abbrev pub IsLarge : Platform → TaskGraph → Type 0
IsLarge p t = (c : ℕ) × IsLeastBound p t c × (greatest_bound < c)

-- the parts of all tasks, without their bounds
pub record HaveCacheBlocks (set : TaskSet) (graphs : ℕ → TaskGraph)
    (parts : List Part) : Type 0 where
  pub count : length parts ≡ length set.tasks
  pub each : (k : ℕ) → k < length set.tasks
      → HasCacheBlocks set.platform (graphs k) (part_at parts k)

-- the list has, for each node of a task, whether it is a hit by Sure
pub record TellsHits (p : Platform) (t : TaskGraph) (hits : List Bool) : Type 0 where
  pub count : length hits ≡ t.graph.size
  pub sure : CountsSureHits t.graph (accesses_of p t) (counted hits)

-- and such a list for each task
pub record HaveHits (set : TaskSet) (graphs : ℕ → TaskGraph)
    (hits : List (List Bool)) : Type 0 where
  pub count : length hits ≡ length set.tasks
  pub each : (k : ℕ) → k < length set.tasks
      → TellsHits set.platform (graphs k) (slice_index_or hits k [])

-- the parts of all tasks, as a list
pub record ListsParts (set : TaskSet) (graphs : ℕ → TaskGraph) (parts : List Part) : Type 0 where
  pub count : length parts ≡ length set.tasks
  pub are : AreAnalysedParts set graphs (part_at parts)

-- the parts, or the first task whose bound is too large
abbrev pub GivesBounds : TaskSet → (ℕ → TaskGraph) → Bounded → Type 0
GivesBounds set graphs (Parts parts) = ListsParts set graphs parts.items
GivesBounds set graphs (TooLarge t) = IsFirstTooLarge set graphs t.0

-- the set with a different cost of this kind
abbrev pub with_cost : Cost → TaskSet → ℕ → TaskSet
with_cost Switch set c = with_switch set c
with_cost Miss set c = with_miss set c

-- what is the same for all costs of this kind: the parts with their bounds or, if these depend on
-- the cost, without, and the hits
abbrev pub AreKnown : Cost → TaskSet → (ℕ → TaskGraph) → List Part → List (List Bool) → Type 0
AreKnown Switch set graphs parts hits = ListsParts set graphs parts
AreKnown Miss set graphs parts hits = HaveCacheBlocks set graphs parts × HaveHits set graphs hits

-- the set is accepted, or stops
abbrev pub IsAcceptedOrStops : TaskSet → (ℕ → TaskGraph) → Option Stop → Type 0
IsAcceptedOrStops set graphs None = IsAccepted set graphs
IsAcceptedOrStops set graphs (Some stop) = IsStop set graphs stop
