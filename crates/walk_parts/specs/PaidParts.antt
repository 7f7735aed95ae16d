-- The part of a task some of whose loads are paid for in advance.
use Rattle.std.specs.Prelude.{◌≡◌, ℕ, ◌+◌, ◌*◌, ◌<◌, ◌≤◌, ◌&&◌, Bool, true, false, not, IsTrue}
use Rattle.std.specs.Prelude.{List, [], ◌∷◌, Option}
use Rattle.crpd_base.specs.declared.data.Part.{Part}
use Rattle.crpd_base.specs.declared.data.Platform.{Platform}
use Rattle.crpd_base.specs.Sets.{has}
use Rattle.flat_graph.specs.Graph.{Edge, IsGraph}
use Rattle.flat_graph.specs.EdgeCost.{edge_cost, end_cost}
use Rattle.icache.specs.Accesses.{Accesses, accesses}
use Rattle.loop_regions.specs.Nest.{IsKeptWalk}
use Rattle.loop_regions.specs.TaskGraph.{TaskGraph, node_code_of, answering}
use Rattle.walk_parts.specs.Credit.{Payments, in_credit, credits, price, start_price, ArePrepaid}
use Rattle.walk_parts.specs.Credit.{AreUseful, given_by}
use Rattle.walk_parts.specs.Parts.{WalkPart, IsSoundPart}

-- what remains of walks, where the last nodes that are hits are counted as such, covers the prices
pub record CoversPrices (p : Platform) (t : TaskGraph) (pay : Payments) (hit : ℕ → Bool)
    (rest : List ℕ → ℕ) (bound : ℕ) : Type 0 where
  pub start : IsKeptWalk t.nest (t.graph.first ∷ [])
      → rest (t.graph.first ∷ []) + start_price p pay ≤ bound
  pub edge : (u v : ℕ) (before : List ℕ) → Edge t.graph u v
      → edge_cost p (node_code_of t) hit u v ≤ rest (u ∷ before)
  pub end : (u : ℕ) (before : List ℕ) → u < t.graph.size → IsTrue (answering t u)
      → end_cost p (node_code_of t) hit u ≤ rest (u ∷ before)
  pub step : (u v : ℕ) (before : List ℕ) → Edge t.graph u v → IsKeptWalk t.nest (v ∷ u ∷ before)
      → edge_cost p (node_code_of t) hit u v + price p pay u v + rest (v ∷ u ∷ before)
      ≤ rest (u ∷ before)

-- whether the last node of a walk is a hit that is not in credit: only then a miss there is no load
-- that was paid for
abbrev pub counts_unpaid : Accesses → Payments → (ℕ → Bool) → List ℕ → Bool
counts_unpaid a pay hit [] = false
counts_unpaid a pay hit (y ∷ before) = hit y && not (in_credit a pay (a.set y) (y ∷ before))

-- such a part: what remains of a walk includes a miss for each set that is in credit
abbrev pub paid_part : Platform → TaskGraph → Payments → (ℕ → Bool) → (List ℕ → ℕ)
    → (ℕ → ℕ → Bool) → Part → WalkPart
paid_part p t pay hit rest useful part =
    record {
      part = part;
      counts = counts_unpaid (accesses p t.places.address) pay hit;
      rest = λ w. rest w + p.miss * credits (accesses p t.places.address) pay p.sets w;
      useful = useful;
    }

-- states that are paid for, hits that they give, potentials that cover the prices, and the sets that
-- are useful between payments
pub record HasPaid (p : Platform) (t : TaskGraph) (pay : Payments) (hit : ℕ → Bool)
    (rest : List ℕ → ℕ) (useful : ℕ → ℕ → Bool) (part : Part)
    (holds : ℕ → ℕ → ℕ → Type 0) : Type 0 where
  pub some_sets : 1 ≤ p.sets
  pub graph : IsGraph t.graph
  pub states : ArePrepaid t.graph (accesses p t.places.address) pay holds
  pub hits : (y : ℕ) → y < t.graph.size → hit y ≡ true
      → let a = accesses p t.places.address in holds y (a.set y) (a.block y)
  pub covers : CoversPrices p t pay hit rest part.bound
  pub useful_sets : AreUseful t.graph (accesses p t.places.address) pay hit useful
  pub evicts : (y : ℕ) → y < t.graph.size
      → let a = accesses p t.places.address in IsTrue (has part.evicting (a.set y))
  pub all : (y s : ℕ) → y < t.graph.size → useful y s ≡ true → IsTrue (has part.useful s)

-- they make a sound part
abbrev pub PaidPartIsSound : Type 0
PaidPartIsSound =
    (p : Platform) (t : TaskGraph) (pay : Payments) (hit : ℕ → Bool) (rest : List ℕ → ℕ)
    (useful : ℕ → ℕ → Bool) (part : Part) (state : ℕ → ℕ → Option ℕ) →
    HasPaid p t pay hit rest useful part (given_by state)
    → IsSoundPart p t (paid_part p t pay hit rest useful part)
