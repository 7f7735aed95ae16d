-- What recording a fetch does.
use Rattle.std.specs.Prelude.{◌≡◌, ◌≢◌, ℕ, ◌<◌, Bool, List, [], ◌∷◌, ◌++◌, length, Option, Some}
use Rattle.std.specs.Prelude.{None}
use Rattle.crpd_base.specs.declared.data.ScriptJob.{ScriptJob}
use Rattle.flat_graph.specs.CodeGraph.{CodeGraph, graph_of, places_of}
use Rattle.flat_graph.specs.Graph.{Edge}
use Rattle.run_account.specs.declared.trails.Gap.{Gap}
use Rattle.run_account.specs.declared.trails.Reload.{Reload}
use Rattle.run_account.specs.declared.trails.Touch.{Touch}
use Rattle.evict_sets.specs.Listing.{counted}
use Rattle.run_account.specs.Inner.Searches.{optional_at, gap_at, IsFirstAfter, IsLatest, IsSince}

-- a job has moved to the node of its fetch at an address, which is reported to be a hit or not; no
-- other job has moved
pub record HasMovedToNode (g : CodeGraph) (hits : List Bool) (place address : ℕ)
    (old new : List (Option ℕ)) (hit : Bool) : Type 0 where
  pub long : length new ≡ length old
  pub first : optional_at old place ≡ None → optional_at new place ≡ Some (graph_of g).first
  pub next : (u v : ℕ) → optional_at old place ≡ Some u → Edge (graph_of g) u v
      → (places_of g).address v ≡ address → optional_at new place ≡ Some v
  pub below : (v : ℕ) → optional_at new place ≡ Some v → v < (graph_of g).size
  pub others : (x : ℕ) → x ≢ place → optional_at new x ≡ optional_at old x
  pub told : (v : ℕ) → optional_at new place ≡ Some v → hit ≡ counted hits v

-- the gap before a job's fetch is among its gaps; there is none if no other job fetched since its
-- last fetch
pub data HasClosedGap (lines : List ScriptJob) (lasts : List (Option ℕ)) (owner : Option ℕ)
    (place now : ℕ) (old new : List Gap) : Type 0 where
  alone : owner ≡ Some place → new ≡ old → HasClosedGap lines lasts owner place now old new
  first : optional_at lasts place ≡ None → new ≡ old
      → HasClosedGap lines lasts owner place now old new
  quiet : (from : ℕ) → optional_at lasts place ≡ Some from
      → ((x : ℕ) → x < length lasts → IsSince from (optional_at lasts x) → ⊥) → new ≡ old
      → HasClosedGap lines lasts owner place now old new
  passed : (from latest : ℕ) → optional_at lasts place ≡ Some from
      → IsLatest lines lasts from latest → new ≡ old ++ record { until = now; latest = latest } ∷ []
      → HasClosedGap lines lasts owner place now old new

-- a reload is the last of the list: its evictor made the last fetch to the set, and its preemptor
-- is the latest of the first gap that ends after that fetch
pub record HasAddedReload (gaps : List Gap) (touch : Option Touch) (place set now : ℕ)
    (old new : List Reload) : Type 0 where
  pub last : Touch
  pub is_last : touch ≡ Some last
  pub gap : ℕ
  pub first : IsFirstAfter gaps last.time gap
  pub entered : new ≡ old ++ record {
    job = place;
    set = set;
    time = now;
    evictor = last.job;
    preemptor = (gap_at gaps gap).latest;
  } ∷ []
