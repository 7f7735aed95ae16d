-- The parts of the tasks, from the results of the analyses.
use Rattle.std.proofs.Common.{◌≡◌, ℕ, ◌<◌, ◌≤◌, Bool, List, [], length, get_or, IsTrue, ◌↔◌, sym}
use Rattle.std.proofs.Common.{◌∙◌, subst}
use Rattle.crpd_base.specs.declared.data.Platform.{Platform}
use Rattle.crpd_base.specs.declared.data.Part.{Part}
use Rattle.crpd_base.specs.Sets.{has, AreWords}
use Rattle.icache.specs.Accesses.{accesses}
use Rattle.flat_graph.specs.CodeGraph.{CodeGraph, graph_of, places_of, graph_at}
use Rattle.loop_regions.specs.Potentials.{item_potential}
use Rattle.loop_regions.specs.CodeNest.{CodeNest, nest_of, IsNestOf}
use Rattle.loop_regions.specs.TaskGraph.{TaskGraph}
use Rattle.delay_count.specs.Gamma.{part_at}
use Rattle.std.proofs.lemmas.List.{get_or_default}
use Rattle.useful_sets.specs.Useful.{IsEcb, IsUcb}
use Rattle.evict_sets.specs.Listing.{counted}
use Rattle.exec_bound.specs.Costs.{costs_of, listed_potentials, greatest_bound, IsBound, IsTooLarge}
use Rattle.must_cache.specs.Sure.{CountsSureHits}
use Rattle.loop_regions.proofs.Beside.{nested}
use Rattle.loop_regions.specs.TaskGraphs.{task_graph, task_graph_at, nest_at}
use Rattle.sensitivity.specs.Accepted.{HasCacheBlocks, IsLeastBound, IsAnalysedPart}
use Rattle.sensitivity.specs.Inner.Found.{IsLarge, TellsHits}
use Rattle.sensitivity.proofs.Bounds.{one_potential}

-- the sets of a task, from the analyses for an equal platform
pub has_sets : (p q : Platform) (g : CodeGraph) (n : CodeNest) (bound : ℕ)
    (evicting useful : List ℕ) → q ≡ p → AreWords 8 evicting → AreWords 8 useful
    → ((s : ℕ) → IsTrue (has evicting s) ↔ IsEcb (graph_of g) (accesses q (places_of g).address) s)
    → ((s : ℕ) → IsTrue (has useful s) ↔ IsUcb (graph_of g) (accesses q (places_of g).address) s)
    → HasCacheBlocks p (task_graph g n)
    (record { bound = bound; evicting = evicting; useful = useful })
has_sets p q g n bound evicting useful e E U ecb ucb =
    record {
      evicting = record {
        size = E;
        numbers =
            subst (λ (x : Platform). (s : ℕ)
            → IsTrue (has evicting s) ↔ IsEcb (graph_of g) (accesses x (places_of g).address) s) e
            ecb;
      };
      useful = record {
        size = U;
        numbers =
            subst (λ (x : Platform). (s : ℕ)
            → IsTrue (has useful s) ↔ IsUcb (graph_of g) (accesses x (places_of g).address) s) e
            ucb;
      };
    }

-- and its hits
pub tells_hits : (p q : Platform) (g : CodeGraph) (n : CodeNest) (hits list : List Bool) → q ≡ p
    → list ≡ hits → length hits ≡ (graph_of g).size
    → CountsSureHits (graph_of g) (accesses q (places_of g).address) (counted hits)
    → TellsHits p (task_graph g n) list
tells_hits p q g n hits list e is count sure =
    subst (λ (l : List Bool). TellsHits p (task_graph g n) l) (sym is)
    (record {
      count = count;
      sure =
          subst (λ (x : Platform).
          CountsSureHits (graph_of g) (accesses x (places_of g).address) (counted hits)) e sure;
    })

pub least_bound : (p : Platform) (g : CodeGraph) (n : CodeNest) (is_hit : ℕ → Bool) (cycles : ℕ)
    (nodes loops : List ℕ) → CountsSureHits (graph_of g) (accesses p (places_of g).address) is_hit
    → IsBound (graph_of g) (nest_of n) (costs_of p g is_hit) cycles nodes loops
    → IsLeastBound p (task_graph g n) cycles × (cycles ≤ greatest_bound)
least_bound p g n is_hit cycles nodes loops H B = (
  record {
    is_hit = is_hit;
    hits = H;
    potentials = listed_potentials nodes loops;
    least = B.least;
    first = B.first;
  },
  B.within,
)

pub large_bound : (p : Platform) (g : CodeGraph) (n : CodeNest) (is_hit : ℕ → Bool) → IsNestOf g n
    → CountsSureHits (graph_of g) (accesses p (places_of g).address) is_hit
    → IsTooLarge (graph_of g) (nest_of n) (costs_of p g is_hit) → IsLarge p (task_graph g n)
large_bound p g n is_hit B H T = (
  item_potential T.0 T.1,
  record {
    is_hit = is_hit;
    hits = H;
    potentials = T.0;
    least = T.2;
    first = λ j it. one_potential (nest_of n) T.0 g.first T.1 j (nested g n B).one_head T.3 it;
  },
  T.4,
)

-- the same for the task at a place
pub moved : (F : TaskGraph → Type 0) (g : CodeGraph) (n : CodeNest) (graphs : List CodeGraph)
    (nests : List CodeNest) (k : ℕ) → g ≡ graph_at graphs k → n ≡ nest_at nests k
    → F (task_graph g n) → F (task_graph_at graphs nests k)
moved F g n graphs nests k e f h =
    subst (λ (x : CodeNest). F (task_graph (graph_at graphs k) x)) f
    (subst (λ (x : CodeGraph). F (task_graph x n)) e h)

-- a part with its bound
pub with_bound : (p : Platform) (t : TaskGraph) (parts : List Part) (k : ℕ) (x : Part) (cycles : ℕ)
    → k < length parts → x ≡ get_or parts k x → HasCacheBlocks p t (part_at parts k)
    → IsLeastBound p t cycles
    → IsAnalysedPart p t (record x { bound = cycles })
with_bound p t parts k x cycles lt is H B =
    let here : HasCacheBlocks p t x = subst (λ (y : Part). HasCacheBlocks p t y)
    (sym (is ∙ get_or_default parts k x (record { bound = 0; evicting = []; useful = [] }) lt)) H in
    record { bound = B; sets = record { evicting = here.evicting; useful = here.useful } }
