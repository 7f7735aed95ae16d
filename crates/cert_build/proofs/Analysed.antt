-- The analysis of a task's code, from its parts.
use Rattle.std.proofs.Common.{◌≡◌, ℕ, ◌≤◌, ◌^◌, Bool, List, ◌∙◌, subst, arith}
use Rattle.crpd_base.specs.declared.data.Platform.{Platform}
use Rattle.crpd_base.specs.declared.data.NodeState.{NodeState}
use Rattle.flat_graph.specs.CodeGraph.{CodeGraph, graph_of, places_of}
use Rattle.icache.specs.Accesses.{Accesses, accesses}
use Rattle.must_cache.specs.Sure.{CountsSureHits}
use Rattle.useful_sets.specs.Useful.{IsUcb, IsEcb}
use Rattle.loop_regions.specs.CodeNest.{CodeNest, nest_of}
use Rattle.evict_sets.specs.Listing.{counted}
use Rattle.exec_bound.specs.Costs.{costs_of, IsBound}
use Rattle.exec_bound.specs.BoundErrors.{IsBoundError}
use Rattle.exec_bound.specs.declared.error.BoundError.{BoundError}
use Rattle.exec_bound.specs.declared.error.BoundError.TheVariants.{Memory, TooLarge}
use Rattle.exec_bound.proofs.GreatestBound.{greatest_is}
use Rattle.loop_regions.specs.TaskGraphs.{task_graph}
use Rattle.cert_model.proofs.Ranged.{rise_wider}
use Rattle.cert_build.specs.Inner.Entries.{AreLeaderEntries}
use Rattle.crpd_base.specs.Sets.{IsSetOf}
use Rattle.cert_build.specs.Analysis.{part_of_analysis, IsAnalysis, KeepsRanges, HasNoAnalysis}
use Rattle.cert_build.specs.declared.one_task.Analysis.{Analysis}
use Rattle.cert_build.proofs.EntryLaws.{all_entries}

module _ (p : Platform) (g : CodeGraph) (n : CodeNest) (hits : List Bool) where
  abbrev pub uses : Accesses
  uses = accesses p (places_of g).address

  within : (cycles : ℕ) (nodes loops : List ℕ)
      → IsBound (graph_of g) (nest_of n) (costs_of p g (counted hits)) cycles nodes loops
      → cycles ≤ 2 ^ 40
  within cycles nodes loops B = subst (λ k. cycles ≤ k) greatest_is B.within

  pub analysed : (a : Analysis) (cycles : ℕ) → a.part.bound ≡ cycles
      → CountsSureHits (graph_of g) uses (counted hits)
      → AreLeaderEntries (graph_of g) uses (graph_of g).size a.states
      → IsSetOf a.part.evicting (IsEcb (graph_of g) uses)
      → IsSetOf a.part.useful (IsUcb (graph_of g) uses)
      → IsBound (graph_of g) (nest_of n) (costs_of p g (counted hits)) cycles a.potentials a.loops
      → IsAnalysis p (task_graph g n) a
  analysed a cycles is H E ecb ucb B =
      record {
        best = record {
          states = all_entries (graph_of g) uses (part_of_analysis a) E;
          evicting = ecb;
          useful = ucb;
          is_hit = counted hits;
          hits = H;
          potentials = record {
            nodes = B.all_nodes;
            regions = B.all_loops;
            least = B.least;
            bound = λ i item. is ∙ B.first i item;
          };
        };
        within = let top = within cycles a.potentials a.loops B in omega (arith, is, top);
      }

  pub refused : (e : BoundError) → CountsSureHits (graph_of g) uses (counted hits)
      → IsBoundError g (nest_of n) (costs_of p g (counted hits)) e
      → HasNoAnalysis p (task_graph g n) e
  refused Memory H R = tt
  refused (TooLarge address) H R = (record { is_hit = counted hits; hits = H; exceeds = R.1 }, R.0)

  -- the parts are in the ranges of a certificate
  pub ranges : (graph_of g).size ≤ 16384 → (nest_of n).size ≤ 16384 → (a : Analysis) (cycles : ℕ)
      → a.part.bound ≡ cycles → AreLeaderEntries (graph_of g) uses (graph_of g).size a.states
      → IsBound (graph_of g) (nest_of n) (costs_of p g (counted hits)) cycles a.potentials a.loops
      → KeepsRanges a
  ranges few few_regions a cycles is E B name method window response is_name window_le response_le =
      record {
        bound = let top = within cycles a.potentials a.loops B in omega (arith, is, top);
        loops = record {
          few = let count = B.all_loops in omega (arith, count, few_regions);
          each = B.small_loops;
        };
        name = is_name;
        potentials = record {
          few = let count = B.all_nodes in omega (arith, count, few);
          each = B.small_nodes;
        };
        response = response_le;
        nodes =
            rise_wider (λ (s : NodeState). s.node) 0 (graph_of g).size 16384 a.states few E.rise;
        states = E.ranges;
        window = window_le;
      }
