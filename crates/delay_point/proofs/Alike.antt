-- Nests that are alike give the same refined windows, and the same refusals.
use Rattle.std.proofs.Common.{ℕ, Bool, List, Result, Ok, Err, inl, inr}
use Rattle.std.proofs.Common.{◌∙◌}
use Rattle.crpd_base.specs.declared.data.Part.{Part}
use Rattle.crpd_base.specs.declared.data.Platform.{Platform}
use Rattle.crpd_base.specs.declared.data.RefinedTask.{RefinedTask}
use Rattle.crpd_base.specs.declared.data.TaskSet.{TaskSet}
use Rattle.flat_graph.specs.CodeGraph.{CodeGraph, graph_at, graph_of}
use Rattle.icache.specs.Accesses.{Accesses}
use Rattle.flat_graph.specs.Graph.{Graph}
use Rattle.loop_regions.specs.CodeNest.{CodeNest, nest_of}
use Rattle.loop_regions.specs.Nest.{Nest}
use Rattle.loop_regions.specs.TaskGraphs.{nest_at, task_graph, task_graph_at}
use Rattle.loop_regions.proofs.Alike.{Alike, turned, there, true_too, false_too, item_too}
use Rattle.exec_bound.proofs.Alike.{least_too}
use Rattle.must_cache.specs.Events.{Events}
use Rattle.persistent_blocks.specs.PersistentPart.{IsPersistentPart, IsPersistentBound}
use Rattle.persistent_blocks.specs.PersistentPart.{IsPrepaidBound}
use Rattle.persistent_blocks.specs.Regions.{IsPersistent, EdgeLoads, HeadLoads, AreRegionEvents}
use Rattle.delay_count.specs.Demand.{demand}
use Rattle.cert_check.proofs.Alike.{AllAlike}
use Rattle.cert_build.specs.declared.error.BuildError.TheVariants as build
use Rattle.cert_build.proofs.Alike as analyses
use Rattle.delay_point.specs.Chosen.{IsChosen, RefinedParts, AreRefinedParts, plain_parts}
use Rattle.delay_point.specs.Laws.{IsRefineEnd}
use Rattle.delay_point.specs.RefineErrors.{IsRefineError}
use Rattle.delay_point.specs.Refined.{AreRefined}
use Rattle.delay_point.specs.declared.error.RefineError.{RefineError}
use Rattle.delay_point.specs.declared.error.RefineError.TheVariants.{Memory, TooLarge}
use Rattle.delay_point.specs.declared.error.RefineError.TheVariants.{Unschedulable}

-- what edges that enter regions load
module _ (a : Accesses) (n m : Nest) (A : Alike n m) where
  B : Alike m n
  B = turned n m A

  persistent_too : (r s b : ℕ) → IsPersistent a n r s b → IsPersistent a m r s b
  persistent_too r s b P = record {
    region = there n m A r P.region;
    node = P.node;
    holds = true_too n m A r P.node P.region P.holds;
    own = P.own;
    each = λ y h own.
        P.each y (true_too m n B r y (there n m A r P.region) h) own;
  }

  edge_too : (u v s b : ℕ) → EdgeLoads a n u v s b → EdgeLoads a m u v s b
  edge_too u v s b L = record {
    region = L.region;
    into = true_too n m A L.region v L.pair.region L.into;
    from = false_too n m A L.region u L.pair.region L.from;
    pair = persistent_too L.region s b L.pair;
  }

  head_too : (y s b : ℕ) → HeadLoads a n y s b → HeadLoads a m y s b
  head_too y s b L = record {
    region = L.region;
    head = L.head ∙ A.head L.region L.pair.region;
    pair = persistent_too L.region s b L.pair;
  }

events_too : (g : Graph) (a : Accesses) (n m : Nest) → Alike n m → (e : Events)
    → AreRegionEvents g a n e → AreRegionEvents g a m e
events_too g a n m A e E = record {
  accesses = E.accesses;
  edges = λ u v s b edge. (
    λ is. edge_too a n m A u v s b ((E.edges u v s b edge).0 is),
    λ L. (E.edges u v s b edge).1 (edge_too a m n (turned n m A) u v s b L),
  );
  start = λ s b. (
    λ is. head_too a n m A g.first s b ((E.start s b).0 is),
    λ L. (E.start s b).1 (head_too a m n (turned n m A) g.first s b L),
  );
}

-- one task
module _ (p : Platform) (g : CodeGraph) (n m : CodeNest) (A : Alike (nest_of n) (nest_of m)) where
  prepaid_too : (e : Events) (bound : ℕ) → IsPrepaidBound p (task_graph g n) e bound
      → IsPrepaidBound p (task_graph g m) e bound
  prepaid_too e bound P = record {
    is_hit = P.is_hit;
    hits = P.hits;
    pay = P.pay;
    edges = P.edges;
    start = P.start;
    potentials = P.potentials;
    least = least_too (graph_of g) (nest_of n) (nest_of m) A _ _ P.least;
    bound_is = λ i is.
        P.bound_is i
        (item_too (nest_of m) (nest_of n) (turned (nest_of n) (nest_of m) A) (graph_of g).first i
        is);
  }

  bound_too : (bound : ℕ) → IsPersistentBound p (task_graph g n) bound
      → IsPersistentBound p (task_graph g m) bound
  bound_too bound P = record {
    events = P.events;
    are = events_too (graph_of g) _ (nest_of n) (nest_of m) A P.events P.are;
    bound_is = prepaid_too P.events bound P.bound_is;
  }

  part_too : (part : Part) (sets : ℕ → ℕ → Bool) → IsPersistentPart p (task_graph g n) part sets
      → IsPersistentPart p (task_graph g m) part sets
  part_too part sets P = record {
    events = P.events;
    are = events_too (graph_of g) _ (nest_of n) (nest_of m) A P.events P.are;
    bound = prepaid_too P.events part.bound P.bound;
    evicting = P.evicting;
    useful_sets = P.useful_sets;
    at_nodes = P.at_nodes;
  }

  pub chosen_too : (plain part : Part) (useful sets : ℕ → ℕ → Bool)
      → IsChosen p (task_graph g n) plain useful part sets
      → IsChosen p (task_graph g m) plain useful part sets
  chosen_too plain part useful sets (inl S) =
      inl (record { persistent = part_too part sets S.persistent; smaller = S.smaller })
  chosen_too plain part useful sets (inr K) =
      inr (record {
        bound = K.bound;
        persistent = bound_too K.bound K.persistent;
        no_smaller = K.no_smaller;
        part_is = K.part_is;
        sets_are = K.sets_are;
      })

-- all tasks
module _ (set : TaskSet) (graphs : List CodeGraph) (ns ms : List CodeNest)
    (same : AllAlike set ns ms) where
  parts_too : (all : RefinedParts) → AreRefinedParts set (task_graph_at graphs ns) all
      → AreRefinedParts set (task_graph_at graphs ms) all
  parts_too all R = record {
    best = analyses.parts_too set graphs ns ms same all.analysed R.best;
    useful = R.useful;
    chosen = λ k l.
        chosen_too set.platform (graph_at graphs k) (nest_at ns k) (nest_at ms k) (same k l)
        ((plain_parts all).part k) (all.chosen.part k) (all.useful k) (all.chosen.useful k)
        (R.chosen k l);
  }

  refined_too : (tasks : List RefinedTask) → AreRefined set (task_graph_at graphs ns) tasks
      → AreRefined set (task_graph_at graphs ms) tasks
  refined_too tasks R =
      record { parts = R.parts; are = parts_too R.parts R.are; by = R.by }

  refused_too : (e : RefineError) → IsRefineError set (task_graph_at graphs ns) e
      → IsRefineError set (task_graph_at graphs ms) e
  refused_too Memory R = R
  refused_too (TooLarge t address) R =
      analyses.refused_too set graphs ns ms same (demand set) (build.TooLarge t address) R
  refused_too (Unschedulable t) R = (R.0, parts_too R.0 R.1, R.2)

  pub end_too : (end : Result (List RefinedTask) RefineError)
      → IsRefineEnd set (task_graph_at graphs ns) end
      → IsRefineEnd set (task_graph_at graphs ms) end
  end_too (Ok tasks) R = refined_too tasks R
  end_too (Err e) E = (E.0, refused_too e E.1)
