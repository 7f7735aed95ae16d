-- The analysis of a task is the same for alike nests, and so are a set's certificate and errors.
use Rattle.std.proofs.Common.{◌∙◌, ℕ, ◌<◌, List, length, Result, Ok, Err, arith}
use Rattle.crpd_base.specs.declared.data.Certificate.{Certificate}
use Rattle.crpd_base.specs.declared.data.Platform.{Platform}
use Rattle.crpd_base.specs.declared.data.TaskPart.{TaskPart}
use Rattle.crpd_base.specs.declared.data.TaskSet.{TaskSet}
use Rattle.flat_graph.specs.CodeGraph.{CodeGraph, graph_of, graph_at}
use Rattle.loop_regions.specs.CodeNest.{CodeNest, nest_of}
use Rattle.loop_regions.proofs.Alike.{Alike, turned, item_too}
use Rattle.exec_bound.proofs.Alike as bounds
use Rattle.evict_sets.specs.ListedPart.{certified_task}
use Rattle.cert_check.proofs.Alike.{AllAlike, all_turned}
use Rattle.loop_regions.specs.TaskGraphs.{nest_at, task_graph, task_graph_at}
use Rattle.cert_build.specs.Analysis.{HasLargeBound}
use Rattle.cert_build.specs.Best.{Demands, IsBestPart, IsCertificateBy}
use Rattle.cert_build.specs.Certify.{AreBestParts, IsRefusedBy}
use Rattle.cert_build.specs.declared.error.BuildError.{BuildError}
use Rattle.cert_build.specs.declared.error.BuildError.TheVariants.{Memory, TooLarge, TooManyEntries}
use Rattle.cert_build.specs.declared.error.BuildError.TheVariants.{Unschedulable}
use Rattle.cert_build.proofs.OneBuild.{IsBuilt}

-- ---- one task

module _ (p : Platform) (g : CodeGraph) (n m : CodeNest) (A : Alike (nest_of n) (nest_of m)) where
  pub part_too : (c : TaskPart) → IsBestPart p (task_graph g n) c → IsBestPart p (task_graph g m) c
  part_too c B = record {
    states = B.states;
    evicting = B.evicting;
    useful = B.useful;
    is_hit = B.is_hit;
    hits = B.hits;
    potentials = record {
      nodes = B.potentials.nodes;
      regions = B.potentials.regions ∙ A.size;
      least = bounds.least_too (graph_of g) (nest_of n) (nest_of m) A _ _ B.potentials.least;
      bound = λ i is.
          B.potentials.bound i
          (item_too (nest_of m) (nest_of n) (turned (nest_of n) (nest_of m) A) (graph_of g).first i
          is);
    };
  }

  pub large_too : HasLargeBound p (task_graph g n) → HasLargeBound p (task_graph g m)
  large_too L = record {
    is_hit = L.is_hit;
    hits = L.hits;
    exceeds = bounds.large_too (graph_of g) (nest_of n) (nest_of m) A _ L.exceeds;
  }

-- ---- all tasks

-- a certificate whose parts are of one kind, and so of a second one
pub certificate_too : (set : TaskSet) (demands : Demands) (longest : ℕ → ℕ)
    (IsPart IsOther : ℕ → TaskPart → Type 0) (c : Certificate)
    → ((i : ℕ) → i < length set.tasks → (t : TaskPart) → IsPart i t → IsOther i t)
    → IsCertificateBy set demands longest IsPart c → IsCertificateBy set demands longest IsOther c
certificate_too set demands longest IsPart IsOther c too C = record {
  platform = C.platform;
  tasks = C.tasks;
  each = λ i lt. let t = C.each i lt in record {
    name = t.name;
    part = too i lt (certified_task c i) t.part;
    window = t.window;
    response = t.response;
  };
}

module _ (set : TaskSet) (graphs : List CodeGraph) (ns ms : List CodeNest)
    (same : AllAlike set ns ms) where
  best_too : (i : ℕ) → i < length set.tasks → (t : TaskPart)
      → IsBestPart set.platform (task_graph_at graphs ns i) t
      → IsBestPart set.platform (task_graph_at graphs ms i) t
  best_too i lt =
      part_too set.platform (graph_at graphs i) (nest_at ns i) (nest_at ms i) (same i lt)

  pub parts_too : (parts : List TaskPart) → AreBestParts set (task_graph_at graphs ns) parts
      → AreBestParts set (task_graph_at graphs ms) parts
  parts_too parts B = record {
    tasks = B.tasks;
    each = λ i lt. best_too i lt _ (B.each i lt);
    within = B.within;
  }

  pub refused_too : (demands : Demands) (e : BuildError)
      → IsRefusedBy set demands (task_graph_at graphs ns) e
      → IsRefusedBy set demands (task_graph_at graphs ms) e
  refused_too demands Memory R = tt
  refused_too demands (TooLarge t address) R = (
    record {
      task = R.0.task;
      large =
          large_too set.platform (graph_at graphs t.0) (nest_at ns t.0) (nest_at ms t.0)
          (same t.0 R.0.task) R.0.large;
      before = λ k lt large.
          R.0.before k lt
          (large_too set.platform (graph_at graphs k) (nest_at ms k) (nest_at ns k)
          (all_turned set ns ms same k (let l = R.0.task in omega (arith, l, lt))) large);
    },
    R.1,
  )
  refused_too demands (TooManyEntries n) R = (R.0, parts_too R.0 R.1, R.2, R.3)
  refused_too demands (Unschedulable t) R = (R.0, parts_too R.0 R.1, R.2, R.3)

  pub built_too : (demands : Demands) (r : Result Certificate BuildError)
      → IsBuilt set demands (task_graph_at graphs ns) r
      → IsBuilt set demands (task_graph_at graphs ms) r
  built_too demands (Ok c) C = (certificate_too set demands _ _ _ c best_too C.0, C.1)
  built_too demands (Err e) E = (E.0, refused_too demands e E.1)
