-- The analysis of one task's code, and when it fails.
use Rattle.std.specs.Prelude.{◌≡◌, ℕ, ◌≤◌, ◌^◌, Bool, List, [], true}
use Rattle.crpd_base.specs.Limits.{longest_time}
use Rattle.crpd_base.specs.declared.data.Platform.{Platform}
use Rattle.crpd_base.specs.declared.data.Method.{Method}
use Rattle.crpd_base.specs.declared.data.Method.TheVariants.{Ucb}
use Rattle.crpd_base.specs.declared.data.TaskPart.{TaskPart}
use Rattle.must_cache.specs.Sure.{CountsSureHits}
use Rattle.loop_regions.specs.TaskGraph.{TaskGraph, node_code_of, answering}
use Rattle.exec_bound.specs.Costs.{IsTooLarge}
use Rattle.exec_bound.specs.declared.error.BoundError.{BoundError}
use Rattle.exec_bound.specs.declared.error.BoundError.TheVariants.{Memory, TooLarge}
use Rattle.cert_check.specs.PotentialClauses.{edge_costs}
use Rattle.cert_check.specs.JudgeInput.{accesses_of}
use Rattle.crpd_base.specs.Names.{is_name}
use Rattle.crpd_base.specs.CertificateRanges.{IsTaskPart}
use Rattle.cert_build.specs.Best.{IsBestPart}
use Rattle.cert_build.specs.declared.one_task.Analysis.{Analysis}

-- the task's part of a certificate with this analysis, name, method, window and response
abbrev pub part_with : Analysis → List ℕ → Method → ℕ → ℕ → TaskPart
part_with a name method window response =
    record {
      name = name;
      part = a.part;
      states = a.states;
      potentials = a.potentials;
      loops = a.loops;
      method = method;
      window = window;
      response = response;
    }

-- the part with an empty name and no times
abbrev pub part_of_analysis : Analysis → TaskPart
part_of_analysis a = part_with a [] Ucb 0 0

-- the analysis of a task's code, whose bound is at most 2^40
pub record IsAnalysis (p : Platform) (t : TaskGraph) (a : Analysis) : Type 0 where
  pub best : IsBestPart p t (part_of_analysis a)
  pub within : a.part.bound ≤ longest_time

-- with a name, and times in their ranges, it is in the ranges of a certificate's tasks
abbrev pub KeepsRanges : Analysis → Type 0
KeepsRanges a =
    (name : List ℕ) (method : Method) (window response : ℕ) →
    is_name name ≡ true → window ≤ longest_time → response ≤ 2 ^ 41
    → IsTaskPart (part_with a name method window response)

-- the bound of a task's code, with the hits by Sure, exceeds 2^40
pub record HasLargeBound (p : Platform) (t : TaskGraph) : Type 0 where
  pub is_hit : ℕ → Bool
  pub hits : CountsSureHits t.graph (accesses_of p t) is_hit
  pub exceeds : IsTooLarge t.graph t.nest (edge_costs p (node_code_of t) (answering t) is_hit)

-- out of memory, at any time; or a bound that is too large, with the address of the task's entry
abbrev pub HasNoAnalysis : Platform → TaskGraph → BoundError → Type 0
HasNoAnalysis p t Memory = Unit {0}
HasNoAnalysis p t (TooLarge address) =
    HasLargeBound p t × (address ≡ t.places.address t.graph.first)
