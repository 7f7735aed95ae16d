-- The updated certificate, assembled from the new parts and their windows.
use Rattle.std.proofs.Common.{◌≡◌, ℕ, ◌<◌, ◌≤◌, ◌^◌, List, length, sym, subst, inl, inr, arith}
use Rattle.std.specs.Prelude.{All, sum_by}
use Rattle.crpd_base.specs.Ranges.{IsTaskSet}
use Rattle.crpd_base.specs.declared.data.Task.{Task}
use Rattle.crpd_base.specs.declared.data.TaskSet.{TaskSet}
use Rattle.crpd_base.specs.declared.data.TaskPart.{TaskPart}
use Rattle.crpd_base.specs.declared.data.Certificate.{Certificate}
use Rattle.crpd_base.specs.declared.data.Method.{Method}
use Rattle.crpd_base.specs.declared.data.Part.{Part}
use Rattle.flat_graph.specs.CodeGraph.{CodeGraph, HasCode, no_graph}
use Rattle.loop_regions.specs.CodeNest.{CodeNest}
use Rattle.evict_sets.specs.ListedPart.{certified_task}
use Rattle.delay_count.specs.Demand.{demand}
use Rattle.response.specs.Windows.{IsFirstWithoutWindow}
use Rattle.response.specs.declared.choice.WindowError.{WindowError}
use Rattle.response.specs.declared.choice.WindowError.TheVariants as window
use Rattle.cert_check.specs.JudgeInput.{longest_at}
use Rattle.loop_regions.specs.TaskGraphs.{AreTaskGraphs}
use Rattle.crpd_base.proofs.Times.{has_times}
use Rattle.crpd_base.specs.CertificateRanges.{IsCertificate}
use Rattle.cert_model.specs.Reading.{entries}
use Rattle.cert_build.specs.Analysis.{part_with, part_of_analysis}
use Rattle.cert_build.specs.Assembly.{analysis_at, entries_of}
use Rattle.cert_build.specs.Certify.{IsCompleted, HasNoWindows}
use Rattle.cert_build.specs.Inner.Certify.{window_build_error}
use Rattle.cert_build.specs.declared.error.BuildError.{BuildError}
use Rattle.cert_build.specs.declared.one_task.Analysis.{Analysis}
use Rattle.cert_build.proofs.Counting.{entries_map}
use Rattle.cert_build.proofs.Certified.{beside as with_others, certified, entries_are, in_ranges}
use Rattle.cert_build.proofs.Certified.{in_deadlines}
use Rattle.cert_update.specs.Unchanged.{Side}
use Rattle.cert_update.specs.Update.{IsUpdate, IsUpdatedPart, AreChangedTasks, AreUpdatedParts}
use Rattle.cert_update.specs.Inner.Parts.{AreNewParts}
use Rattle.cert_update.specs.Laws.{HasCodes}
use Rattle.cert_update.specs.Answer.{IsUpdated, IsUpdateError, HasNoWindowAt}
use Rattle.cert_update.proofs.NewParts.{bare, at_bare, bare_parts}

pub has_codes : (set : TaskSet) (graphs : List CodeGraph) (nests : List CodeNest) → IsTaskSet set
    → AreTaskGraphs set graphs nests → All HasCode graphs → HasCodes set graphs nests
has_codes set graphs nests S A H =
    record {
      range = S;
      code = λ i lt. H i no_graph (let e = A.all_graphs in omega (arith, lt, e));
      regions = λ i lt. let N = A.each i lt in record {
        loops = N.loops;
        regions = N.is_regions;
        accepted = N.accepted;
      };
    }

-- ---- with name, window and response

module _ (old : Side) (c : Certificate) (new : Side) (i : ℕ) where
  beside : (a : Analysis) (name : List ℕ) (method : Method) (window response : ℕ)
      → IsUpdatedPart old c new i (part_of_analysis a)
      → IsUpdatedPart old c new i (part_with a name method window response)
  beside a name method window response (inl x) =
      inl (
        x.0,
        x.1,
        record {
          states = x.2.states;
          part = x.2.part;
          potentials = x.2.potentials;
          loops = x.2.loops;
        },
      )
  beside a name method window response (inr x) =
      inr (
        x.0,
        with_others new.set.platform (new.graphs i) (part_of_analysis a) name method window
            response x.1,
      )

module _ (old : Side) (c : Certificate) (new : Side) (parts : List Analysis) (d : Certificate)
    (A : AreNewParts old c new (length new.set.tasks) parts)
    (few : sum_by entries_of parts ≤ 4000000)
    (K : IsCompleted new.set new.graphs (analysis_at parts) d) where
  part_at : (i : ℕ) → i < length new.set.tasks → IsUpdatedPart old c new i (certified_task d i)
  part_at i lt =
      subst (IsUpdatedPart old c new i) (sym (K.parts.part i lt))
      (beside old c new i (analysis_at parts i) _ _ _ _ (A.each i lt).part)

  pub is_update : IsUpdate old c new d
  is_update =
      certified new.set (demand new.set) new.graphs (analysis_at parts) d K
      (IsUpdatedPart old c new) part_at

  are_parts : AreUpdatedParts old c new d.tasks
  are_parts =
      record {
        tasks = K.parts.tasks;
        each = part_at;
        within = λ i lt changed.
            subst (λ (t : TaskPart). t.part.bound ≤ 2 ^ 40) (sym (K.parts.part i lt))
            ((A.each i lt).within changed);
      }

  few_entries : entries d.tasks ≤ 4000000
  few_entries = let same = entries_are new.set parts d K.parts A.tasks in omega (arith, same, few)

  pub is_updated : (tasks : List Task) → AreChangedTasks old new tasks
      → IsUpdated old c new (record { certificate = d; analysed = tasks })
  is_updated tasks analysed = record {
    certificate = is_update;
    analysed = analysed;
    within = are_parts;
    few = few_entries;
  }

  pub update_in_ranges : IsTaskSet new.set → IsCertificate d
  update_in_ranges S =
      in_ranges new.set parts d K.parts (has_times new.set S) S (λ i lt. (A.each i lt).ranges)
      (in_deadlines new.set (demand new.set) new.graphs (analysis_at parts) d K) few_entries

-- no windows for the new parts
no_windows : (old : Side) (c : Certificate) (new : Side) (parts : List Analysis) (i : ℕ)
    → AreNewParts old c new (length new.set.tasks) parts → sum_by entries_of parts ≤ 4000000
    → IsFirstWithoutWindow new.set
    (demand new.set (λ k. (analysis_at parts k).part) (longest_at new.set.platform new.graphs)) i
    → HasNoWindowAt old c new i
no_windows old c new parts i A few W =
    record {
      parts = bare old c new parts;
      are = bare_parts old c new parts A;
      few = let e = entries_map parts in omega (arith, e, few);
      without =
          subst (λ (f : ℕ → Part).
          IsFirstWithoutWindow new.set (demand new.set f (longest_at new.set.platform new.graphs))
          i)
          (λ x k. ((sym (at_bare old c new parts k)) x).part) W;
    }

-- why there are no windows, as an error of the update
pub not_scheduled : (old : Side) (c : Certificate) (new : Side) (parts : List Analysis)
    → AreNewParts old c new (length new.set.tasks) parts → sum_by entries_of parts ≤ 4000000
    → (e : WindowError) (x : BuildError) → HasNoWindows new.set new.graphs (analysis_at parts) e
    → x ≡ window_build_error e → IsUpdateError old c new x
not_scheduled old c new parts A few window.Memory x W is =
    subst (IsUpdateError old c new) (sym is) tt
not_scheduled old c new parts A few (window.Unschedulable t) x W is =
    subst (IsUpdateError old c new) (sym is) (no_windows old c new parts t.0 A few W)
