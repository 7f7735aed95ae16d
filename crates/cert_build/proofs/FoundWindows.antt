-- The windows of analyses by any demand, from those of their parts and longest costs.
use Rattle.std.proofs.Common.{◌≡◌, ℕ, ◌<◌, List, length, map, sym, ap, ◌∙◌, slice_index}
use Rattle.std.proofs.Math.ListN.{get_or-map}
use Rattle.crpd_base.specs.declared.data.Part.{Part}
use Rattle.crpd_base.specs.declared.data.TaskSet.{TaskSet}
use Rattle.crpd_base.specs.declared.data.TaskPart.{TaskPart}
use Rattle.crpd_base.specs.declared.data.Certificate.{Certificate}
use Rattle.flat_graph.specs.CodeGraph.{CodeGraph}
use Rattle.loop_regions.specs.CodeNest.{CodeNest}
use Rattle.delay_count.specs.Gamma.{part_at}
use Rattle.response.specs.declared.choice.Choice.{Choice}
use Rattle.response.specs.declared.choice.WindowError.{WindowError}
use Rattle.response.specs.declared.choice.WindowError.TheVariants.{Memory, Unschedulable}
use Rattle.response.specs.Windows.{AreAllChoices, IsWindowError}
use Rattle.response.proofs.Choices.{first_too}
use Rattle.cert_check.specs.JudgeInput.{longest_at}
use Rattle.loop_regions.specs.TaskGraphs.{task_graph_at}
use Rattle.evict_sets.specs.Longest.{AreLongest}
use Rattle.cert_build.specs.Best.{Demands, HasChoice}
use Rattle.cert_build.specs.Assembly.{no_analysis, analysis_at, IsAssembled}
use Rattle.cert_build.specs.Certify.{HaveNoWindowsBy, IsCompletedBy}
use Rattle.cert_build.specs.declared.one_task.Analysis.{Analysis}
use Rattle.cert_build.proofs.Assembly.{has_parts}
use Rattle.cert_build.proofs.Choices.{AllAgree, chosen_by}

-- a part in the analyses' list
pub part_of_list : (analyses : List Analysis) (parts : List Part) (k : ℕ)
    → parts ≡ map (λ (a : Analysis). a.part) analyses
    → part_at parts k ≡ (analysis_at analyses k).part
part_of_list analyses parts k is =
    ap (λ (l : List Part). part_at l k) is
    ∙ get_or-map (λ (a : Analysis). a.part) analyses k no_analysis

module _ (set : TaskSet) (demands : Demands) (agree : AllAgree set demands)
    (graphs : List CodeGraph) (nests : List CodeNest) (analyses : List Analysis)
    (parts : List Part) (costs : List ℕ) (P : parts ≡ map (λ (a : Analysis). a.part) analyses)
    (L : AreLongest set graphs costs) where
  pub completed : (choices : List Choice) (c : Certificate)
      → AreAllChoices set (demands (part_at parts) (slice_index costs)) choices
      → IsAssembled set analyses choices c
      → IsCompletedBy set demands (task_graph_at graphs nests) (analysis_at analyses) c
  completed choices c A C =
      record {
        parts = has_parts set analyses choices c C;
        smaller =
            chosen_by set demands agree (task_graph_at graphs nests) c (part_at parts)
            (slice_index costs) choices A has_choice;
      }
    where
      has_choice : (k : ℕ) → k < length set.tasks
          → HasChoice set (task_graph_at graphs nests) c (part_at parts)
          (slice_index costs) choices k
      has_choice k lt =
          let at = C.parts.each k lt in
          record {
            part = ap (λ (t : TaskPart). t.part) at ∙ sym (part_of_list analyses parts k P);
            instruction = sym (L.each k lt);
            window = ap (λ (t : TaskPart). t.window) at;
            method = ap (λ (t : TaskPart). t.method) at;
          }

  pub unscheduled : (e : WindowError)
      → IsWindowError set (demands (part_at parts) (slice_index costs)) e
      → HaveNoWindowsBy set demands (task_graph_at graphs nests) (analysis_at analyses) e
  unscheduled Memory R = tt
  unscheduled (Unschedulable t) R =
      first_too set (demands (part_at parts) (slice_index costs))
      (demands (λ k. (analysis_at analyses k).part)
      (longest_at set.platform (task_graph_at graphs nests)))
      (agree (part_at parts) (λ k. (analysis_at analyses k).part) (slice_index costs)
      (longest_at set.platform (task_graph_at graphs nests))
      (λ k lt. part_of_list analyses parts k P) L.each)
      t.0 R
