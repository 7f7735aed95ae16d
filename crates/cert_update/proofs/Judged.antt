-- The checker accepts an update of a certificate that it accepts; an update of the analysis'
-- certificate is that of the new set.
use Rattle.std.proofs.Common.{ℕ, ◌<◌, List, length, inl, inr}
use Rattle.crpd_base.specs.declared.data.TaskSet.{TaskSet}
use Rattle.crpd_base.specs.declared.data.TaskPart.{TaskPart}
use Rattle.crpd_base.specs.declared.data.Certificate.{Certificate}
use Rattle.flat_graph.specs.CodeGraph.{CodeGraph, graph_at}
use Rattle.flat_graph.proofs.CodeGraphs.{code_is_graph}
use Rattle.loop_regions.specs.CodeNest.{CodeNest}
use Rattle.loop_regions.specs.TaskGraph.{TaskGraph}
use Rattle.evict_sets.specs.ListedPart.{certified_task}
use Rattle.delay_count.specs.Demand.{demand}
use Rattle.cert_check.specs.declared.outcome.Clause.{Clause}
use Rattle.cert_check.specs.JudgeInput.{longest_at}
use Rattle.cert_check.specs.Verdict.{GraphHolds, IsYes}
use Rattle.loop_regions.specs.TaskGraphs.{nest_at}
use Rattle.cert_check.proofs.Clauses.{graph_part}
use Rattle.cert_build.specs.Best.{IsBestPart, IsBest}
use Rattle.cert_build.proofs.Alike.{certificate_too}
use Rattle.cert_build.proofs.Choices.{multiset_above}
use Rattle.cert_build.proofs.Judged.{best_holds, judged_by}
use Rattle.cert_update.specs.Update.{IsUpdate, IsUpdatedPart}
use Rattle.cert_update.specs.Unchanged.{IsUnchanged}
use Rattle.cert_update.specs.Laws.{HasCodes, SameTask, Change, stored_side, UpdateIsJudgedLaw}
use Rattle.cert_update.specs.Laws.{UpdateIsBestLaw}
use Rattle.cert_update.proofs.Pass.{pass_law, best_pass_law}

-- a change of sets with their codes
abbrev pub change_of : (old new : TaskSet) (gs hs : List CodeGraph) (ns ms : List CodeNest)
    → HasCodes old gs ns → HasCodes new hs ms → Change
change_of old new gs hs ns ms before after =
    record {
      old = record {
        set = old;
        graphs = gs;
        nests = ns;
        codes = before;
      };
      new = record {
        set = new;
        graphs = hs;
        nests = ms;
        codes = after;
      };
    }

-- a task of the new set that is unchanged, with the old task
abbrev task_of_change : (h : Change) (from i : ℕ) → i < length h.new.set.tasks
    → IsUnchanged (stored_side h.old) (stored_side h.new) from i → SameTask
task_of_change h from i lt u =
    record {
      old = record {
        platform = h.old.set.platform;
        graph = graph_at h.old.graphs from;
        nest = nest_at h.old.nests from;
        code = h.old.codes.code from u.task;
        regions = h.old.codes.regions from u.task;
      };
      new = record {
        platform = h.new.set.platform;
        graph = graph_at h.new.graphs i;
        nest = nest_at h.new.nests i;
        code = h.new.codes.code i lt;
        regions = h.new.codes.regions i lt;
      };
      same = u.code;
    }

module _ (h : Change) (c d : Certificate)
    (U : IsUpdate (stored_side h.old) c (stored_side h.new) d) where
  abbrev old_graphs : ℕ → TaskGraph
  old_graphs = (stored_side h.old).graphs

  abbrev graphs : ℕ → TaskGraph
  graphs = (stored_side h.new).graphs

  part_holds : IsYes h.old.set old_graphs c →
      (i : ℕ) → i < length h.new.set.tasks → (k : Clause)
      → GraphHolds h.new.set.platform (graphs i) (certified_task d i) k
  part_holds judges i lt k =
      elim (U.each i lt).part [
        | inl x ↦
            let from = x.0 in
            let u = x.1 in
            pass_law (task_of_change h from i lt u) (certified_task c from) (certified_task d i) k
            x.2 (graph_part h.old.set old_graphs c from k (judges from k u.task))
        | inr x ↦
            best_holds h.new.set.platform (graphs i) (certified_task d i)
            (code_is_graph (graph_at h.new.graphs i) (h.new.codes.code i lt)) x.1 k
      ]

-- a part of an update of the analysis' certificate is the analysis'
pub best_part : (h : Change) (c : Certificate) → IsBest h.old.set (stored_side h.old).graphs c
    → (i : ℕ) → i < length h.new.set.tasks → (t : TaskPart)
    → IsUpdatedPart (stored_side h.old) c (stored_side h.new) i t
    → IsBestPart h.new.set.platform ((stored_side h.new).graphs i) t
best_part h c B i lt t (inl x) =
    best_pass_law (task_of_change h x.0 i lt x.1) (certified_task c x.0) t x.2
    (B.each x.0 x.1.task).part
best_part h c B i lt t (inr x) = x.1

pub update_is_judged_law : UpdateIsJudgedLaw
update_is_judged_law h c d judges U =
    judged_by h.new.set (demand h.new.set) (stored_side h.new).graphs
    (IsUpdatedPart (stored_side h.old) c (stored_side h.new)) d (multiset_above h.new.set)
    (part_holds h c d U judges) U

pub update_is_best_law : UpdateIsBestLaw
update_is_best_law h c d B U =
    certificate_too h.new.set (demand h.new.set)
    (longest_at h.new.set.platform (stored_side h.new).graphs)
    (IsUpdatedPart (stored_side h.old) c (stored_side h.new))
    (λ i. IsBestPart h.new.set.platform ((stored_side h.new).graphs i)) d
    (best_part h c B) U
