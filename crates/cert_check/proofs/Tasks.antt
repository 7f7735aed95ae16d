-- Reading the lists of graphs, regions and parts.
use Rattle.std.proofs.Common.{◌≡◌, ℕ, ◌<◌, List, length, get_or, Option, Result, sym, ◌∙◌, subst}
use Rattle.std.proofs.Common.{arith}
use Rattle.std.proofs.lemmas.List.{get_or_default}
use Rattle.crpd_base.specs.Ranges.{IsPlatform}
use Rattle.crpd_base.specs.declared.data.Platform.{Platform}
use Rattle.crpd_base.specs.declared.data.TaskSet.{TaskSet}
use Rattle.crpd_base.specs.declared.data.TaskPart.{TaskPart}
use Rattle.crpd_base.specs.declared.data.Certificate.{Certificate}
use Rattle.flat_graph.specs.CodeGraph.{CodeGraph, no_graph, graph_at}
use Rattle.loop_regions.specs.CodeNest.{CodeNest, IsNestOf}
use Rattle.evict_sets.specs.ListedPart.{certified_task, no_task_part}
use Rattle.loop_regions.specs.TaskGraphs.{task_graph, task_graph_at, nest_at, no_nest}
use Rattle.cert_check.specs.Ranges.{HasLowSets}
use Rattle.loop_regions.specs.TaskGraphs.{AreTaskGraphs}
use Rattle.cert_check.specs.Ranges.{IsCertificateInRange}
use Rattle.evict_sets.specs.Listing.{IsEntryIndex, IsListing}
use Rattle.cert_check.specs.declared.outcome.Clause.{Clause}
use Rattle.cert_check.specs.declared.outcome.Clause.TheVariants.{Leaders}
use Rattle.cert_check.specs.Verdict.{GraphHolds, ClauseHolds}
use Rattle.cert_check.specs.Inner.FirstFailing.{AllHold, IsRangeJudged}
use Rattle.cert_check.proofs.Found.{found_as}
use Rattle.cert_check.proofs.Judgements.{graph_same}

pub graph_is : (graphs : List CodeGraph) (i : ℕ) (g : CodeGraph) → i < length graphs
    → g ≡ get_or graphs i g → g ≡ graph_at graphs i
graph_is graphs i g lt is = is ∙ get_or_default graphs i g no_graph lt

pub nest_is : (nests : List CodeNest) (i : ℕ) (n : CodeNest) → i < length nests
    → n ≡ get_or nests i n → n ≡ nest_at nests i
nest_is nests i n lt is = is ∙ get_or_default nests i n no_nest lt

pub beside : (set : TaskSet) (graphs : List CodeGraph) (nests : List CodeNest) (i : ℕ)
    (g : CodeGraph) (n : CodeNest) → AreTaskGraphs set graphs nests → i < length set.tasks
    → g ≡ graph_at graphs i → n ≡ nest_at nests i → IsNestOf g n
beside set graphs nests i g n A lt g_is n_is =
    subst (λ x. IsNestOf x n) (sym g_is)
    (subst (λ x. IsNestOf (graph_at graphs i) x) (sym n_is) (A.each i lt))

pub low_sets : (c : Certificate) (i : ℕ) (t : TaskPart) → IsCertificateInRange c
    → i < length c.tasks → certified_task c i ≡ t → HasLowSets t
low_sets c i t R lt at = subst HasLowSets at (R.sets i no_task_part lt)

pub found_task : (set : TaskSet) (graphs : List CodeGraph) (nests : List CodeNest) (c : Certificate)
    (i : ℕ) (g : CodeGraph) (n : CodeNest) (t : TaskPart) (r : Result (Unit {0}) Clause)
    → g ≡ graph_at graphs i → n ≡ nest_at nests i → certified_task c i ≡ t
    → IsRangeJudged (GraphHolds set.platform (task_graph g n) t) 2 7 r
    → IsRangeJudged (ClauseHolds set (task_graph_at graphs nests) c i) 2 7 r
found_task set graphs nests c i g n t r g_is n_is at F =
    found_as (GraphHolds set.platform (task_graph_at graphs nests i) (certified_task c i))
    (ClauseHolds set (task_graph_at graphs nests) c i) 2 7 r
    (graph_same set (task_graph_at graphs nests) c i)
    (subst (λ x. IsRangeJudged
    (GraphHolds set.platform (task_graph x (nest_at nests i)) (certified_task c i)) 2 7 r) g_is
    (subst (λ x. IsRangeJudged (GraphHolds set.platform (task_graph g x) (certified_task c i)) 2 7
    r) n_is
    (subst (λ x. IsRangeJudged (GraphHolds set.platform (task_graph g n) x) 2 7 r) (sym at) F)))

-- the index of a part's states is that of a listing, once what is listed was checked
pub to_listing : (p : Platform) (g : CodeGraph) (n : CodeNest) (t : TaskPart)
    (places : List (Option ℕ)) → IsPlatform p → HasLowSets t
    → IsEntryIndex t.states (length g.nodes) places
    → AllHold (GraphHolds p (task_graph g n) t) 2 2 → IsListing p g t places
to_listing p g n t places in_range sets index holds = record {
  platform = in_range;
  sets = sets;
  index = index;
  leaders = (holds Leaders (omega arith) (omega arith)).1;
}
