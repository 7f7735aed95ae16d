-- The sets of the analysis' certificate have the sizes of sets.
use Rattle.std.proofs.Common.{ℕ, ◌<◌, length, sym, subst, arith, All}
use Rattle.std.proofs.lemmas.List.{get_or_default}
use Rattle.crpd_base.specs.declared.data.Certificate.{Certificate}
use Rattle.crpd_base.specs.declared.data.Platform.{Platform}
use Rattle.crpd_base.specs.declared.data.TaskPart.{TaskPart}
use Rattle.crpd_base.specs.declared.data.TaskSet.{TaskSet}
use Rattle.loop_regions.specs.TaskGraph.{TaskGraph}
use Rattle.evict_sets.specs.ListedPart.{certified_task, no_task_part}
use Rattle.cert_model.specs.Inner.Ranges.{HasSetWords}
use Rattle.cert_build.specs.Best.{Demands, IsAnalysisBy, IsBestPart}

pub best_part : (p : Platform) (t : TaskGraph) (c : TaskPart) → IsBestPart p t c → HasSetWords c
best_part p t c B = record {
  evicting = B.evicting.size;
  useful = B.useful.size;
  states = λ k d lt. (B.states.each k d lt).useful.size;
}

pub best_words : (set : TaskSet) (demands : Demands) (graphs : ℕ → TaskGraph) (c : Certificate)
    → IsAnalysisBy set demands graphs c → All HasSetWords c.tasks
best_words set demands graphs c B = λ k d lt.
    let here : k < length set.tasks = let e = B.tasks in omega (arith, e, lt) in
    subst HasSetWords (sym (get_or_default c.tasks k d no_task_part lt))
    (best_part set.platform (graphs k) (certified_task c k) (B.each k here).part)
