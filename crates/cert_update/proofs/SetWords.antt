-- The sets of an update have the sizes of sets, if those of the old certificate have.
use Rattle.std.proofs.Common.{ℕ, ◌<◌, length, sym, subst, inl, inr, arith, All}
use Rattle.std.proofs.lemmas.List.{get_or_default}
use Rattle.crpd_base.specs.declared.data.Certificate.{Certificate}
use Rattle.crpd_base.specs.declared.data.TaskPart.{TaskPart}
use Rattle.evict_sets.specs.ListedPart.{certified_task, no_task_part}
use Rattle.cert_check.specs.Verdict.{IsJudged, Yes}
use Rattle.cert_check.specs.declared.outcome.Clause.TheVariants.{HasTask}
use Rattle.cert_model.specs.Inner.Ranges.{HasSetWords}
use Rattle.cert_build.proofs.SetWords.{best_part}
use Rattle.cert_update.specs.Unchanged.{Side}
use Rattle.cert_update.specs.Update.{HasSameAnalysis, IsUpdate, IsUpdatedPart}

same_part : (c d : TaskPart) → HasSameAnalysis c d → HasSetWords c → HasSetWords d
same_part c d same h =
    record {
      evicting = rw same.part h.evicting;
      useful = rw same.part h.useful;
      states = rw same.states h.states;
    }

module _ (old : Side) (stated : Certificate) (new : Side)
    (judged : IsJudged old.set old.graphs stated Yes) (words : All HasSetWords stated.tasks) where
  updated_part : (i : ℕ) (d : TaskPart) → IsUpdatedPart old stated new i d → HasSetWords d
  updated_part i d (inl (k, unchanged, same)) =
      same_part (certified_task stated k) d same
      (words k no_task_part (judged k HasTask unchanged.task))
  updated_part i d (inr (changed, B)) = best_part new.set.platform (new.graphs i) d B

  pub updated_words : (c : Certificate) → IsUpdate old stated new c → All HasSetWords c.tasks
  updated_words c U = λ k d lt.
      let here : k < length new.set.tasks = let e = U.tasks in omega (arith, e, lt) in
      subst HasSetWords (sym (get_or_default c.tasks k d no_task_part lt))
      (updated_part k (certified_task c k) (U.each k here).part)
