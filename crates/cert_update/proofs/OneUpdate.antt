-- There is at most one update of a certificate.
use Rattle.std.proofs.Common.{◌≡◌, ◌≢◌, ℕ, ◌<◌, [], length, get_or, sym, ◌∙◌, subst, inl, inr}
use Rattle.std.proofs.Common.{⊎_elim, arith}
use Rattle.std.proofs.lemmas.Bool.{cases_order}
use Rattle.std.proofs.lemmas.List.{get_or-map}
use Rattle.crpd_base.proofs.Elements.{some_at}
use Rattle.crpd_base.specs.Ranges.{IsTaskSet}
use Rattle.crpd_base.specs.declared.data.TaskSpec.{TaskSpec}
use Rattle.crpd_base.specs.declared.data.TaskSet.{TaskSet}
use Rattle.crpd_base.specs.declared.data.TaskPart.{TaskPart}
use Rattle.crpd_base.specs.declared.data.Certificate.{Certificate}
use Rattle.evict_sets.specs.ListedPart.{certified_task}
use Rattle.delay_count.specs.Demand.{demand}
use Rattle.cert_check.specs.JudgeInput.{longest_at, name_at}
use Rattle.crpd_base.proofs.Times.{has_times}
use Rattle.cert_build.proofs.Choices.{multiset_agree}
use Rattle.cert_build.proofs.OneBest.{same_analysis}
use Rattle.cert_build.proofs.OneCertificate.{AreOneAnalysis, SameAnalysis, one_certificate}
use Rattle.cert_update.specs.Unchanged.{Side, IsUnchanged}
use Rattle.cert_update.specs.Update.{IsUpdatedPart, HasSameAnalysis}
use Rattle.cert_update.specs.Laws.{OneUpdateLaw}

-- tasks of a set with one name are one task
module _ (set : TaskSet) (S : IsTaskSet set) where
  named : (i : ℕ) (d : TaskSpec) → i < length set.tasks
      → name_at set i ≡ (get_or set.tasks i d).name
  named i d lt = get_or-map (λ (k : TaskSpec). k.name) set.tasks i d [] lt

  apart : (i j : ℕ) → i < j → j < length set.tasks → name_at set i ≢ name_at set j
  apart i j lt within e =
      let d = some_at set.tasks j within in
      S.names i j d.0 lt within
      (sym (named i d.0 (omega (arith, lt, within))) ∙ e ∙ named j d.0 within)

  pub one_name : (i j : ℕ) → i < length set.tasks → j < length set.tasks
      → name_at set i ≡ name_at set j → i ≡ j
  one_name i j i_lt j_lt e =
      ⊎_elim
      (λ same. same)
      (λ o. ⊎_elim (λ lt. absurd (apart i j lt j_lt e))
      (λ lt. absurd (apart j i lt i_lt (sym e))) o)
      (cases_order i j)

-- parts that state the same about the code as a third one
kept_analysis : (c d e : TaskPart) → HasSameAnalysis c d → HasSameAnalysis c e → SameAnalysis d e
kept_analysis c d e D E = (
  D.part ∙ sym E.part,
  D.states ∙ sym E.states,
  D.potentials ∙ sym E.potentials,
  D.loops ∙ sym E.loops,
)

module _ (old new : Side) (c : Certificate) (O : IsTaskSet old.set) where
  one_source : (i k j : ℕ) → IsUnchanged old new k i → IsUnchanged old new j i → k ≡ j
  one_source i k j K J = one_name old.set O k j K.task J.task (K.name ∙ sym J.name)

  pub same_update : AreOneAnalysis new.set (IsUpdatedPart old c new)
  same_update i x y lt (inl a) (inl b) =
      kept_analysis (certified_task c a.0) x y a.2
      (subst (λ k. HasSameAnalysis (certified_task c k) y) (one_source i b.0 a.0 b.1 a.1) b.2)
  same_update i x y lt (inl a) (inr b) = absurd (b.0 a.0 a.1)
  same_update i x y lt (inr a) (inl b) = absurd (a.0 b.0 b.1)
  same_update i x y lt (inr a) (inr b) =
      same_analysis new.set.platform (new.graphs i) x y a.1 b.1

pub one_update_by : OneUpdateLaw
one_update_by old new c d e O S =
    one_certificate new.set (demand new.set) (longest_at new.set.platform new.graphs)
    (IsUpdatedPart old c new) (multiset_agree new.set (has_times new.set S))
    (same_update old new c O) d e
