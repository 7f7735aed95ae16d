-- Where the analysis' certificate has no update, the reason is that of the new set's analysis.
use Rattle.std.proofs.Common.{ℕ, ◌<◌, ◌≤◌, List, length, inl, inr, refl, sym, subst, arith}
use Rattle.crpd_base.proofs.Times.{has_times}
use Rattle.crpd_base.specs.Limits.{longest_time}
use Rattle.crpd_base.specs.declared.data.Certificate.{Certificate}
use Rattle.crpd_base.specs.declared.data.Part.{Part}
use Rattle.crpd_base.specs.declared.data.TaskPart.{TaskPart}
use Rattle.flat_graph.specs.CodeGraph.{graph_at}
use Rattle.flat_graph.proofs.CodeGraphs.{code_is_graph}
use Rattle.evict_sets.specs.ListedPart.{certified_task}
use Rattle.delay_count.specs.Demand.{demand}
use Rattle.cert_check.specs.JudgeInput.{longest_at}
use Rattle.cert_build.specs.Analysis.{HasLargeBound}
use Rattle.cert_build.specs.Best.{IsBest, IsBestPart}
use Rattle.cert_build.specs.Certify.{AreBestParts, IsBuildError}
use Rattle.cert_build.specs.declared.error.BuildError.{BuildError}
use Rattle.cert_build.specs.declared.error.BuildError.TheVariants.{Memory, TooLarge, TooManyEntries}
use Rattle.cert_build.specs.declared.error.BuildError.TheVariants.{Unschedulable}
use Rattle.cert_build.proofs.Choices.{multiset_above}
use Rattle.cert_build.proofs.Counting.{not_large}
use Rattle.cert_build.proofs.OneOutcome.{bound_in}
use Rattle.cert_update.specs.Answer.{IsUpdateError}
use Rattle.cert_update.specs.Laws.{Change, UpdateIsRefusedLaw, stored_side}
use Rattle.cert_update.specs.Unchanged.{IsChanged, IsUnchanged, Side}
use Rattle.cert_update.specs.Update.{AreUpdatedParts, HasSameAnalysis, IsUpdatedPart, task_part_at}
use Rattle.cert_update.proofs.Judged.{best_part}

module _ (h : Change) (c : Certificate) (B : IsBest h.old.set (stored_side h.old).graphs c) where
  abbrev old : Side
  old = stored_side h.old

  abbrev new : Side
  new = stored_side h.new

  -- the bound of a part that is kept is at most 2^40
  kept_within : (j : ℕ) → j < length old.set.tasks → (t : TaskPart)
      → HasSameAnalysis (certified_task c j) t → t.part.bound ≤ longest_time
  kept_within j lt t same =
      subst (λ (p : Part). p.bound ≤ longest_time) (sym same.part)
      (bound_in old.set (demand old.set) (longest_at old.set.platform old.graphs)
      (λ i. IsBestPart old.set.platform (old.graphs i)) c (has_times old.set h.old.codes.range)
      (multiset_above old.set) B j lt)

  -- an unchanged task has no bound that is too large
  none_large : (i j : ℕ) → i < length new.set.tasks → IsUnchanged old new j i
      → HasLargeBound new.set.platform (new.graphs i) → ⊥
  none_large i j lt U =
      let t = certified_task c j in
      let same : HasSameAnalysis t t =
      record { states = refl; part = refl; potentials = refl; loops = refl } in
      not_large new.set.platform (new.graphs i) t
      (code_is_graph (graph_at h.new.graphs i) (h.new.codes.code i lt))
      (best_part h c B i lt t (inl (j, U, same))) (kept_within j U.task t same)

  part_within : (i : ℕ) (t : TaskPart) → IsUpdatedPart old c new i t
      → (IsChanged old new i → t.part.bound ≤ longest_time) → t.part.bound ≤ longest_time
  part_within i t (inl x) within = kept_within x.0 x.1.task t x.2
  part_within i t (inr x) within = within x.0

  -- the parts before their windows are known are the analysis'
  best_parts : (parts : List TaskPart) → AreUpdatedParts old c new parts
      → AreBestParts new.set new.graphs parts
  best_parts parts P = record {
    tasks = P.tasks;
    each = λ i lt. best_part h c B i lt (task_part_at parts i) (P.each i lt);
    within = λ i lt. part_within i (task_part_at parts i) (P.each i lt) (P.within i lt);
  }

  refused : (e : BuildError) → IsUpdateError old c new e → IsBuildError new.set new.graphs e
  refused Memory E = tt
  refused (TooLarge t address) E = (
    record {
      task = E.task;
      large = E.large.1;
      before = λ i lt large.
          let within : i < length new.set.tasks = let l = E.task in omega (arith, l, lt) in
          E.first i lt ((λ j U. none_large i j within U large), large);
    },
    E.at,
  )
  refused (TooManyEntries n) E = (E.parts, best_parts E.parts E.are, E.count_is, E.many)
  refused (Unschedulable t) E = (E.parts, best_parts E.parts E.are, E.few, E.without)

pub update_is_refused_law : UpdateIsRefusedLaw
update_is_refused_law h c e B = refused h c B e
