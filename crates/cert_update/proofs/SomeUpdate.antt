-- Every certificate has an update to another set, or its update is refused.
use Rattle.std.proofs.Common.{◌≡◌, ℕ, ◌<◌, ◌≤◌, List, length, map, Ok, Err, refl, sym, ◌∙◌, subst}
use Rattle.std.proofs.Common.{inl, inr, ⊎_elim, arith, sum_by}
use Rattle.std.proofs.lemmas.Bool.{cases_lt}
use Rattle.std.proofs.Math.ListN.{get_or-map, length-map}
use Rattle.crpd_base.proofs.Times.{has_times}
use Rattle.crpd_base.specs.CertificateRanges.{IsCertificate, IsTaskPart}
use Rattle.crpd_base.specs.Limits.{longest_time, most_entries}
use Rattle.crpd_base.specs.Ranges.{IsTaskSet}
use Rattle.crpd_base.specs.declared.data.Certificate.{Certificate}
use Rattle.crpd_base.specs.declared.data.Method.{Method}
use Rattle.crpd_base.specs.declared.data.Part.{Part}
use Rattle.crpd_base.specs.declared.data.TaskPart.{TaskPart}
use Rattle.cert_model.specs.Reading.{entries}
use Rattle.delay_count.specs.Demand.{demand}
use Rattle.evict_sets.specs.ListedPart.{certified_task, no_task_part}
use Rattle.response.specs.Windows.{IsFirstWithoutWindow}
use Rattle.cert_check.specs.JudgeInput.{longest_at}
use Rattle.cert_build.specs.Analysis.{KeepsRanges, part_of_analysis, part_with}
use Rattle.cert_build.specs.Assembly.{analysis_at, entries_of, no_analysis}
use Rattle.cert_build.specs.Certify.{IsCompletedBy}
use Rattle.cert_build.specs.declared.one_task.Analysis.{Analysis}
use Rattle.cert_build.proofs.Certified.{beside, certified, entries_are, in_deadlines, in_ranges}
use Rattle.cert_build.proofs.Choices.{multiset_agree}
use Rattle.cert_build.proofs.Counting.{entries_map}
use Rattle.cert_update.specs.Answer.{IsLargeAt}
use Rattle.cert_update.specs.Unchanged.{IsChanged, IsUnchanged, Side}
use Rattle.cert_update.specs.Update.{AreUpdatedParts, IsUpdate, IsUpdatedPart, task_part_at}
use Rattle.cert_build.specs.declared.error.BuildError.TheVariants as update
use Rattle.cert_update.specs.UpdateEnds.{AnUpdateExists}
use Rattle.cert_build.proofs.SomeCertificate.{analysed, assembled, completed, some_parts}
use Rattle.cert_build.proofs.SomeCertificate.{IsAnalysisOf}
use Rattle.response.proofs.SomeWindows.{windows_or_first}
use Rattle.cert_build.specs.AnalysisEnds.{IsAnalysable}
use Rattle.crpd_base.proofs.Classical.{AreValues, IsLeastBelow, NotNot, a_list, decided}
use Rattle.crpd_base.proofs.Classical.{least_below, value_at}

module _ (old : Side) (c : Certificate) (new : Side) (S : IsTaskSet new.set)
    (A : (k : ℕ) → k < length new.set.tasks → IsAnalysable (new.graphs k))
    (R : IsCertificate c) (has : (k : ℕ) → k < length old.set.tasks → k < length c.tasks) where
  -- an analysis that gives task k its part
  record IsPartOf (k : ℕ) (a : Analysis) : Type 0 where
    ranges : KeepsRanges a
    updated : IsUpdatedPart old c new k (part_of_analysis a)
    within : IsChanged old new k → a.part.bound ≤ longest_time

  -- the part of an unchanged task
  abbrev kept : ℕ → Analysis
  kept j =
      let t = certified_task c j in
      record { part = t.part; states = t.states; potentials = t.potentials; loops = t.loops }

  unchanged : (k j : ℕ) → IsUnchanged old new j k → IsPartOf k (kept j)
  unchanged k j U =
      let part : IsTaskPart (certified_task c j) = R.tasks.each j no_task_part (has j U.task) in
      record {
        ranges = λ name method window response is_name window_le response_le. record {
          bound = part.bound;
          loops = part.loops;
          name = is_name;
          potentials = part.potentials;
          response = response_le;
          nodes = part.nodes;
          states = part.states;
          window = window_le;
        };
        updated =
            inl (j, U, record { states = refl; part = refl; potentials = refl; loops = refl });
        within = λ changed. absurd (changed j U);
      }

  part_of : (k : ℕ) → k < length new.set.tasks → (IsLargeAt old new k → ⊥)
      → NotNot ((a : Analysis) × IsPartOf k a)
  part_of k lt small = λ none.
      decided ((j : ℕ) × IsUnchanged old new j k) (⊎_elim
      (λ (j : (j : ℕ) × IsUnchanged old new j k). none (kept j.0, unchanged k j.0 j.1))
      (λ other.
      let changed : IsChanged old new k = λ j U. other (j, U) in
      analysed new.set S new.graphs A k lt (λ large. small (changed, large))
      (λ (a : (a : Analysis) × IsAnalysisOf new.set new.graphs k a). none (
        a.0,
        record {
          ranges = a.1.1;
          updated = inr ((λ j U. other (j, U)), a.1.0.best);
          within = λ changed. a.1.0.within;
        },
      ))))

  -- a part with other names, methods and windows is still the task's
  moved : (k : ℕ) (a : Analysis) (name : List ℕ) (method : Method) (window response : ℕ)
      → IsUpdatedPart old c new k (part_of_analysis a)
      → IsUpdatedPart old c new k (part_with a name method window response)
  moved k a name method window response (inl (j, U, same)) =
      inl (
        j,
        U,
        record {
          states = same.states;
          part = same.part;
          potentials = same.potentials;
          loops = same.loops;
        },
      )
  moved k a name method window response (inr (changed, best)) =
      inr (
        changed,
        beside new.set.platform (new.graphs k) (part_of_analysis a) name method window
            response best,
      )

  module _ (all : List Analysis) (V : AreValues IsPartOf (length new.set.tasks) all) where
    part_is : (k : ℕ) → k < length new.set.tasks → IsPartOf k (analysis_at all k)
    part_is = value_at IsPartOf (length new.set.tasks) all no_analysis V

    abbrev parts : List TaskPart
    parts = map part_of_analysis all

    at : (k : ℕ) → part_of_analysis (analysis_at all k) ≡ task_part_at parts k
    at k = sym (get_or-map part_of_analysis all k no_analysis)

    are_parts : AreUpdatedParts old c new parts
    are_parts = record {
      tasks = length-map all part_of_analysis ∙ V.count;
      each = λ k lt.
          subst (λ (t : TaskPart). IsUpdatedPart old c new k t) (at k) (part_is k lt).updated;
      within = λ k lt changed.
          subst (λ (t : TaskPart). t.part.bound ≤ longest_time) (at k)
          ((part_is k lt).within changed);
    }

    module _ (few : sum_by entries_of all ≤ most_entries) (d : Certificate)
        (D : IsCompletedBy new.set (demand new.set) new.graphs (analysis_at all) d) where
      is_update : IsUpdate old c new d
      is_update =
          certified new.set (demand new.set) new.graphs (analysis_at all) d D
          (IsUpdatedPart old c new)
          (λ k lt. subst (λ (t : TaskPart). IsUpdatedPart old c new k t) (sym (D.parts.part k lt))
          (moved k (analysis_at all k) _ _ _ _ (part_is k lt).updated))

      in_range : IsCertificate d
      in_range =
          in_ranges new.set all d D.parts (has_times new.set S) S (λ k lt. (part_is k lt).ranges)
          (in_deadlines new.set (demand new.set) new.graphs (analysis_at all) d D)
          (let e = entries_are new.set all d D.parts V.count in omega (arith, e, few))

pub an_update_exists : AnUpdateExists
an_update_exists old c new S A R has none =
    least_below (IsLargeAt old new) (length new.set.tasks) (⊎_elim
    (λ (i : (i : ℕ) × IsLeastBelow (IsLargeAt old new) (length new.set.tasks) i).
    none (Err (update.TooLarge (record { 0 = i.0 })
    ((new.graphs i.0).places.address (new.graphs i.0).graph.first))) (
      (λ e. cc),
      record { task = i.1.below; large = i.1.holds; first = i.1.least; at = refl },
    ))
    (λ small.
    a_list (IsPartOf old c new S A R has) (length new.set.tasks)
    (λ k lt. part_of old c new S A R has k lt (small k lt))
    (λ all. made all.0 all.1)))
  where
    made : (all : List Analysis)
        → AreValues (IsPartOf old c new S A R has) (length new.set.tasks) all → ⊥
    made all V = elim (cases_lt most_entries (sum_by entries_of all)) [
      | inl many ↦
          none (Err (update.TooManyEntries (entries (map part_of_analysis all)))) (
            (λ e. cc),
            record {
              parts = map part_of_analysis all;
              are = are_parts old c new S A R has all V;
              count_is = refl;
              many = let e = entries_map all in omega (arith, e, many);
            },
          )
      | inr few ↦
          elim (windows_or_first new.set
          (demand new.set (λ k. (analysis_at all k).part) (longest_at new.set.platform new.graphs))
          (multiset_agree new.set (has_times new.set S) (λ k. (analysis_at all k).part)
          (λ k. (analysis_at all k).part) (longest_at new.set.platform new.graphs)
          (longest_at new.set.platform new.graphs) (λ k lt. refl) (λ k lt. refl))) [
            | inl (choices, C) ↦
                some_parts new.set all choices (λ parts.
                let D = completed new.set all choices (demand new.set)
                (multiset_agree new.set (has_times new.set S)) new.graphs C parts.0 parts.1 in
                none (Ok (assembled new.set all choices parts.0)) (
                  is_update old c new S A R has all V few (assembled new.set all choices parts.0) D,
                  in_range old c new S A R has all V few (assembled new.set all choices parts.0) D,
                ))
            | inr (i, first) ↦
                none (Err (update.Unschedulable (record { 0 = i }))) (
                  (λ e. cc),
                  record {
                    parts = map part_of_analysis all;
                    are = are_parts old c new S A R has all V;
                    few = let e = entries_map all in omega (arith, e, few);
                    without = subst (λ (f : ℕ → Part). IsFirstWithoutWindow new.set
                        (demand new.set f (longest_at new.set.platform new.graphs)) i)
                        (λ x k. (at old c new S A R has all V k x).part) first;
                  },
                )
          ]
    ]
