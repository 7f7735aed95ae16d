-- Every set has the analysis' certificate by a demand, or is refused.
use Rattle.std.proofs.Common.{◌≡◌, ◌⊎◌, ℕ, ◌+◌, ◌<◌, ◌≤◌, List, length, map, Result, Ok, Err}
use Rattle.std.proofs.Common.{get_or, refl, ap, inl, inr, ⊎_elim, arith, sum_by}
use Rattle.std.proofs.lemmas.Bool.{cases_lt}
use Rattle.crpd_base.specs.Limits.{most_entries}
use Rattle.crpd_base.specs.Ranges.{IsTaskSet}
use Rattle.crpd_base.specs.Tasks.{jitter_of}
use Rattle.crpd_base.specs.declared.data.Certificate.{Certificate}
use Rattle.crpd_base.specs.declared.data.TaskPart.{TaskPart}
use Rattle.crpd_base.specs.declared.data.TaskSet.{TaskSet}
use Rattle.cert_model.specs.Reading.{entries}
use Rattle.evict_sets.specs.ListedPart.{no_task_part}
use Rattle.exec_bound.specs.declared.error.BoundError.{BoundError}
use Rattle.exec_bound.specs.declared.error.BoundError.TheVariants as bound
use Rattle.loop_regions.specs.TaskGraph.{TaskGraph}
use Rattle.response.specs.Windows.{AreAllChoices, chosen_method, chosen_window}
use Rattle.response.specs.declared.choice.Choice.{Choice}
use Rattle.response.specs.declared.choice.WindowError.TheVariants as window
use Rattle.cert_check.specs.JudgeInput.{longest_at, name_at}
use Rattle.cert_build.specs.Analysis.{IsAnalysis, HasLargeBound, KeepsRanges, part_of_analysis}
use Rattle.cert_build.specs.Analysis.{part_with}
use Rattle.cert_build.specs.Assembly.{AreAnalysed, analysis_at, entries_of, no_analysis}
use Rattle.cert_build.specs.Best.{Demands}
use Rattle.cert_build.specs.Certify.{AreBestParts, IsCompletedBy, IsFirstLarge}
use Rattle.cert_build.specs.declared.error.BuildError.TheVariants as build
use Rattle.cert_build.specs.declared.one_task.Analysis.{Analysis}
use Rattle.cert_build.specs.CertificateEnds.{ACertificateExists}
use Rattle.cert_build.proofs.Assembly.{has_parts}
use Rattle.cert_build.proofs.Certified.{best_in_ranges, is_best, not_scheduled}
use Rattle.cert_build.proofs.Choices.{AllAgree, chosen_by}
use Rattle.cert_build.proofs.Counting.{best_parts, entries_map}
use Rattle.cert_build.specs.AnalysisEnds.{IsAnalysable, IsAnalysisEnd}
use Rattle.cert_build.proofs.SomeAnalysis.{an_analysis_exists}
use Rattle.response.proofs.SomeWindows.{windows_or_first}
use Rattle.crpd_base.proofs.Classical.{AreValues, IsLeastBelow, NotNot, a_list, least_below}
use Rattle.crpd_base.proofs.Classical.{unrefuted, value_at}

-- the analyses of the first n tasks
abbrev pub IsAnalysisOf : TaskSet → (ℕ → TaskGraph) → ℕ → Analysis → Type 0
IsAnalysisOf set graphs k a = IsAnalysis set.platform (graphs k) a × KeepsRanges a

-- certificates with some analyses and the windows of some choices
module _ (set : TaskSet) (all : List Analysis) (choices : List Choice) where
  abbrev pub IsPartAt : ℕ → TaskPart → Type 0
  IsPartAt k part =
      part ≡ part_with (analysis_at all k) (name_at set k) (chosen_method choices k)
      (chosen_window choices k) (chosen_window choices k + jitter_of set k)

  pub some_parts : NotNot ((parts : List TaskPart) × AreValues IsPartAt (length set.tasks) parts)
  some_parts =
      a_list IsPartAt (length set.tasks)
      (λ k lt. unrefuted (
        part_with (analysis_at all k) (name_at set k) (chosen_method choices k)
            (chosen_window choices k) (chosen_window choices k + jitter_of set k),
        refl,
      ))

  abbrev pub assembled : List TaskPart → Certificate
  assembled parts = record { platform = set.platform; tasks = parts }

  pub completed : (demands : Demands) → AllAgree set demands → (graphs : ℕ → TaskGraph)
      → AreAllChoices set (demands (λ k. (analysis_at all k).part)
      (longest_at set.platform graphs)) choices
      → (parts : List TaskPart) → AreValues IsPartAt (length set.tasks) parts
      → IsCompletedBy set demands graphs (analysis_at all) (assembled parts)
  completed demands agree graphs C parts P = record {
    parts = has_parts set all choices (assembled parts)
        (record { platform = refl; parts = record { tasks = P.count; each = at } });
    smaller = chosen_by set demands agree graphs (assembled parts)
        (λ k. (analysis_at all k).part) (longest_at set.platform graphs) choices C
        (λ k lt. record {
          part = ap (λ (t : TaskPart). t.part) (at k lt);
          instruction = refl;
          window = ap (λ (t : TaskPart). t.window) (at k lt);
          method = ap (λ (t : TaskPart). t.method) (at k lt);
        });
  }
    where
      at : (k : ℕ) → k < length set.tasks → IsPartAt k (get_or parts k no_task_part)
      at = value_at IsPartAt (length set.tasks) parts no_task_part P

module _ (set : TaskSet) (S : IsTaskSet set) (graphs : ℕ → TaskGraph)
    (A : (k : ℕ) → k < length set.tasks → IsAnalysable (graphs k)) where
  pub analysed : (k : ℕ) → k < length set.tasks → (HasLargeBound set.platform (graphs k) → ⊥)
      → NotNot ((a : Analysis) × IsAnalysisOf set graphs k a)
  analysed k lt small = λ none.
      an_analysis_exists set.platform (graphs k) S.platform (A k lt) (by none)
    where
      by : ((a : Analysis) × IsAnalysisOf set graphs k a → ⊥) → (r : Result Analysis BoundError)
          → IsAnalysisEnd set.platform (graphs k) r → ⊥
      by none (Ok a) end = none (a, end)
      by none (Err bound.Memory) end = end.0 refl
      by none (Err (bound.TooLarge address)) end = small end.1.0

  -- the analyses of all tasks
  abbrev pub HasAnalyses : ℕ → Type 0
  HasAnalyses n = (all : List Analysis) × AreValues (IsAnalysisOf set graphs) n all

  -- or the first task whose bound is too large, with the analyses of those before it
  abbrev pub HasFirstLarge : Type 0
  HasFirstLarge = (i : ℕ) × IsFirstLarge set graphs i × HasAnalyses i

  pub analyses_or_large : NotNot (HasAnalyses (length set.tasks) ⊎ HasFirstLarge)
  analyses_or_large = λ none.
      least_below (λ k. HasLargeBound set.platform (graphs k)) (length set.tasks) (⊎_elim
      (λ (i : (i : ℕ) × IsLeastBelow (λ k. HasLargeBound set.platform (graphs k))
      (length set.tasks) i).
      let task = i.1.below in
      a_list (IsAnalysisOf set graphs) i.0
      (λ k lt. analysed k (omega (arith, lt, task)) (i.1.least k lt))
      (λ all. none (inr (
        i.0,
        record { task = i.1.below; large = i.1.holds; before = i.1.least },
        all,
      ))))
      (λ small.
      a_list (IsAnalysisOf set graphs) (length set.tasks)
      (λ k lt. analysed k lt (small k lt)) (λ all. none (inl all))))

  module _ (all : List Analysis) (V : AreValues (IsAnalysisOf set graphs) (length set.tasks) all)
    where
      pub analysis_is : (k : ℕ) → k < length set.tasks
          → IsAnalysisOf set graphs k (analysis_at all k)
      analysis_is = value_at (IsAnalysisOf set graphs) (length set.tasks) all no_analysis V

      pub parts_are : AreBestParts set graphs (map part_of_analysis all)
      parts_are = best_parts set graphs all V.count (λ k lt. (analysis_is k lt).0)

      are_analysed : sum_by entries_of all ≤ most_entries → AreAnalysed set graphs all
      are_analysed few = record {
        tasks = V.count;
        each = λ k lt. (analysis_is k lt).0;
        ranges = λ k lt. (analysis_is k lt).1;
        entries = few;
      }

pub a_certificate_exists : ACertificateExists
a_certificate_exists set demands graphs S A agree none =
    analyses_or_large set S graphs A (⊎_elim made
    (λ (i : HasFirstLarge set S graphs A).
    none (Err (build.TooLarge (record { 0 = i.0 })
    ((graphs i.0).places.address (graphs i.0).graph.first)))
    ((λ e. cc), (i.1, refl))))
  where
    made : HasAnalyses set S graphs A (length set.tasks) → ⊥
    made (all, V) = elim (cases_lt most_entries (sum_by entries_of all)) [
      | inl many ↦
          none (Err (build.TooManyEntries (entries (map part_of_analysis all)))) (
            (λ e. cc),
            (
              map part_of_analysis all,
              parts_are set S graphs A all V,
              refl,
              (let e = entries_map all in omega (arith, e, many)),
            ),
          )
      | inr few ↦
          let AA = are_analysed set S graphs A all V few in
          elim (windows_or_first set
          (demands (λ k. (analysis_at all k).part) (longest_at set.platform graphs))
          (agree (λ k. (analysis_at all k).part) (λ k. (analysis_at all k).part)
          (longest_at set.platform graphs) (longest_at set.platform graphs)
          (λ k lt. refl) (λ k lt. refl))) [
            | inl (choices, C) ↦
                some_parts set all choices (λ parts.
                let D = completed set all choices demands agree graphs C parts.0 parts.1 in
                none (Ok (assembled set all choices parts.0)) (
                  is_best set demands graphs all AA (assembled set all choices parts.0) D,
                  best_in_ranges set demands graphs all AA (assembled set all choices parts.0) D S,
                ))
            | inr (i, first) ↦
                none (Err (build.Unschedulable (record { 0 = i }))) (
                  (λ e. cc),
                  not_scheduled set demands graphs all AA (window.Unschedulable (record { 0 = i }))
                      (build.Unschedulable (record { 0 = i })) first refl,
                )
          ]
    ]
