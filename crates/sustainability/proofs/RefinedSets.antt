-- A set keeps its refined windows with looser times.
use Rattle.std.proofs.Common.{◌≡◌, ℕ, ◌<◌, Bool, List, length, map, refl, sym, ap, subst, arith}
use Rattle.std.specs.Prelude.{IsTrue, ◌↔◌, slice_index_or}
use Rattle.std.specs.List.{range_with_len}
use Rattle.std.proofs.lemmas.List.FromFn.{get_or-map-range_with_len, length-map-range_with_len}
use Rattle.crpd_base.specs.Tasks.{HasTimes}
use Rattle.crpd_base.specs.declared.data.Part.{Part}
use Rattle.crpd_base.specs.declared.data.PointMethod.{PointMethod}
use Rattle.crpd_base.specs.declared.data.PointMethod.TheVariants.{Ucb, Ecb, Point}
use Rattle.crpd_base.specs.declared.data.PointMethod.TheVariants.{PersistentUcb, PersistentPoint}
use Rattle.crpd_base.specs.declared.data.RefinedTask.{RefinedTask}
use Rattle.crpd_base.specs.declared.data.TaskPart.{TaskPart}
use Rattle.crpd_base.specs.declared.data.TaskSet.{TaskSet}
use Rattle.loop_regions.specs.TaskGraph.{TaskGraph}
use Rattle.useful_sets.specs.Useful.{Useful}
use Rattle.evict_sets.specs.ListedPart.{no_task_part}
use Rattle.cert_check.specs.JudgeInput.{accesses_of}
use Rattle.cert_build.specs.Best.{IsBestPart}
use Rattle.cert_build.specs.Certify.{part_in, AreBestParts}
use Rattle.delay_point.specs.Chosen.{IsChosen, RefinedParts, AreRefinedParts, parts_by}
use Rattle.delay_point.specs.Gamma.{AreUsefulSets}
use Rattle.delay_point.specs.Refined.{AreRefined, window_at}
use Rattle.sustainability.specs.Workload.{IsLooser, IsNoLargerPart}
use Rattle.sustainability.specs.RefinedWorkload.{RefinedWorkload, IsNoMoreDemandingAtNodes}
use Rattle.sustainability.specs.SetLaws.{IsRefinedWithin, RefinedSetsAreSustainable}
use Rattle.sustainability.proofs.AcceptedSets.{same_platform, same_longest}
use Rattle.sustainability.proofs.RefinedWindows.{refined_are_sustainable}

same_part : (p q : Part) → p ≡ q → IsNoLargerPart p q
same_part p q e =
    subst (λ x. IsNoLargerPart p x) e
    (record { bound = omega arith; evicting = λ c h. h; useful = λ c h. h })

module _ (origin : ℕ → ℕ) (less more : TaskSet) (graphs : ℕ → TaskGraph) (T : HasTimes more)
    (L : IsLooser origin less more) (tasks : List RefinedTask) (A : AreRefined more graphs tasks)
  where
    abbrev kept : ℕ → TaskGraph
    kept k = graphs (origin k)

    -- the analysis of the origin of a task
    abbrev analysis : ℕ → TaskPart
    analysis k = slice_index_or A.parts.analysed (origin k) no_task_part

    -- the parts of the origins
    abbrev parts : RefinedParts
    parts = record {
      analysed = map analysis (range_with_len 0 (length less.tasks));
      useful = λ k. A.parts.useful (origin k);
      chosen = record {
        part = λ k. A.parts.chosen.part (origin k);
        useful = λ k. A.parts.chosen.useful (origin k);
      };
    }

    analysis_is : (k : ℕ) → k < length less.tasks
        → slice_index_or parts.analysed k no_task_part ≡ analysis k
    analysis_is k l =
        get_or-map-range_with_len analysis 0 (length less.tasks) k k no_task_part l (omega arith)

    part_is : (k : ℕ) → k < length less.tasks
        → part_in parts.analysed k ≡ part_in A.parts.analysed (origin k)
    part_is k l = ap (λ (t : TaskPart). t.part) (analysis_is k l)

    best : AreBestParts less kept parts.analysed
    best = record {
      tasks = length-map-range_with_len analysis 0 (length less.tasks);
      each = λ k l.
          subst (λ t. IsBestPart less.platform (graphs (origin k)) t) (sym (analysis_is k l))
          (subst (λ p. IsBestPart p (graphs (origin k)) (analysis k)) (sym L.platform)
          (A.are.best.each (origin k) (L.order.within k l)));
      within = λ k l.
          let e = ap (λ (p : Part). p.bound) (part_is k l) in
          let le = A.are.best.within (origin k) (L.order.within k l) in
          omega (arith, e, le);
    }

    useful_sets : AreUsefulSets less kept parts.useful
    useful_sets k y c l b =
        subst (λ p. IsTrue (A.parts.useful (origin k) y c)
        ↔ Useful (graphs (origin k)).graph (accesses_of p (graphs (origin k))) y c) (sym L.platform)
        (A.are.useful (origin k) y c (L.order.within k l) b)

    are : AreRefinedParts less kept parts
    are = record {
      best = best;
      useful = useful_sets;
      chosen = λ k l.
          subst (λ x. IsChosen less.platform (graphs (origin k)) x (A.parts.useful (origin k))
          (A.parts.chosen.part (origin k)) (A.parts.chosen.useful (origin k))) (sym (part_is k l))
          (subst (λ p. IsChosen p (graphs (origin k)) (part_in A.parts.analysed (origin k))
          (A.parts.useful (origin k)) (A.parts.chosen.part (origin k))
          (A.parts.chosen.useful (origin k))) (sym L.platform)
          (A.are.chosen (origin k) (L.order.within k l)));
    }

    -- each method counts the parts of the origins
    counted_is : (m : PointMethod) (k : ℕ) → k < length less.tasks
        → (parts_by parts m).part k ≡ (parts_by A.parts m).part (origin k)
    counted_is Ucb k l = part_is k l
    counted_is Ecb k l = part_is k l
    counted_is Point k l = part_is k l
    counted_is PersistentUcb k l = refl
    counted_is PersistentPoint k l = refl

    useful_is : (m : PointMethod) (k : ℕ)
        → (parts_by parts m).useful k ≡ (parts_by A.parts m).useful (origin k)
    useful_is Ucb k = refl
    useful_is Ecb k = refl
    useful_is Point k = refl
    useful_is PersistentUcb k = refl
    useful_is PersistentPoint k = refl

    abbrev less_load : RefinedWorkload
    less_load = record { set = less; graphs = kept; parts = parts }

    abbrev more_load : RefinedWorkload
    more_load = record { set = more; graphs = graphs; parts = A.parts }

    no_more : IsNoMoreDemandingAtNodes origin less_load more_load
    no_more = record {
      counted = λ m. record {
        order = L.order;
        platform = same_platform less.platform more.platform L.platform;
        times = L.times;
        parts = λ k l.
            same_part ((parts_by parts m).part k) ((parts_by A.parts m).part (origin k))
            (counted_is m k l);
        longest = λ k l. same_longest less.platform more.platform (graphs (origin k)) L.platform;
      };
      nodes = λ m k y l b. record {
        node = y;
        within = b;
        useful = λ c h. subst (λ (u : ℕ → ℕ → Bool). IsTrue (u y c)) (useful_is m k) h;
      };
    }

    pub stays_refined : IsRefinedWithin origin less kept (window_at tasks)
    stays_refined =
        let W = refined_are_sustainable origin less_load more_load tasks T no_more A.by in
        record {
          tasks = W.tasks;
          refined = record { parts = parts; are = are; by = W.are };
          no_longer = W.no_longer;
        }

pub refined_sets_are_sustainable : RefinedSetsAreSustainable
refined_sets_are_sustainable origin less more graphs tasks T L A =
    stays_refined origin less more graphs T L tasks A
