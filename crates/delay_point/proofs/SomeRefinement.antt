-- Every set has refined windows, or is refused.
use Rattle.std.proofs.Common.{◌≡◌, ◌⊎◌, ℕ, zero, suc, ◌+◌, ◌<◌, ◌≤◌, Bool, false, List, [], ◌∷◌}
use Rattle.std.proofs.Common.{◌++◌, length, map, Ok, Err, Option, Some, None, get_or, refl, subst}
use Rattle.std.proofs.Common.{inl, inr, ⊎_elim, arith}
use Rattle.std.proofs.lemmas.Bool.{cases_lt}
use Rattle.crpd_base.proofs.Times.{has_times}
use Rattle.crpd_base.specs.Ranges.{IsTaskSet}
use Rattle.crpd_base.specs.Sets.{has}
use Rattle.crpd_base.specs.Tasks.{jitter_of}
use Rattle.crpd_base.specs.declared.data.Part.{Part}
use Rattle.crpd_base.specs.declared.data.RefinedTask.{RefinedTask}
use Rattle.crpd_base.specs.declared.data.TaskSet.{TaskSet}
use Rattle.loop_regions.specs.TaskGraph.{TaskGraph}
use Rattle.persistent_blocks.specs.PersistentPart.{IsPersistentPart}
use Rattle.cert_build.specs.Analysis.{part_of_analysis}
use Rattle.cert_build.specs.Certify.{part_in}
use Rattle.delay_point.specs.Chosen.{TaskParts, IsChosen, AreChosen, RefinedParts, AreRefinedParts}
use Rattle.delay_point.specs.Chosen.{bound_by}
use Rattle.delay_point.specs.Gamma.{AreUsefulSets, SetsAtNodes}
use Rattle.delay_point.specs.Refined.{AreFirstRefined, Bounds, Needs, point_needs, window_at}
use Rattle.delay_point.specs.RefineErrors.{IsFirstUnrefined}
use Rattle.delay_point.specs.declared.error.RefineError.TheVariants as refine
use Rattle.delay_point.specs.declared.windows.PointChoice.{PointChoice}
use Rattle.delay_point.specs.Laws.{RefinementExists}
use Rattle.cert_build.proofs.SomeCertificate.{HasAnalyses, HasFirstLarge, analyses_or_large}
use Rattle.cert_build.proofs.SomeCertificate.{parts_are}
use Rattle.cert_build.specs.AnalysisEnds.{IsAnalysable}
use Rattle.cert_build.proofs.SomeAnalysis.{AreUsefulWords, some_useful, words_at}
use Rattle.crpd_base.proofs.Classical.{AreValues, NotNot, a_function, a_list, value_at}
use Rattle.delay_point.proofs.Best.{Refined, refined_or_none}
use Rattle.delay_point.proofs.ChosenParts.{part_bound}
use Rattle.delay_point.proofs.Listed.{Agree, first_more}
use Rattle.delay_point.proofs.One.{needs_same}
use Rattle.persistent_blocks.proofs.SomePart.{a_persistent_part_exists}

-- ---- all tasks

module _ (set : TaskSet) (needs : Needs) (agree : Agree needs needs (length set.tasks))
    (bounds : Bounds) where
  abbrev HasTasks : ℕ → Type 0
  HasTasks n = (tasks : List RefinedTask) × AreFirstRefined set needs bounds n tasks

  shorter : (n : ℕ) → n < length set.tasks → Agree needs needs (n + 1)
  shorter n lt window other j below same = agree window other j (omega (arith, below, lt)) same

  with_choice : (n : ℕ) → n < length set.tasks → (tasks : List RefinedTask)
      → AreFirstRefined set needs bounds n tasks → (o : Option PointChoice)
      → Refined set (needs (window_at tasks) n) n o
      → HasTasks (suc n) ⊎ ((i : ℕ) × IsFirstUnrefined set needs bounds i)
  with_choice n lt tasks F None none =
      inr (n, record { task = lt; higher = tasks; refined = F; none = none })
  with_choice n lt tasks F (Some c) R =
      let t : RefinedTask = record {
        bound = bounds n c.method;
        window = c.window;
        response = c.window + jitter_of set n;
        method = c.method;
      } in
      let e : n + 1 ≡ suc n = omega arith in
      inl (
        tasks ++ t ∷ [],
        subst (λ k. AreFirstRefined set needs bounds k (tasks ++ t ∷ [])) e
            (first_more tasks t n F.size set needs bounds (window_at tasks)
            (shorter n lt) (λ k below. refl) refl R refl F),
      )

  with_next : (n : ℕ) → n < length set.tasks → HasTasks n
      → HasTasks (suc n) ⊎ ((i : ℕ) × IsFirstUnrefined set needs bounds i)
  with_next n lt (tasks, F) =
      let o = refined_or_none set (needs (window_at tasks) n) n in with_choice n lt tasks F o.0 o.1

  refined_below : (n : ℕ) → n ≤ length set.tasks
      → HasTasks n ⊎ ((i : ℕ) × IsFirstUnrefined set needs bounds i)
  refined_below zero le = inl (
    [],
    record {
      size = refl;
      bound = λ k lt. absurd (omega arith);
      window = λ k lt. absurd (omega arith);
      response = λ k lt. absurd (omega arith);
    },
  )
  refined_below (suc n) le = elim (refined_below n (omega arith)) [
    | inr without ↦ inr without
    | inl tasks ↦ with_next n (omega (arith, le)) tasks
  ]

-- ---- the sets that are useful at each node

module _ (set : TaskSet) (S : IsTaskSet set) (graphs : ℕ → TaskGraph)
    (A : (k : ℕ) → k < length set.tasks → IsAnalysable (graphs k)) where
  abbrev IsUsefulOf : ℕ → List (List ℕ) → Type 0
  IsUsefulOf k useful =
      (lt : k < length set.tasks)
      → AreUsefulWords set.platform S.platform (graphs k) (A k lt) useful

  abbrev at_nodes : List (List (List ℕ)) → SetsAtNodes
  at_nodes lists k y c = has (get_or (get_or lists k []) y []) c

  are_useful_sets : (lists : List (List (List ℕ)))
      → AreValues IsUsefulOf (length set.tasks) lists → AreUsefulSets set graphs (at_nodes lists)
  are_useful_sets lists V k y c lt within =
      (words_at set.platform S.platform (graphs k) (A k lt) (get_or lists k [])
      (value_at IsUsefulOf (length set.tasks) lists [] V k lt lt) y within).numbers c

  useful_sets : NotNot ((useful : SetsAtNodes) × AreUsefulSets set graphs useful)
  useful_sets = λ none.
      a_list IsUsefulOf (length set.tasks)
      (λ k lt missing. some_useful set.platform S.platform (graphs k) (A k lt)
      (λ u. missing (u.0, λ other. u.1)))
      (λ lists. none (at_nodes lists.0, are_useful_sets lists.0 lists.1))

-- ---- the chosen parts

module _ (set : TaskSet) (S : IsTaskSet set) (graphs : ℕ → TaskGraph)
    (A : (k : ℕ) → k < length set.tasks → IsAnalysable (graphs k)) (plain : TaskParts) where
  -- a part with its useful sets
  abbrev Chosen : Type 0
  Chosen = Part × (ℕ → ℕ → Bool)

  abbrev IsChosenOf : ℕ → Chosen → Type 0
  IsChosenOf k c = IsChosen set.platform (graphs k) (plain.part k) (plain.useful k) c.0 c.1

  least : (k : ℕ) (part : Part) (sets : ℕ → ℕ → Bool)
      → IsPersistentPart set.platform (graphs k) part sets → (c : Chosen) × IsChosenOf k c
  least k part sets P =
      elim (cases_lt part.bound (plain.part k).bound) [
        | inl less ↦ ((part, sets), inl (record { persistent = P; smaller = less }))
        | inr more ↦ (
          (plain.part k, plain.useful k),
          inr (record {
            bound = part.bound;
            persistent = part_bound set.platform (graphs k) part sets P;
            no_smaller = more;
            part_is = refl;
            sets_are = λ y s h. refl;
          }),
        )
      ]

  some_chosen : (k : ℕ) → k < length set.tasks → NotNot ((c : Chosen) × IsChosenOf k c)
  some_chosen k l = λ none.
      let a = A k l in
      a_persistent_part_exists set.platform (graphs k) S.platform a.graph a.nested a.no_cycle
      (λ part sets P. none (least k part sets P))

  no_chosen : Chosen
  no_chosen = (record { bound = 0; evicting = []; useful = [] }, λ y s. false)

  chosen_parts : NotNot ((chosen : TaskParts) × AreChosen set graphs plain chosen)
  chosen_parts = λ none.
      a_function IsChosenOf (length set.tasks) no_chosen some_chosen
      (λ f. none (record { part = λ k. (f.0 k).0; useful = λ k. (f.0 k).1 }, f.1))

pub a_refinement_exists : RefinementExists
a_refinement_exists set graphs S A none =
    analyses_or_large set S graphs A (⊎_elim
    (λ all. useful_sets set S graphs A (λ useful.
    chosen_parts set S graphs A
    (record { part = part_in (map part_of_analysis all.0); useful = useful.0 })
    (λ chosen. refined all useful.0 useful.1 chosen.0 chosen.1)))
    (λ (i : HasFirstLarge set S graphs A).
    none (Err (refine.TooLarge (record { 0 = i.0 })
    ((graphs i.0).places.address (graphs i.0).graph.first))) ((λ e. cc), (i.1, refl))))
  where
    refined : (analyses : HasAnalyses set S graphs A (length set.tasks)) → (useful : SetsAtNodes)
        → AreUsefulSets set graphs useful → (chosen : TaskParts)
        → AreChosen set graphs
        (record { part = part_in (map part_of_analysis analyses.0); useful = useful }) chosen → ⊥
    refined (analyses, V) useful U chosen C =
        let all : RefinedParts = record {
          analysed = map part_of_analysis analyses;
          useful = useful;
          chosen = chosen;
        } in
        let are : AreRefinedParts set graphs all =
        record { best = parts_are set S graphs A analyses V; useful = U; chosen = C } in
        elim (refined_below set (point_needs set graphs all)
        (needs_same set graphs (has_times set S) (λ k l. (A k l).graph) all all are are)
        (bound_by all) (length set.tasks) (omega arith)) [
          | inl (tasks, F) ↦ none (Ok tasks) (record { parts = all; are = are; by = F })
          | inr (i, first) ↦
              none (Err (refine.Unschedulable (record { 0 = i })))
              ((λ e. cc), (all, are, first))
        ]
