-- Refining a set has at most one end, unless out of memory.
use Rattle.std.proofs.Common.{◌≡◌, ℕ, suc, ◌<◌, List, length, Result, Ok, Err, refl, ap, sym}
use Rattle.std.proofs.Common.{◌∙◌, arith}
use Rattle.std.specs.Prelude.{slice_index_or}
use Rattle.crpd_base.specs.declared.data.RefinedTask.{RefinedTask}
use Rattle.crpd_base.specs.declared.data.TaskPart.{TaskPart}
use Rattle.crpd_base.specs.declared.data.TaskSet.{TaskSet}
use Rattle.crpd_base.specs.Tasks.{HasTimes}
use Rattle.flat_graph.specs.Graph.{IsGraph}
use Rattle.loop_regions.specs.TaskGraph.{TaskGraph}
use Rattle.evict_sets.specs.ListedPart.{no_task_part}
use Rattle.response.proofs.WindowLaws.{none_too}
use Rattle.cert_check.proofs.OneAnswer.{neither_less}
use Rattle.cert_build.specs.Certify.{AreBestParts, IsFirstLarge}
use Rattle.cert_build.proofs.Counting.{not_large}
use Rattle.delay_point.specs.Chosen.{RefinedParts, AreRefinedParts, bound_by}
use Rattle.delay_point.specs.Refined.{IsRefinedWindow, AreRefined, point_needs, window_at, method_at}
use Rattle.delay_point.specs.RefineErrors.{IsFirstUnrefined}
use Rattle.delay_point.specs.Laws.{IsRefineEnd, OneRefineEnd}
use Rattle.delay_point.specs.declared.error.RefineError.{RefineError}
use Rattle.delay_point.specs.declared.error.RefineError.TheVariants.{Memory, TooLarge}
use Rattle.delay_point.specs.declared.error.RefineError.TheVariants.{Unschedulable}
use Rattle.delay_point.proofs.One.{below, needs_same, one_refined}

module _ (set : TaskSet) (graphs : ℕ → TaskGraph) (times : HasTimes set)
    (G : (k : ℕ) → k < length set.tasks → IsGraph (graphs k).graph) where
  -- no bound of the analyses' parts is too large
  none_large : (parts : List TaskPart) (i : ℕ) → AreBestParts set graphs parts
      → IsFirstLarge set graphs i → ⊥
  none_large parts i B L =
      not_large set.platform (graphs i) (slice_index_or parts i no_task_part) (G i L.task)
      (B.each i L.task) (B.within i L.task) L.large

  -- what is known of the first task without a window
  abbrev Unrefined : ℕ → Type 0
  Unrefined i =
      (parts : RefinedParts) × AreRefinedParts set graphs parts
      × IsFirstUnrefined set (point_needs set graphs parts) (bound_by parts) i

  -- a task with a refined window, as all higher ones, is not the first without one
  has_window : (i : ℕ) (parts : RefinedParts) (tasks : List RefinedTask)
      → AreRefinedParts set graphs parts
      → ((k : ℕ) → k < suc i → IsRefinedWindow set
      (point_needs set graphs parts (window_at tasks) k) k (method_at tasks k)
      (window_at tasks k)) → Unrefined i → ⊥
  has_window i parts tasks P W F =
      let first = F.2 in
      let task = first.task in
      let higher = below set graphs times G parts F.0 P F.1 tasks first.higher i
      (omega (arith, task)) (λ k l. W k (omega (arith, l))) first.refined.window i
      (omega arith) in
      let m = method_at tasks i in
      let here = (W i (omega arith)).window in
      let none = none_too set
      (point_needs set graphs F.0 (window_at first.higher) i m)
      (point_needs set graphs parts (window_at tasks) i m) i
      (λ v. sym (needs_same set graphs times G parts F.0 P F.1 (window_at tasks)
      (window_at first.higher) i task higher m v)) (first.none m) in
      let over = none (window_at tasks i) here.some here.in_deadline in
      let fits = here.enough in
      absurd (omega (arith, over, fits))

  -- if there are refined windows, nothing is refused unless out of memory
  not_refused : (tasks : List RefinedTask) (e : RefineError) → AreRefined set graphs tasks
      → IsRefineEnd set graphs (Err e) → ⊥
  not_refused tasks Memory A E = E.0 refl
  not_refused tasks (TooLarge t a) A E = none_large A.parts.analysed t.0 A.are.best E.1.0
  not_refused tasks (Unschedulable t) A E =
      has_window t.0 A.parts tasks A.are
      (λ k l. A.by.window k (let f = E.1.2.task in omega (arith, f, l))) E.1

  first_is : (i j : ℕ) → Unrefined i → Unrefined j → i < j → ⊥
  first_is i j F H lt =
      has_window i H.0 H.2.higher H.1
      (λ k l. H.2.refined.window k (omega (arith, l, lt))) F

  -- there is one refusal unless out of memory
  one_refusal : (e d : RefineError) → IsRefineEnd set graphs (Err e) → IsRefineEnd set graphs (Err d)
      → e ≡ d
  one_refusal Memory d E D = absurd (E.0 refl)
  one_refusal e Memory E D = absurd (D.0 refl)
  one_refusal (TooLarge t a) (TooLarge u b) E D =
      let task : t.0 ≡ u.0 = neither_less t.0 u.0 (λ lt. D.1.0.before t.0 lt E.1.0.large)
      (λ lt. E.1.0.before u.0 lt D.1.0.large) in
      let address = E.1.1 ∙ ap (λ k. (graphs k).places.address (graphs k).graph.first) task
      ∙ sym D.1.1 in
      λ i. TooLarge (record { 0 = task i }) (address i)
  one_refusal (TooLarge t a) (Unschedulable u) E D = absurd (none_large D.1.0.analysed t.0 D.1.1.best E.1.0)
  one_refusal (Unschedulable t) (TooLarge u b) E D = absurd (none_large E.1.0.analysed u.0 E.1.1.best D.1.0)
  one_refusal (Unschedulable t) (Unschedulable u) E D =
      let task : t.0 ≡ u.0 = neither_less t.0 u.0 (first_is t.0 u.0 E.1 D.1)
      (first_is u.0 t.0 D.1 E.1) in
      λ i. Unschedulable (record { 0 = task i })

  one_end : (r s : Result (List RefinedTask) RefineError) → IsRefineEnd set graphs r
      → IsRefineEnd set graphs s → r ≡ s
  one_end (Ok one) (Ok two) A B = ap Ok (one_refined set graphs one two times G A B)
  one_end (Ok one) (Err e) A E = absurd (not_refused one e A E)
  one_end (Err e) (Ok two) E B = absurd (not_refused two e B E)
  one_end (Err e) (Err d) E D = ap Err (one_refusal e d E D)

pub one_refine_end : OneRefineEnd
one_refine_end set graphs one two times G A B = one_end set graphs times G one two A B
