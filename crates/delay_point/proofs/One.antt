-- A set has at most one list of refined windows.
use Rattle.std.proofs.Common.{◌≡◌, ℕ, zero, suc, ◌+◌, ◌*◌, ◌<◌, ◌≤◌, List, length}
use Rattle.std.proofs.Common.{get_or, slice_index_or, refl, sym, ◌∙◌, ap, subst, arith, inl, inr}
use Rattle.std.proofs.Common.{nat_lt, if◌then◌else◌}
use Rattle.std.specs.Cmp.{both_ways}
use Rattle.std.proofs.lemmas.Bool.{cases_eq, cases_order, eq-eqb, ne_eqb}
use Rattle.std.proofs.lemmas.List.{ext_get_or, get_or-map}
use Rattle.crpd_base.proofs.Sums.{sum_same}
use Rattle.crpd_base.specs.declared.data.Method.{Method}
use Rattle.crpd_base.specs.declared.data.Method.TheVariants.{Ucb as ByUcb, Ecb as ByEcb}
use Rattle.crpd_base.specs.declared.data.Part.{Part}
use Rattle.crpd_base.specs.declared.data.TaskSet.{TaskSet}
use Rattle.crpd_base.specs.Tasks.{HasTimes, jitter_of}
use Rattle.evict_sets.specs.ListedPart.{no_task_part}
use Rattle.flat_graph.specs.Graph.{IsGraph}
use Rattle.loop_regions.specs.TaskGraph.{TaskGraph}
use Rattle.delay_count.specs.Counts.{jobs_of, affected_preemptions}
use Rattle.delay_count.specs.Gamma.{evicted_from, shared_count}
use Rattle.delay_count.specs.Demand.{demand, jobs_demand}
use Rattle.delay_count.proofs.Choices.{choice_le}
use Rattle.delay_count.proofs.Delays.{shared_same}
use Rattle.delay_count.proofs.Greatest.{greatest_same}
use Rattle.delay_count.proofs.Growth.{demand_same, evicted_same}
use Rattle.response.proofs.WindowLaws.{window_too}
use Rattle.cert_check.specs.JudgeInput.{longest_at}
use Rattle.cert_build.proofs.OneBest.{one_analysis}
use Rattle.crpd_base.specs.declared.data.PointMethod.{PointMethod}
use Rattle.crpd_base.specs.declared.data.PointMethod.TheVariants.{Ucb, Ecb, Point}
use Rattle.crpd_base.specs.declared.data.PointMethod.TheVariants.{PersistentUcb, PersistentPoint}
use Rattle.crpd_base.specs.declared.data.RefinedTask.{RefinedTask}
use Rattle.persistent_blocks.specs.Laws.{IsSamePart}
use Rattle.delay_point.specs.Chosen.{RefinedParts, AreRefinedParts, parts_by, bound_by}
use Rattle.delay_point.specs.Gamma.{point_shared, gamma_point}
use Rattle.delay_point.specs.Refined.{refined_demand, place, IsRefinedWindow, window_at, method_at}
use Rattle.delay_point.specs.Refined.{point_needs, AreRefined}
use Rattle.delay_point.specs.Laws.{OneRefined}
use Rattle.delay_point.proofs.Best.{same_place}
use Rattle.delay_point.proofs.ChosenParts.{one_chosen}

affected_same : (set : TaskSet) (window other : ℕ → ℕ) (w i j k : ℕ) → k ≤ i
    → ((h : ℕ) → h < i → window h ≡ other h)
    → affected_preemptions set window w i j k ≡ affected_preemptions set other w i j k
affected_same set window other w i j k l W =
    elim (cases_eq k i) [
      | inl e ↦ rw (eq-eqb k i e) refl
      | inr ne ↦
          rw (ne_eqb k i ne) (ap (λ z. if nat_lt j k then jobs_of set j z * jobs_of set k w else 0)
          (W k (omega arith)))
    ]

-- the same demands of the same parts, sets and windows of the higher tasks
module _ (set : TaskSet) (parts others : ℕ → Part) (shared further : ℕ → ℕ → ℕ) (longest : ℕ → ℕ)
    (window other : ℕ → ℕ) (i : ℕ) (times : HasTimes set) (is : i < length set.tasks)
    (P : (k : ℕ) → k < length set.tasks → parts k ≡ others k)
    (S : (j k : ℕ) → j < length set.tasks → k < length set.tasks → shared j k ≡ further j k)
    (W : (k : ℕ) → k < i → window k ≡ other k) where
  point_same : (w j : ℕ) → j < i
      → gamma_point set shared window w i j ≡ gamma_point set further other w i j
  point_same w j h =
      let le = choice_le (shared j) (further j) (affected_preemptions set window w i j)
      (affected_preemptions set other w i j) (suc i) (jobs_of set j w) (jobs_of set j w)
      (λ k l. let e = S j k (omega arith) (omega arith) in omega (arith, e))
      (λ k l. let e = affected_same set window other w i j k (omega arith) W in omega (arith, e))
      (omega arith) in
      let ge = choice_le (further j) (shared j) (affected_preemptions set other w i j)
      (affected_preemptions set window w i j) (suc i) (jobs_of set j w) (jobs_of set j w)
      (λ k l. let e = S j k (omega arith) (omega arith) in omega (arith, e))
      (λ k l. let e = affected_same set window other w i j k (omega arith) W in omega (arith, e))
      (omega arith) in
      ap (λ z. set.platform.miss * z) (omega (arith, le, ge))

  union_demand : (by : Method) (w : ℕ)
      → demand set parts longest window i by w ≡ demand set others longest other i by w
  union_demand by w =
      demand_same set parts others longest longest window other i times is
      (λ k l. P k (omega arith)) (λ k l. refl) W by w

  point_demand : (w : ℕ)
      → refined_demand set parts shared longest window i Point w
      ≡ refined_demand set others further longest other i Point w
  point_demand w =
      let own = ap (λ (p : Part). p.bound) (P i is) in
      let sums = sum_same
      (λ j. jobs_demand set parts w j + gamma_point set shared window w i j)
      (λ j. jobs_demand set others w j + gamma_point set further other w i j) i
      (λ j h.
      let g = point_same w j h in
      let b = ap (λ (p : Part).
      jobs_of set j w * (p.bound + (set.platform.switch + set.platform.switch)))
      (P j (omega arith)) in
      omega (arith, g, b)) in
      omega (arith, own, sums)

  pub demands_same : (m : PointMethod) (w : ℕ)
      → refined_demand set parts shared longest window i m w
      ≡ refined_demand set others further longest other i m w
  demands_same Ucb w = union_demand ByUcb w
  demands_same Ecb w = union_demand ByEcb w
  demands_same Point w = point_demand w
  demands_same PersistentUcb w = union_demand ByUcb w
  demands_same PersistentPoint w = point_demand w

-- one window and one method of a task
one_method : (set : TaskSet) (needs : PointMethod → ℕ → ℕ) (i : ℕ) (m by : PointMethod) (w v : ℕ)
    → IsRefinedWindow set needs i m w → IsRefinedWindow set needs i by v
    → (place m ≡ place by) × (w ≡ v)
one_method set needs i m by w v A B =
    let le = A.least by v B.window in
    let ge = B.least m w A.window in
    let same : w ≡ v = omega (arith, le, ge) in (
      elim (cases_order (place m) (place by)) [
        | inl e ↦ e
        | inr o ↦ elim o [
          | inl l ↦ let f = B.first m w l A.window in absurd (omega (arith, f, same))
          | inr l ↦ let f = A.first by v l B.window in absurd (omega (arith, f, same))
        ]
      ],
      same,
    )

pub refined_too : (set : TaskSet) (needs others : PointMethod → ℕ → ℕ) (i : ℕ) (m : PointMethod) (w : ℕ)
    → ((by : PointMethod) (v : ℕ) → needs by v ≡ others by v) → IsRefinedWindow set needs i m w
    → IsRefinedWindow set others i m w
refined_too set needs others i m w same R =
    record {
      window = window_too set (needs m) (others m) i (same m) w R.window;
      least = λ by v W. R.least by v
          (window_too set (others by) (needs by) i (λ x. sym (same by x)) v W);
      first = λ by v l W. R.first by v l
          (window_too set (others by) (needs by) i (λ x. sym (same by x)) v W);
    }

-- the refined windows of some first tasks, by two kinds of parts of one set
module _ (set : TaskSet) (graphs : ℕ → TaskGraph) (times : HasTimes set)
    (G : (k : ℕ) → k < length set.tasks → IsGraph (graphs k).graph) (all others : RefinedParts)
    (A : AreRefinedParts set graphs all) (B : AreRefinedParts set graphs others) where
  plain_same : (k : ℕ) → k < length set.tasks
      → (parts_by all Ucb).part k ≡ (parts_by others Ucb).part k
  plain_same k l =
      (one_analysis set graphs k (slice_index_or all.analysed k no_task_part)
      (slice_index_or others.analysed k no_task_part) l (A.best.each k l) (B.best.each k l)).0

  useful_same : (k y z : ℕ) → k < length set.tasks → y < (graphs k).graph.size
      → all.useful k y z ≡ others.useful k y z
  useful_same k y z l h =
      both_ways (all.useful k y z) (others.useful k y z)
      (λ t. (B.useful k y z l h).1 ((A.useful k y z l h).0 t))
      (λ t. (A.useful k y z l h).1 ((B.useful k y z l h).0 t))

  chosen_same : (k : ℕ) → k < length set.tasks
      → IsSamePart (graphs k) (all.chosen.part k) (others.chosen.part k) (all.chosen.useful k)
      (others.chosen.useful k)
  chosen_same k l =
      one_chosen set.platform (graphs k) (G k l) ((parts_by all Ucb).part k)
      ((parts_by others Ucb).part k) (all.useful k) (others.useful k) (plain_same k l)
      (λ y z h. useful_same k y z l h) (all.chosen.part k) (others.chosen.part k)
      (all.chosen.useful k) (others.chosen.useful k) (A.chosen k l) (B.chosen k l)

  pub parts_same : (m : PointMethod) (k : ℕ) → k < length set.tasks
      → (parts_by all m).part k ≡ (parts_by others m).part k
  parts_same Ucb k l = plain_same k l
  parts_same Ecb k l = plain_same k l
  parts_same Point k l = plain_same k l
  parts_same PersistentUcb k l = (chosen_same k l).part
  parts_same PersistentPoint k l = (chosen_same k l).part

  sets_same : (m : PointMethod) (k y z : ℕ) → k < length set.tasks → y < (graphs k).graph.size
      → (parts_by all m).useful k y z ≡ (parts_by others m).useful k y z
  sets_same Ucb k y z l h = useful_same k y z l h
  sets_same Ecb k y z l h = useful_same k y z l h
  sets_same Point k y z l h = useful_same k y z l h
  sets_same PersistentUcb k y z l h = (chosen_same k l).at_nodes y z h
  sets_same PersistentPoint k y z l h = (chosen_same k l).at_nodes y z h

  shared_is : (m : PointMethod) (j k : ℕ) → j < length set.tasks → k < length set.tasks
      → point_shared graphs (parts_by all m).useful (parts_by all m).part j k
      ≡ point_shared graphs (parts_by others m).useful (parts_by others m).part j k
  shared_is m j k hj hk =
      greatest_same
      (λ y. shared_count ((parts_by all m).useful k y) (evicted_from (parts_by all m).part j) 512)
      (λ y. shared_count ((parts_by others m).useful k y)
      (evicted_from (parts_by others m).part j) 512) 0 (graphs k).graph.size
      (λ y h. shared_same ((parts_by all m).useful k y) ((parts_by others m).useful k y)
      (evicted_from (parts_by all m).part j) (evicted_from (parts_by others m).part j) 512
      (λ z. sets_same m k y z hk h)
      (λ z. evicted_same (parts_by all m).part (parts_by others m).part j z
      (λ q b. sym (ap (λ (p : Part). p.evicting) (parts_same m q (omega arith))))))

  -- the same windows of the higher tasks give the same demands
  pub needs_same : (window other : ℕ → ℕ) (i : ℕ) → i < length set.tasks
      → ((k : ℕ) → k < i → window k ≡ other k) → (m : PointMethod) (w : ℕ)
      → point_needs set graphs all window i m w ≡ point_needs set graphs others other i m w
  needs_same window other i l same m w =
      demands_same set (parts_by all m).part (parts_by others m).part
      (point_shared graphs (parts_by all m).useful (parts_by all m).part)
      (point_shared graphs (parts_by others m).useful (parts_by others m).part)
      (longest_at set.platform graphs) window other i times l (parts_same m) (shared_is m) same m w

  pub bounds_same : (i : ℕ) → i < length set.tasks → (m : PointMethod)
      → bound_by all i m ≡ bound_by others i m
  bounds_same i l m = ap (λ (p : Part). p.bound) (parts_same m i l)

  module _ (one two : List RefinedTask) (n : ℕ) (le : n ≤ length set.tasks)
      (R : (i : ℕ) → i < n → IsRefinedWindow set
      (point_needs set graphs all (window_at one) i) i (method_at one i) (window_at one i))
      (S : (i : ℕ) → i < n → IsRefinedWindow set
      (point_needs set graphs others (window_at two) i) i (method_at two i)
      (window_at two i)) where
    pub at : (i : ℕ) → i < n → ((k : ℕ) → k < i → window_at one k ≡ window_at two k)
        → (place (method_at one i) ≡ place (method_at two i)) × (window_at one i ≡ window_at two i)
    at i l below =
        one_method set (point_needs set graphs others (window_at two) i) i
        (method_at one i) (method_at two i) (window_at one i) (window_at two i)
        (refined_too set (point_needs set graphs all (window_at one) i)
        (point_needs set graphs others (window_at two) i) i (method_at one i) (window_at one i)
        (needs_same (window_at one) (window_at two) i (omega (arith, l, le)) below) (R i l))
        (S i l)

    pub below : (i : ℕ) → i ≤ n → (k : ℕ) → k < i → window_at one k ≡ window_at two k
    below zero l k h = absurd (omega (arith, h))
    below (suc i) l k h =
        elim (cases_eq k i) [
          | inl e ↦
              subst (λ x. window_at one x ≡ window_at two x) (sym e)
              (at i (omega (arith, l)) (below i (omega (arith, l)))).1
          | inr ne ↦ below i (omega (arith, l)) k (omega (arith, h, ne))
        ]

-- two lists of a set
module _ (set : TaskSet) (graphs : ℕ → TaskGraph) (one two : List RefinedTask)
    (times : HasTimes set) (G : (k : ℕ) → k < length set.tasks → IsGraph (graphs k).graph)
    (A : AreRefined set graphs one) (B : AreRefined set graphs two) where
  both_at : (k : ℕ) → k < length set.tasks
      → (place (method_at one k) ≡ place (method_at two k)) × (window_at one k ≡ window_at two k)
  both_at k l =
      at set graphs times G A.parts B.parts A.are B.are one two (length set.tasks) (omega arith)
      A.by.window B.by.window k l
      (below set graphs times G A.parts B.parts A.are B.are one two (length set.tasks) (omega arith)
      A.by.window B.by.window k (omega (arith, l)))

  abbrev no_task : RefinedTask
  no_task = record { bound = 0; window = 0; response = 0; method = Ucb }

  task_same : (k : ℕ) → k < length set.tasks → get_or one k no_task ≡ get_or two k no_task
  task_same k l =
      let both = both_at k l in
      let by = same_place (method_at one k) (method_at two k) both.0 in
      let la : k < length one = let e = A.by.size in omega (arith, e, l) in
      let lb : k < length two = let e = B.by.size in omega (arith, e, l) in
      let bound = sym (get_or-map (λ (t : RefinedTask). t.bound) one k no_task 0 la)
      ∙ A.by.bound k l ∙ ap (λ (m : PointMethod). bound_by A.parts k m) by
      ∙ bounds_same set graphs times G A.parts B.parts A.are B.are k l (method_at two k)
      ∙ sym (B.by.bound k l) ∙ get_or-map (λ (t : RefinedTask). t.bound) two k no_task 0 lb in
      let window = sym (get_or-map (λ (t : RefinedTask). t.window) one k no_task 0 la) ∙ both.1
      ∙ get_or-map (λ (t : RefinedTask). t.window) two k no_task 0 lb in
      let method = sym (get_or-map (λ (t : RefinedTask). t.method) one k no_task Ucb la)
      ∙ by ∙ get_or-map (λ (t : RefinedTask). t.method) two k no_task Ucb lb in
      let response = sym (get_or-map (λ (t : RefinedTask). t.response) one k no_task 0 la)
      ∙ A.by.response k l ∙ ap (λ w. w + jitter_of set k) both.1 ∙ sym (B.by.response k l)
      ∙ get_or-map (λ (t : RefinedTask). t.response) two k no_task 0 lb in
      λ j. record {
        bound = bound j;
        window = window j;
        response = response j;
        method = method j;
      }

pub one_refined : OneRefined
one_refined set graphs one two times G A B =
    ext_get_or (no_task set graphs one two times G A B) one two (A.by.size ∙ sym B.by.size)
    (λ k l. task_same set graphs one two times G A B k (let e = A.by.size in omega (arith, e, l)))
