-- If the analysis gives a certificate there are refined windows, none of them longer.
use Rattle.std.proofs.Common.{◌≡◌, ℕ, zero, suc, ◌+◌, ◌<◌, ◌≤◌, List, length, get_or, map, refl, sym}
use Rattle.std.proofs.Common.{◌∙◌, ap, subst, arith, inl, inr, if◌then◌else◌, ◌==◌}
use Rattle.std.specs.Prelude.{slice_index_or}
use Rattle.std.specs.List.{range_with_len}
use Rattle.std.proofs.lemmas.Bool.{cases_eq, eq-eqb, ne_eqb}
use Rattle.std.proofs.lemmas.List.{get_or-map}
use Rattle.std.proofs.lemmas.List.FromFn.{get_or-map-range_with_len, length-map-range_with_len}
use Rattle.crpd_base.specs.declared.data.Certificate.{Certificate}
use Rattle.crpd_base.specs.declared.data.Method.{Method}
use Rattle.crpd_base.specs.declared.data.Method.TheVariants.{Ucb as ByUcb, Ecb as ByEcb}
use Rattle.crpd_base.specs.declared.data.Part.{Part}
use Rattle.crpd_base.specs.declared.data.TaskSet.{TaskSet}
use Rattle.crpd_base.specs.Tasks.{HasTimes, jitter_of}
use Rattle.loop_regions.specs.TaskGraph.{TaskGraph}
use Rattle.delay_count.specs.Demand.{demand}
use Rattle.delay_count.specs.Laws.{Load}
use Rattle.delay_count.proofs.Growth.{demand_grows}
use Rattle.response.specs.Windows.{IsWindow}
use Rattle.response.proofs.WindowLaws.{smaller_is_window}
use Rattle.evict_sets.specs.ListedPart.{certified_task, no_task_part}
use Rattle.cert_check.specs.JudgeInput.{longest_at, certified_part, window_at as certified_window}
use Rattle.cert_build.specs.Certify.{part_in, AreBestParts}
use Rattle.cert_build.specs.Best.{IsBest}
use Rattle.cert_build.proofs.OneBest.{one_analysis}
use Rattle.crpd_base.specs.declared.data.PointMethod.{PointMethod}
use Rattle.crpd_base.specs.declared.data.PointMethod.TheVariants.{Ucb, Ecb}
use Rattle.crpd_base.specs.declared.data.RefinedTask.{RefinedTask}
use Rattle.delay_point.specs.Chosen.{IsChosen, RefinedParts, AreRefinedParts, parts_by, bound_by}
use Rattle.delay_point.specs.Gamma.{point_shared}
use Rattle.delay_point.specs.Refined.{IsRefinedWindow, window_at, method_at, point_needs}
use Rattle.delay_point.specs.Refined.{AreRefinedBy}
use Rattle.delay_point.specs.Laws.{HasNoLonger, RefinedIsNoLonger}
use Rattle.delay_point.proofs.Best.{refined_within}
use Rattle.delay_point.proofs.One.{demands_same, refined_too}

module _ (set : TaskSet) (graphs : ℕ → TaskGraph) (given : RefinedParts) (c : Certificate)
    (times : HasTimes set) (A : AreRefinedParts set graphs given) (B : IsBest set graphs c) where
  -- the same parts, with those of the certificate as the analysed ones
  abbrev all_parts : RefinedParts
  all_parts = record { analysed = c.tasks; useful = given.useful; chosen = given.chosen }

  abbrev needs : (ℕ → ℕ) → ℕ → PointMethod → ℕ → ℕ
  needs w i = point_needs set graphs all_parts w i

  window_is : (k : ℕ) → k < length set.tasks
      → IsWindow set (demand set (certified_part c) (longest_at set.platform graphs)
      (certified_window c) k (certified_task c k).method) k (certified_window c k)
  window_is k l =
      smaller_is_window set (demand set (certified_part c) (longest_at set.platform graphs)
      (certified_window c) k) k (certified_task c k).method (certified_window c k)
      (B.each k l).window

  best : AreBestParts set graphs c.tasks
  best =
      record {
        tasks = B.tasks;
        each = λ k l. (B.each k l).part;
        within = λ k l.
            let W = window_is k l in
            let fits = W.enough in
            let late = W.in_deadline in
            let d = times.deadline k l in
            let p = times.longest k l in
            omega (arith, fits, late, d, p);
      }

  part_same : (k : ℕ) → k < length set.tasks → part_in given.analysed k ≡ part_in c.tasks k
  part_same k l =
      (one_analysis set graphs k (slice_index_or given.analysed k no_task_part)
      (slice_index_or c.tasks k no_task_part) l (A.best.each k l) (best.each k l)).0

  are : AreRefinedParts set graphs all_parts
  are =
      record {
        best = best;
        useful = A.useful;
        chosen = λ k l.
            subst (λ (x : Part). IsChosen set.platform (graphs k) x (given.useful k)
            (given.chosen.part k) (given.chosen.useful k)) (part_same k l) (A.chosen k l);
      }

  as_point : (by : Method) → (m : PointMethod) × ((w : ℕ → ℕ) (i v : ℕ)
      → needs w i m v ≡ demand set (part_in c.tasks) (longest_at set.platform graphs) w i by v)
  as_point ByUcb = (Ucb, λ w i v. refl)
  as_point ByEcb = (Ecb, λ w i v. refl)

  -- shorter windows of the higher tasks leave room in the certificate's window
  leaves_room : (w : ℕ → ℕ) (i : ℕ) → i < length set.tasks
      → ((k : ℕ) → k < i → w k ≤ certified_window c k) → (by : Method)
      → demand set (part_in c.tasks) (longest_at set.platform graphs) w i by (certified_window c i)
      ≤ demand set (part_in c.tasks) (longest_at set.platform graphs) (certified_window c) i by
      (certified_window c i)
  leaves_room w i l less by =
      let a : Load = record {
        set = set;
        parts = part_in c.tasks;
        longest = longest_at set.platform graphs;
        window = w;
      } in
      let b : Load = record {
        set = set;
        parts = part_in c.tasks;
        longest = longest_at set.platform graphs;
        window = certified_window c;
      } in
      demand_grows a b i (certified_window c i) (certified_window c i) by times l
      (record {
        tasks = refl;
        switching = refl;
        miss = omega arith;
        switch = omega arith;
        bound = λ k h. omega arith;
        evicting = λ k h. refl;
        useful = λ k h. refl;
        longest = λ k h. omega arith;
        window = less;
      }) (omega arith)

  -- the same windows of the higher tasks give the same demands
  needs_too : (w v : ℕ → ℕ) (i : ℕ) → i < length set.tasks → ((k : ℕ) → k < i → w k ≡ v k)
      → (m : PointMethod) (x : ℕ) → needs w i m x ≡ needs v i m x
  needs_too w v i l same m x =
      demands_same set (parts_by all_parts m).part (parts_by all_parts m).part
      (point_shared graphs (parts_by all_parts m).useful (parts_by all_parts m).part)
      (point_shared graphs (parts_by all_parts m).useful (parts_by all_parts m).part)
      (longest_at set.platform graphs) w v i times l (λ j h. refl) (λ j q h b. refl) same m x

  -- the refined windows of the first tasks
  record HasFirst (n : ℕ) : Type 0 where
    window : ℕ → ℕ
    method : ℕ → PointMethod
    each : (k : ℕ) → k < n → IsRefinedWindow set (needs window k) k (method k) (window k)
    no_longer : (k : ℕ) → k < n → window k ≤ certified_window c k

  more_windows : (n : ℕ) → n < length set.tasks → HasFirst n → HasFirst (suc n)
  more_windows n l F =
      let W = window_is n l in
      let m = as_point (certified_task c n).method in
      let enough = W.enough in
      let room = leaves_room F.window n l F.no_longer (certified_task c n).method in
      let same = m.1 F.window n (certified_window c n) in
      let new = refined_within set (needs F.window n) n m.0 (certified_window c n) W.some
      (omega (arith, enough, room, same)) W.in_deadline in
      record {
        window = λ k. if k == n then new.1 else F.window k;
        method = λ k. if k == n then new.0 else F.method k;
        each = λ k h. elim (cases_eq k n) [
          | inl e ↦
              let b = eq-eqb k n e in
              rw b (subst (λ x. IsRefinedWindow set
              (needs (λ j. if j == n then new.1 else F.window j) x) x new.0 new.1) (sym e)
              (refined_too set (needs F.window n)
              (needs (λ j. if j == n then new.1 else F.window j) n) n new.0 new.1
              (same_needs n n l (omega arith) F.window new.1) new.2))
          | inr ne ↦
              let b = ne_eqb k n ne in
              rw b (refined_too set (needs F.window k)
              (needs (λ j. if j == n then new.1 else F.window j) k) k (F.method k) (F.window k)
              (same_needs n k (omega arith) (omega arith) F.window new.1) (F.each k (omega arith)))
        ];
        no_longer = λ k h. elim (cases_eq k n) [
          | inl e ↦
              let b = eq-eqb k n e in
              rw b (subst (λ x. new.1 ≤ certified_window c x) (sym e) new.3)
          | inr ne ↦ let b = ne_eqb k n ne in rw b (F.no_longer k (omega arith))
        ];
      }
    where
      same_needs : (n k : ℕ) → k < length set.tasks → k ≤ n → (w : ℕ → ℕ) (v : ℕ)
          → (by : PointMethod) (x : ℕ)
          → needs w k by x ≡ needs (λ j. if j == n then v else w j) k by x
      same_needs n k l le w v =
          needs_too w (λ j. if j == n then v else w j) k l
          (λ j h. rw (ne_eqb j n (λ e. absurd (omega (arith, e, h, le)))) refl)

  first : (n : ℕ) → n ≤ length set.tasks → HasFirst n
  first zero l = record {
    window = λ k. 0;
    method = λ k. Ucb;
    each = λ k h. absurd (omega (arith, h));
    no_longer = λ k h. absurd (omega (arith, h));
  }
  first (suc n) l = more_windows n (omega (arith, l)) (first n (omega (arith, l)))

  all : HasFirst (length set.tasks)
  all = first (length set.tasks) (omega arith)

  -- the result for a task
  told : ℕ → RefinedTask
  told k =
      record {
        bound = bound_by all_parts k (all.method k);
        window = all.window k;
        response = all.window k + jitter_of set k;
        method = all.method k;
      }

  abbrev tasks : List RefinedTask
  tasks = map told (range_with_len 0 (length set.tasks))

  tasks_length : length tasks ≡ length set.tasks
  tasks_length = length-map-range_with_len told 0 (length set.tasks)

  field : {X : Type 0} (f : RefinedTask → X) (d : X) (k : ℕ) → k < length set.tasks
      → get_or (map f tasks) k d ≡ f (told k)
  field {X} f d k l =
      get_or-map f tasks k (told 0) d (let e = tasks_length in omega (arith, e, l))
      ∙ ap f (get_or-map-range_with_len told 0 (length set.tasks) k k (told 0) l (omega arith))

  windows_are : (k : ℕ) → k < length set.tasks
      → window_at tasks k ≡ all.window k
  unfolding told
  windows_are k l = field (λ (t : RefinedTask). t.window) 0 k l

  methods_are : (k : ℕ) → k < length set.tasks
      → method_at tasks k ≡ all.method k
  unfolding told
  methods_are k l = field (λ (t : RefinedTask). t.method) Ucb k l

  by_all : AreRefinedBy set graphs all_parts tasks
  unfolding told
  by_all =
      record {
        size = tasks_length;
        bound = λ k l.
            field (λ (t : RefinedTask). t.bound) 0 k l
            ∙ ap (bound_by all_parts k) (sym (methods_are k l));
        window = λ k l.
            subst (λ m. IsRefinedWindow set (needs (window_at tasks) k) k m (window_at tasks k))
            (sym (methods_are k l))
            (subst (λ w. IsRefinedWindow set (needs (window_at tasks) k) k
            (all.method k) w)
            (sym (windows_are k l))
            (refined_too set (needs all.window k)
            (needs (window_at tasks) k) k
            (all.method k)
            (all.window k)
            (needs_too all.window (window_at tasks) k l
            (λ j h. sym (windows_are j (omega arith))))
            (all.each k l)));
        response = λ k l.
            field (λ (t : RefinedTask). t.response) 0 k l
            ∙ ap (λ w. w + jitter_of set k) (sym (windows_are k l));
      }

  has_no_longer : HasNoLonger set graphs c
  has_no_longer =
      record {
        tasks = map told (range_with_len 0 (length set.tasks));
        refined = record { parts = all_parts; are = are; by = by_all };
        no_longer = λ k l.
            let e = windows_are k l in
            let s = all.no_longer k l in
            omega (arith, e, s);
      }

pub refined_is_no_longer : RefinedIsNoLonger
refined_is_no_longer set graphs parts c times A B = has_no_longer set graphs parts c times A B
