-- A list of refined windows, from limits that leave room for the demands.
use Rattle.std.proofs.Common.{◌≡◌, ℕ, zero, suc, ◌+◌, ◌<◌, ◌≤◌, List, length, get_or, map, sym, ◌∙◌}
use Rattle.std.proofs.Common.{ap, subst, arith, inl, inr, if◌then◌else◌, ◌==◌, MatchOption, Option}
use Rattle.std.proofs.Common.{Some, None, refl}
use Rattle.std.specs.List.{range_with_len}
use Rattle.std.proofs.lemmas.Bool.{cases_eq, eq-eqb, ne_eqb}
use Rattle.std.proofs.lemmas.List.{get_or-map}
use Rattle.std.proofs.lemmas.List.FromFn.{get_or-map-range_with_len, length-map-range_with_len}
use Rattle.crpd_base.specs.declared.data.PointMethod.{PointMethod}
use Rattle.crpd_base.specs.declared.data.PointMethod.TheVariants.{Ucb}
use Rattle.crpd_base.specs.declared.data.RefinedTask.{RefinedTask}
use Rattle.crpd_base.specs.declared.data.TaskSet.{TaskSet}
use Rattle.crpd_base.specs.Tasks.{jitter_of, deadline_of}
use Rattle.response.specs.Windows.{IsWindow, HasNoWindow}
use Rattle.response.proofs.WindowLaws.{window_or_none}
use Rattle.delay_point.specs.Refined.{Needs, Bounds, IsRefinedWindow, AreFirstRefined, window_at}
use Rattle.delay_point.specs.Refined.{method_at}
use Rattle.delay_point.proofs.Best.{refined_within}
use Rattle.delay_point.proofs.One.{refined_too}

-- a number of cycles has room for a task's demand by a method
pub record HasRoom (set : TaskSet) (needs : ℕ → ℕ) (i w : ℕ) : Type 0 where
  pub some : 1 ≤ w
  pub enough : needs w ≤ w
  pub in_deadline : w + jitter_of set i ≤ deadline_of set i

-- the refined window is no longer than such a number
pub no_longer_than : (set : TaskSet) (needs : PointMethod → ℕ → ℕ) (i v w : ℕ)
    (by m : PointMethod) → IsRefinedWindow set needs i by v → HasRoom set (needs m) i w → v ≤ w
no_longer_than set needs i v w by m R H =
    let o = window_or_none set (needs m) i in
    from o.0 o.1
  where
    from : (o : Option ℕ)
        → MatchOption o (HasNoWindow set (needs m) i) (λ x. IsWindow set (needs m) i x) → v ≤ w
    from None none =
        let over = none w H.some H.in_deadline in
        let fits = H.enough in
        absurd (omega (arith, over, fits))
    from (Some x) W =
        let le = R.least m x W in
        let l = W.least w H.some H.enough in
        omega (arith, le, l)

-- the demand of a task depends only on the windows of the higher ones
abbrev pub LooksAbove : TaskSet → Needs → Type 0
LooksAbove set needs =
    (window other : ℕ → ℕ) (i : ℕ) → i < length set.tasks
    → ((k : ℕ) → k < i → window k ≡ other k) → (m : PointMethod) (w : ℕ) →
    needs window i m w ≡ needs other i m w

-- each limit has room for the demand by some method, if the windows of the higher tasks are within
-- theirs
abbrev pub LeavesRoom : TaskSet → Needs → (ℕ → ℕ) → Type 0
LeavesRoom set needs limit =
    (window : ℕ → ℕ) (i : ℕ) → i < length set.tasks → ((k : ℕ) → k < i → window k ≤ limit k)
    → (m : PointMethod) × HasRoom set (needs window i m) i (limit i)

-- then there are refined windows within the limits
module _ (set : TaskSet) (needs : Needs) (bounds : Bounds) (limit : ℕ → ℕ)
    (above : LooksAbove set needs) (room : LeavesRoom set needs limit) where
  -- of the first tasks
  record HasFirst (n : ℕ) : Type 0 where
    window : ℕ → ℕ
    method : ℕ → PointMethod
    each : (k : ℕ) → k < n → IsRefinedWindow set (needs window k) k (method k) (window k)
    within : (k : ℕ) → k < n → window k ≤ limit k

  same_needs : (n k : ℕ) → k < length set.tasks → k ≤ n → (window : ℕ → ℕ) (v : ℕ)
      → (by : PointMethod) (x : ℕ)
      → needs window k by x ≡ needs (λ j. if j == n then v else window j) k by x
  same_needs n k l le window v =
      above window (λ j. if j == n then v else window j) k l
      (λ j h. rw (ne_eqb j n (λ e. absurd (omega (arith, e, h, le)))) refl)

  more_windows : (n : ℕ) → n < length set.tasks → HasFirst n → HasFirst (suc n)
  more_windows n l F =
      let R = room F.window n l F.within in
      let H = R.1 in
      let new = refined_within set (needs F.window n) n R.0 (limit n) H.some H.enough
      H.in_deadline in
      record {
        window = λ k. if k == n then new.1 else F.window k;
        method = λ k. if k == n then new.0 else F.method k;
        each = λ k h. elim (cases_eq k n) [
          | inl e ↦
              let b = eq-eqb k n e in
              rw b (subst (λ x. IsRefinedWindow set
              (needs (λ j. if j == n then new.1 else F.window j) x) x new.0 new.1) (sym e)
              (refined_too set (needs F.window n)
              (needs (λ j. if j == n then new.1 else F.window j) n) n new.0 new.1
              (same_needs n n l (omega arith) F.window new.1) new.2))
          | inr ne ↦
              let b = ne_eqb k n ne in
              rw b (refined_too set (needs F.window k)
              (needs (λ j. if j == n then new.1 else F.window j) k) k (F.method k) (F.window k)
              (same_needs n k (omega arith) (omega arith) F.window new.1) (F.each k (omega arith)))
        ];
        within = λ k h. elim (cases_eq k n) [
          | inl e ↦ let b = eq-eqb k n e in rw b (subst (λ x. new.1 ≤ limit x) (sym e) new.3)
          | inr ne ↦ let b = ne_eqb k n ne in rw b (F.within k (omega arith))
        ];
      }

  first : (n : ℕ) → n ≤ length set.tasks → HasFirst n
  first zero l = record {
    window = λ k. 0;
    method = λ k. Ucb;
    each = λ k h. absurd (omega (arith, h));
    within = λ k h. absurd (omega (arith, h));
  }
  first (suc n) l = more_windows n (omega (arith, l)) (first n (omega (arith, l)))

  all : HasFirst (length set.tasks)
  all = first (length set.tasks) (omega arith)

  -- the result for a task
  pub told : ℕ → RefinedTask
  told k = record {
    bound = bounds k (all.method k);
    window = all.window k;
    response = all.window k + jitter_of set k;
    method = all.method k;
  }

  abbrev pub refined_list : List RefinedTask
  refined_list = map told (range_with_len 0 (length set.tasks))

  list_length : length refined_list ≡ length set.tasks
  list_length = length-map-range_with_len told 0 (length set.tasks)

  field : {X : Type 0} (f : RefinedTask → X) (d : X) (k : ℕ) → k < length set.tasks
      → get_or (map f refined_list) k d ≡ f (told k)
  field {X} f d k l =
      get_or-map f refined_list k (told 0) d (let e = list_length in omega (arith, e, l))
      ∙ ap f (get_or-map-range_with_len told 0 (length set.tasks) k k (told 0) l (omega arith))

  windows_are : (k : ℕ) → k < length set.tasks → window_at refined_list k ≡ all.window k
  unfolding told
  windows_are k l = field (λ (t : RefinedTask). t.window) 0 k l

  methods_are : (k : ℕ) → k < length set.tasks → method_at refined_list k ≡ all.method k
  unfolding told
  methods_are k l = field (λ (t : RefinedTask). t.method) Ucb k l

  pub list_refined : AreFirstRefined set needs bounds (length set.tasks) refined_list
  unfolding told
  list_refined = record {
    size = list_length;
    bound = λ k l.
        field (λ (t : RefinedTask). t.bound) 0 k l ∙ ap (bounds k) (sym (methods_are k l));
    window = λ k l.
        subst (λ m. IsRefinedWindow set (needs (window_at refined_list) k) k m
        (window_at refined_list k)) (sym (methods_are k l))
        (subst (λ w. IsRefinedWindow set (needs (window_at refined_list) k) k (all.method k) w)
        (sym (windows_are k l))
        (refined_too set (needs all.window k) (needs (window_at refined_list) k) k
        (all.method k) (all.window k)
        (above all.window (window_at refined_list) k l (λ j h. sym (windows_are j (omega arith))))
        (all.each k l)));
    response = λ k l.
        field (λ (t : RefinedTask). t.response) 0 k l
        ∙ ap (λ w. w + jitter_of set k) (sym (windows_are k l));
  }

  pub list_within : (k : ℕ) → k < length set.tasks → window_at refined_list k ≤ limit k
  list_within k l =
      let e = windows_are k l in
      let le = all.within k l in
      omega (arith, e, le)
