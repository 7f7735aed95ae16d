-- No change, two changes in a row, and a task left away.
use Rattle.std.proofs.Common.{◌≡◌, ℕ, suc, ◌<◌, ◌++◌, length, map, get_or, take, drop}
use Rattle.std.proofs.Common.{refl, sym, ◌∙◌, ap, arith, inl, inr}
use Rattle.std.specs.Prelude.{remove}
use Rattle.std.proofs.lemmas.Bool.{cases_lt, lt-ltb, le-ltb}
use Rattle.std.proofs.lemmas.List.{map-append, drop-map, length-map}
use Rattle.std.proofs.lemmas.List.Edits.{get_or-remove_below, get_or-remove_above, length-remove}
use Rattle.std.specs.List.{take-map}
use Rattle.crpd_base.specs.declared.data.TaskSet.{TaskSet}
use Rattle.crpd_base.specs.declared.data.TaskSpec.{TaskSpec}
use Rattle.crpd_base.specs.declared.data.Part.{Part}
use Rattle.crpd_base.specs.declared.data.Platform.{Platform}
use Rattle.sustainability.specs.Workload.{Workload, IsNoDearer, HasLooserTimes, IsNoLargerPart}
use Rattle.sustainability.specs.Workload.{IsNoMoreDemanding}
use Rattle.sustainability.specs.RefinedWorkload.{counted_by}
use Rattle.sustainability.specs.Changes.{NoMoreThanItself, ChangesAddUp, RefinedChangesAddUp}
use Rattle.sustainability.specs.Changes.{past, AnyTaskMayLeave}
use Rattle.sustainability.proofs.Windows.{as_demanding}
use Rattle.sustainability.proofs.RefinedWindows.{as_demanding_at_nodes}

pub no_more_than_itself : NoMoreThanItself
no_more_than_itself = (as_demanding, as_demanding_at_nodes)

platform_twice : (less middle more : Platform) → IsNoDearer less middle → IsNoDearer middle more
    → IsNoDearer less more
platform_twice less middle more A B = record {
  switching = A.switching ∙ B.switching;
  miss = let a = A.miss in let b = B.miss in omega (arith, a, b);
  switch = let a = A.switch in let b = B.switch in omega (arith, a, b);
}

part_twice : (less middle more : Part) → IsNoLargerPart less middle → IsNoLargerPart middle more
    → IsNoLargerPart less more
part_twice less middle more A B = record {
  bound = let a = A.bound in let b = B.bound in omega (arith, a, b);
  evicting = λ c h. B.evicting c (A.evicting c h);
  useful = λ c h. B.useful c (A.useful c h);
}

module _ (first second : ℕ → ℕ) (less middle more : Workload)
    (D : IsNoMoreDemanding first less middle) (E : IsNoMoreDemanding second middle more) where
  abbrev origin : ℕ → ℕ
  origin k = second (first k)

  kept : (k : ℕ) → k < length less.set.tasks → first k < length middle.set.tasks
  kept = D.order.within

  times_twice : HasLooserTimes origin less.set more.set
  times_twice = record {
    period = λ k l.
        let a = D.times.period k l in
        let b = E.times.period (first k) (kept k l) in
        omega (arith, a, b);
    deadline = λ k l.
        let a = D.times.deadline k l in
        let b = E.times.deadline (first k) (kept k l) in
        omega (arith, a, b);
    jitter = λ k l.
        let a = D.times.jitter k l in
        let b = E.times.jitter (first k) (kept k l) in
        omega (arith, a, b);
  }

  changed_twice : IsNoMoreDemanding origin less more
  changed_twice = record {
    order = record {
      within = λ k l. E.order.within (first k) (kept k l);
      rising = λ j k l h. E.order.rising (first j) (first k) (D.order.rising j k l h) (kept k h);
    };
    platform =
        platform_twice less.set.platform middle.set.platform more.set.platform D.platform
        E.platform;
    times = times_twice;
    parts = λ k l.
        part_twice (less.parts k) (middle.parts (first k)) (more.parts (origin k)) (D.parts k l)
        (E.parts (first k) (kept k l));
    longest = λ k l.
        let a = D.longest k l in
        let b = E.longest (first k) (kept k l) in
        omega (arith, a, b);
  }

pub changes_add_up : ChangesAddUp
changes_add_up first second less middle more D E =
    changed_twice first second less middle more D E

pub refined_changes_add_up : RefinedChangesAddUp
refined_changes_add_up first second less middle more D E = record {
  counted = λ m.
      changes_add_up first second (counted_by m less) (counted_by m middle) (counted_by m more)
      (D.counted m) (E.counted m);
  nodes = λ m k y l b.
      let N = D.nodes m k y l b in
      let C = D.counted m in
      let M = E.nodes m (first k) N.node (C.order.within k l) N.within in
      record { node = M.node; within = M.within; useful = λ c h. M.useful c (N.useful c h) };
}

-- ---- a task left away

module _ (set : TaskSet) (i : ℕ) (is : i < length set.tasks) where
  -- a number of a task is that of the task from which it comes
  number_kept : (f : TaskSpec → ℕ) (k : ℕ)
      → get_or (map f (remove set.tasks i)) k 0 ≡ get_or (map f set.tasks) (past i k) 0
  number_kept f k =
      let moved : map f (remove set.tasks i) ≡ remove (map f set.tasks) i =
      map-append f (take i set.tasks) (drop (suc i) set.tasks)
      ∙ ap (λ z. z ++ map f (drop (suc i) set.tasks)) (sym (take-map f i set.tasks))
      ∙ ap (λ z. take i (map f set.tasks) ++ z) (sym (drop-map f (suc i) set.tasks)) in
      let long : i < length (map f set.tasks) = simp length-map is in
      ap (λ z. get_or z k 0) moved
      ∙ elim (cases_lt k i) [
        | inl l ↦
            let b = lt-ltb k i l in rw b (get_or-remove_below (map f set.tasks) i 0 k l long)
        | inr l ↦
            let b = le-ltb k i l in rw b (get_or-remove_above (map f set.tasks) i 0 k l long)
      ]

  -- it comes from one of the set
  past_within : (k : ℕ) → k < length (remove set.tasks i) → past i k < length set.tasks
  past_within k l =
      let fewer = length-remove set.tasks i is in
      elim (cases_lt k i) [
        | inl h ↦ let b = lt-ltb k i h in rw b (omega (arith, fewer, l, is))
        | inr h ↦ let b = le-ltb k i h in rw b (omega (arith, fewer, l, is))
      ]

past_rising : (i j k : ℕ) → j < k → past i j < past i k
past_rising i j k l =
    elim (cases_lt j i) [
      | inl a ↦
          let b = lt-ltb j i a in
          elim (cases_lt k i) [
            | inl c ↦ let d = lt-ltb k i c in rw (b, d) l
            | inr c ↦ let d = le-ltb k i c in rw (b, d) (omega (arith, l))
          ]
      | inr a ↦
          let b = le-ltb j i a in
          let d = le-ltb k i (omega (arith, a, l)) in
          rw (b, d) (omega (arith, l))
    ]

pub any_task_may_leave : AnyTaskMayLeave
any_task_may_leave set i is = record {
  platform = refl;
  order = record {
    within = past_within set i is;
    rising = λ j k l h. past_rising i j k l;
  };
  times = record {
    period = λ k l.
        let e = number_kept set i is (λ (t : TaskSpec). t.period) k in omega (arith, e);
    deadline = λ k l.
        let e = number_kept set i is (λ (t : TaskSpec). t.deadline) k in omega (arith, e);
    jitter = λ k l.
        let e = number_kept set i is (λ (t : TaskSpec). t.jitter) k in omega (arith, e);
  };
}
