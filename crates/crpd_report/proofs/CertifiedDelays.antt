-- The delays that a certificate charges, from lists of its parts and windows.
use Rattle.std.proofs.Common.{◌≡◌, ℕ, zero, suc, ◌<◌, ◌≤◌, ◌^◌, List, [], ◌∷◌, length, get_or, map}
use Rattle.std.proofs.Common.{refl, sym, ap, ◌∙◌, subst, arith, slice_index}
use Rattle.std.proofs.Math.Path.{fun_ext}
use Rattle.std.proofs.lemmas.List.{length-map}
use Rattle.crpd_base.specs.declared.data.Certificate.{Certificate}
use Rattle.crpd_base.specs.declared.data.Part.{Part}
use Rattle.crpd_base.specs.declared.data.TaskPart.{TaskPart}
use Rattle.crpd_base.specs.declared.data.TaskSet.{TaskSet}
use Rattle.crpd_base.specs.Tasks.{HasTimes}
use Rattle.delay_count.specs.Counts.{HasWindows}
use Rattle.delay_count.specs.Demand.{charged_delays}
use Rattle.delay_count.specs.Gamma.{part_at}
use Rattle.evict_sets.specs.ListedPart.{certified_task, no_task_part}
use Rattle.cert_check.specs.JudgeInput.{certified_part, window_at}
use Rattle.crpd_report.specs.Explain.{delay_of, HasWindowOfEach}

-- the item at a place of a mapped list, also past its end
mapped : {A B : Type 0} (f : A → B) (d : A) (xs : List A) (k : ℕ)
    → get_or (map f xs) k (f d) ≡ f (get_or xs k d)
mapped f d [] k = refl
mapped f d (x ∷ xs) zero = refl
mapped f d (x ∷ xs) (suc k) = mapped f d xs k

module _ (c : Certificate) (parts : List Part) (windows : List ℕ)
    (ps : parts ≡ map (λ (t : TaskPart). t.part) c.tasks)
    (ws : windows ≡ map (λ (t : TaskPart). t.window) c.tasks) where
  parts_are : part_at parts ≡ certified_part c
  parts_are =
      ap part_at ps ∙ fun_ext (λ k. mapped (λ (t : TaskPart). t.part) no_task_part c.tasks k)

  pub windows_are : slice_index windows ≡ window_at c
  windows_are =
      ap slice_index ws ∙ fun_ext (λ k. mapped (λ (t : TaskPart). t.window) no_task_part c.tasks k)

  pub long_windows : length windows ≡ length c.tasks
  long_windows = ap length ws ∙ length-map c.tasks (λ (t : TaskPart). t.window)

  pub delay_is : (set : TaskSet) (i : ℕ) (t : TaskPart) (d : ℕ) → certified_task c i ≡ t
      → d ≡ charged_delays set (part_at parts) (slice_index windows) i t.method t.window
      → d ≡ delay_of set c i
  delay_is set i t d at e =
      e ∙ ap (λ p. charged_delays set p (slice_index windows) i t.method t.window) parts_are
      ∙ ap (λ w. charged_delays set (certified_part c) w i t.method t.window) windows_are
      ∙ ap (λ (x : TaskPart). charged_delays set (certified_part c) (window_at c) i x.method
      x.window) (sym at)

  -- the windows of the tasks above are within their deadlines, and no window is longer than 2^40
  module _ (set : TaskSet) (times : HasTimes set) (H : HasWindowOfEach set c) where
    window_small : (k : ℕ) → k < length set.tasks → window_at c k ≤ 2 ^ 40
    window_small k h =
        let w = H.in_deadline k h in
        let d = times.deadline k h in
        let p = times.longest k h in
        omega (arith, w, d, p)

    at : (k : ℕ) → slice_index windows k ≡ window_at c k
    at k = ap (λ f. f k) windows_are

    pub has_windows : (i : ℕ) → i < length set.tasks → HasWindows set windows i
    has_windows i h =
        record {
          tasks = omega (arith, long_windows, H.tasks);
          most = λ k l. let s = window_small k (omega (arith, l)) in omega (arith, s, at k);
          in_deadline = λ k l. let s = H.in_deadline k (omega (arith, l)) in omega (arith, s, at k);
        }

    pub small : (i : ℕ) (t : TaskPart) → i < length set.tasks → certified_task c i ≡ t
        → t.window ≤ 2 ^ 40
    small i t h e = subst (λ (x : TaskPart). x.window ≤ 2 ^ 40) e (window_small i h)
