-- The generated task set is within the ranges of task sets.
use Rattle.std.proofs.Common.{◌≡◌, ℕ, ◌<◌, ◌≤◌, Bool, true, [], ◌∷◌, ◌++◌, map, length, get_or}
use Rattle.std.proofs.Common.{arith, refl, sym, ap, ◌∙◌, subst, lit≤, inl, inr, zero-add, codes}
use Rattle.std.specs.Fmt.{digits}
use Rattle.std.specs.Fmt.{decimal}
use Rattle.std.specs.List.{list_all, range_with_len}
use Rattle.std.proofs.lemmas.Bool.{cases_Bool}
use Rattle.std.proofs.lemmas.Fmt.{decimal_injective}
use Rattle.std.proofs.lemmas.List.Elements.{All-from_recursion}
use Rattle.std.proofs.lemmas.List.Folds.{list_all_at}
use Rattle.std.proofs.lemmas.List.FromFn.{get_or-map-range_with_len, get_or-range_with_len}
use Rattle.std.proofs.lemmas.List.FromFn.{length-map-range_with_len, length-range_with_len}
use Rattle.crpd_base.specs.declared.data.TaskSpec.{TaskSpec}
use Rattle.crpd_base.specs.Names.{is_file, is_name}
use Rattle.crpd_base.specs.Ranges.{IsLoopSpec, IsTaskSpec, HaveOwnNames, IsTaskSet}
use Rattle.gen_tasks.specs.Programs.{draft_at, stated_loop, generated_task_at}
use Rattle.gen_tasks.specs.GeneratedInput.{generated_set}

pub jitter_below : (n i : ℕ) → (draft_at n i).jitter ≤ 3000
unfolding draft_at
jitter_below n i = omega arith

bound_within : (n i : ℕ) → (1 ≤ (draft_at n i).bound) × ((draft_at n i).bound ≤ 16)
unfolding draft_at
bound_within n i = (omega arith, omega arith)

-- what holds of each number below n, by a test of them all
passes_below : (p : ℕ → Bool) (n : ℕ) → list_all p (range_with_len 0 n) ≡ true → (i : ℕ) → i < n
    → p i ≡ true
passes_below p n all i lt =
    let at : get_or (range_with_len 0 n) i 0 ≡ i = get_or-range_with_len 0 n i 0 lt ∙ zero-add i in
    elim (cases_Bool (p i)) [
      | inl holds ↦ holds
      | inr fails ↦
          absurd (let none = list_all_at p (range_with_len 0 n) i 0
          (omega (arith, length-range_with_len 0 n)) (ap p at ∙ fails) in cc)
    ]

-- the names of the tasks and of their files
names_good : (i : ℕ) → i < 16 → is_name (codes "t" ++ decimal i) ≡ true
unfolding digits
names_good = passes_below (λ i. is_name (codes "t" ++ decimal i)) 16 refl

files_good : (i : ℕ) → i < 16 → is_file (codes "t" ++ decimal i ++ codes ".elf") ≡ true
unfolding digits
files_good = passes_below (λ i. is_file (codes "t" ++ decimal i ++ codes ".elf")) 16 refl

task_is : (n i : ℕ) → i < 16 → IsTaskSpec (generated_task_at n i)
task_is n i h =
    let bound = bound_within n i in
    let jitter = jitter_below n i in
    record {
      name = names_good i h;
      file = files_good i h;
      period = (omega arith, omega arith);
      deadline = (omega arith, omega arith);
      jitter = omega arith;
      few_loops = lit≤ tt;
      loops =
          All-from_recursion IsLoopSpec (stated_loop (draft_at n i) ∷ [])
          ((omega arith, omega arith), tt);
    }

names_differ : (n i j : ℕ) → i < j → j < 16
    → HaveOwnNames (generated_task_at n i) (generated_task_at n j)
names_differ n i j h within e =
    let same : decimal i ≡ decimal j = cc in
    let is : i ≡ j = decimal_injective i j (omega arith) (omega arith) same in
    omega arith

pub tasks_at : (n k : ℕ) (d : TaskSpec) → k < 16
    → get_or (map (generated_task_at n) (range_with_len 0 16)) k d ≡ generated_task_at n k
tasks_at n k d h = get_or-map-range_with_len (generated_task_at n) 0 16 k k d h (omega arith)

pub set_is : (n : ℕ) → IsTaskSet (generated_set n)
unfolding generated_set
set_is n =
    let count : length (map (generated_task_at n) (range_with_len 0 16)) ≡ 16 =
    length-map-range_with_len (generated_task_at n) 0 16 in
    record {
      platform = record {
        line = (lit≤ tt, lit≤ tt);
        line_size = refl;
        sets = (lit≤ tt, lit≤ tt);
        hit = (lit≤ tt, lit≤ tt);
        miss = lit≤ tt;
        memory = lit≤ tt;
        taken = lit≤ tt;
        switch = lit≤ tt;
        mul = lit≤ tt;
        div = lit≤ tt;
      };
      some = omega arith;
      few = omega arith;
      each = λ k d lt.
          let h : k < 16 = omega arith in subst IsTaskSpec (sym (tasks_at n k d h)) (task_is n k h);
      names = λ i j d lt within. let h : j < 16 = omega arith in
          rw (tasks_at n i d (omega arith), tasks_at n j d h) (names_differ n i j lt h);
    }
