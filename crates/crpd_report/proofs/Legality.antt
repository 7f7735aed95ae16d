-- The test of legality decides it.
use Rattle.std.proofs.Common.{◌≡◌, ℕ, suc, ◌+◌, ◌≤◌, Bool, true, false, List, [], ◌∷◌, refl, sym}
use Rattle.std.proofs.Common.{arith, All, AllPairs, not, ◌||◌, ◌↔◌, ◌==◌, nat_le, IsTrue, Decides}
use Rattle.std.specs.List.{list_all}
use Rattle.std.proofs.lemmas.Bool.{true≢false}
use Rattle.std.proofs.lemmas.Bool.Decides.{Decides-and, Decides-by_and, Decides-eqb, Decides-or}
use Rattle.std.proofs.lemmas.Bool.Decides.{nat_tests, same_from_decides}
use Rattle.std.proofs.lemmas.List.Kept.{AllPairs-cons}
use Rattle.crpd_base.specs.declared.data.ScriptJob.{ScriptJob}
use Rattle.crpd_base.specs.declared.data.TaskSet.{TaskSet}
use Rattle.crpd_base.specs.Tasks.{jitter_of}
use Rattle.crpd_base.specs.Arrivals.{AreSpaced, IsLegal, IsReleasedInTime}
use Rattle.crpd_base.specs.Tasks.{period_of}
use Rattle.crpd_report.specs.Simulate.{are_spaced, is_in_time, is_legal, list_all_pairs}

at_most : (a b : ℕ) → Decides (nat_le a b) (a ≤ b)
at_most a b = grind (arith, nat_tests)

where_so : {P Q : Type 0} (x y : Bool) → Decides x P → Decides y Q → Decides (not x || y) (P → Q)
where_so true y d k = (λ e _. k.0 e, λ h. k.1 (h (d.0 refl)))
where_so false y d k = (λ _ p. absurd (true≢false (sym (d.1 p))), λ _. refl)

spaced : (set : TaskSet) (x y : ScriptJob) → Decides (are_spaced set x y) (AreSpaced set x y)
spaced set x y =
    let period = period_of set x.task.0 in
    where_so (x.task.0 == y.task.0)
    (nat_le (x.arrival + period) y.arrival || nat_le (y.arrival + period) x.arrival)
    (Decides-eqb x.task.0 y.task.0)
    (Decides-or (nat_le (x.arrival + period) y.arrival) (nat_le (y.arrival + period) x.arrival)
    (at_most (x.arrival + period) y.arrival) (at_most (y.arrival + period) x.arrival))

in_time : (set : TaskSet) (job : ScriptJob)
    → Decides (is_in_time set job) (IsReleasedInTime set job)
in_time set job =
    Decides-and (nat_le job.arrival job.release)
    (nat_le job.release (job.arrival + jitter_of set job.task.0))
    (at_most job.arrival job.release) (at_most job.release (job.arrival + jitter_of set job.task.0))

module _ {A : Type 0} (test : A → A → Bool) (R : A → A → Type 0)
    (each : (x y : A) → Decides (test x y) (R x y)) where
  head_of : (x : A) (xs : List A) → AllPairs R (x ∷ xs) → All (R x) xs
  head_of x xs h k d lt = h 0 (suc k) d (omega arith) (omega arith)

  tail_of : (x : A) (xs : List A) → AllPairs R (x ∷ xs) → AllPairs R xs
  tail_of x xs h i j d lt le = h (suc i) (suc j) d (omega arith) (omega arith)

  all_pairs : (xs : List A) → Decides (list_all_pairs test xs) (AllPairs R xs)
  unfolding list_all_pairs
  all_pairs [] = (λ _ i j d lt le. absurd (omega arith), λ _. refl)
  all_pairs (x ∷ xs) =
      let both = Decides-and (list_all (test x) xs) (list_all_pairs test xs)
      (Decides-by_and (test x) (R x) (list_all (test x)) (each x) refl (λ _ _. refl) xs)
      (all_pairs xs) in (
        λ e. let h = both.0 e in AllPairs-cons R x xs h.0 h.1,
        λ h. both.1 (head_of x xs h, tail_of x xs h),
      )

pub legal_decides : (set : TaskSet) (jobs : List ScriptJob)
    → IsTrue (is_legal set jobs) ↔ IsLegal set jobs
legal_decides set jobs =
    let both =
    Decides-and (list_all_pairs (are_spaced set) jobs) (list_all (is_in_time set) jobs)
    (all_pairs (are_spaced set) (AreSpaced set) (spaced set) jobs)
    (Decides-by_and (is_in_time set) (IsReleasedInTime set) (list_all (is_in_time set))
    (in_time set) refl (λ _ _. refl) jobs)
    in (
      λ e. let h = both.0 e in record { spaced = h.0; in_time = h.1 },
      λ h. both.1 (h.spaced, h.in_time),
    )

-- a result that says whether a script is legal is the test
pub is_the_test : (b : Bool) (set : TaskSet) (jobs : List ScriptJob) → IsTrue b ↔ IsLegal set jobs
    → b ≡ is_legal set jobs
is_the_test b set jobs h = same_from_decides b (is_legal set jobs) h (legal_decides set jobs)
