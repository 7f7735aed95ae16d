-- Jobs of one task that arrive at least a period apart: by task, in any order, and by neighbours in
-- the sorted arrivals.
use Rattle.std.proofs.Common.{◌≡◌, ◌≢◌, ℕ, ◌+◌, ◌-◌, ◌<◌, ◌≤◌, inl, inr, cond, nat_eq, List, []}
use Rattle.std.proofs.Common.{◌∷◌, length, take, drop, get_or, set, refl, sym, ap, ◌∙◌, subst}
use Rattle.std.proofs.Common.{arith, get_or-set_same, get_or-set_other, length-set}
use Rattle.std.specs.Prelude.{All, AllPairs}
use Rattle.std.specs.List.{swap, AllByRecursion}
use Rattle.std.specs.List.Sorted.{IsPermutation}
use Rattle.std.proofs.lemmas.Bool.{cases_eq, cases_lt}
use Rattle.std.proofs.lemmas.Bool.Decides.{nat_tests}
use Rattle.std.proofs.lemmas.List.{get_or_default, length-drop, get_or-drop, take_all}
use Rattle.std.proofs.lemmas.List.Elements.{All-from_recursion, recursion_from_All}
use Rattle.std.proofs.lemmas.List.Kept.{AllPairs-cons}
use Rattle.std.proofs.lemmas.List.Sorted.{IsPermutation-keeps}
use Rattle.crpd_base.proofs.Elements.{pairs_head, pairs_tail}
use Rattle.crpd_base.specs.declared.data.ScriptJob.{ScriptJob}
use Rattle.crpd_base.specs.declared.data.TaskSet.{TaskSet}
use Rattle.crpd_base.specs.Tasks.{period_of}
use Rattle.crpd_base.specs.Arrivals.{AreApart, AreSpaced}
use Rattle.script_reader.specs.Inner.Legal.{AreAllApart, EachIsSpaced, AreSpacedPairs, arrivals_of}

-- ---- pairs

-- ---- by task

arrivals_own : (j : ScriptJob) (js : List ScriptJob) (t : ℕ) → j.task.0 ≡ t
    → arrivals_of t (j ∷ js) ≡ j.arrival ∷ arrivals_of t js
arrivals_own j js t e = grind (arith, nat_tests)

arrivals_other : (j : ScriptJob) (js : List ScriptJob) (t : ℕ) → j.task.0 ≢ t
    → arrivals_of t (j ∷ js) ≡ arrivals_of t js
arrivals_other j js t n = grind (arith, nat_tests)

-- a job and those after it
apart_from : (s : TaskSet) (j : ScriptJob) (t : ℕ) (js : List ScriptJob) → j.task.0 ≡ t
    → AllByRecursion (AreSpaced s j) js
    → AllByRecursion (AreApart (period_of s t) j.arrival) (arrivals_of t js)
apart_from s j t [] e h = tt
apart_from s j t (k ∷ ks) e h =
    elim (cases_eq k.task.0 t) [
      | inl own ↦
          rw (arrivals_own k ks t own) (
            subst (λ (u : ℕ). AreApart (period_of s u) j.arrival k.arrival) e (h.0 (e ∙ sym own)),
            apart_from s j t ks e h.1,
          )
      | inr other ↦ rw (arrivals_other k ks t other) (apart_from s j t ks e h.1)
    ]

spaced_from : (s : TaskSet) (j : ScriptJob) (js : List ScriptJob)
    → AllByRecursion (AreApart (period_of s j.task.0) j.arrival) (arrivals_of j.task.0 js)
    → AllByRecursion (AreSpaced s j) js
spaced_from s j [] h = tt
spaced_from s j (k ∷ ks) h =
    elim (cases_eq k.task.0 j.task.0) [
      | inl own ↦ let g =
          rw (arrivals_own k ks j.task.0 own) at h in (λ _. g.0, spaced_from s j ks g.1)
      | inr other ↦ let g =
          rw (arrivals_other k ks j.task.0 other) at h in
          (λ e. absurd (other (sym e)), spaced_from s j ks g)
    ]

pub by_task : (s : TaskSet) (jobs : List ScriptJob) → AllPairs (AreSpaced s) jobs → (t : ℕ)
    → AllPairs (AreApart (period_of s t)) (arrivals_of t jobs)
by_task s [] h t = λ i j d lt le. absurd (omega arith)
by_task s (j ∷ js) h t =
    let rest = by_task s js (pairs_tail (AreSpaced s) j js h) t in
    elim (cases_eq j.task.0 t) [
      | inl own ↦
          rw (arrivals_own j js t own)
          (AllPairs-cons (AreApart (period_of s t)) j.arrival (arrivals_of t js)
          (All-from_recursion _ _
          (apart_from s j t js own (recursion_from_All _ js (pairs_head (AreSpaced s) j js h))))
          rest)
      | inr other ↦ rw (arrivals_other j js t other) rest
    ]

later : (s : TaskSet) (j : ScriptJob) (js : List ScriptJob) (t : ℕ)
    → AllPairs (AreApart (period_of s t)) (arrivals_of t (j ∷ js))
    → AllPairs (AreApart (period_of s t)) (arrivals_of t js)
later s j js t h =
    elim (cases_eq j.task.0 t) [
      | inl own ↦
          pairs_tail (AreApart (period_of s t)) j.arrival (arrivals_of t js)
          (rw (arrivals_own j js t own) at h)
      | inr other ↦ rw (arrivals_other j js t other) at h
    ]

pub from_tasks : (s : TaskSet) (jobs : List ScriptJob)
    → AllByRecursion (λ (j : ScriptJob). j.task.0 < length s.tasks) jobs
    → ((t : ℕ) → t < length s.tasks → AllPairs (AreApart (period_of s t)) (arrivals_of t jobs))
    → AllPairs (AreSpaced s) jobs
from_tasks s [] ins h = λ i j d lt le. absurd (omega arith)
from_tasks s (j ∷ js) ins h =
    let own = rw (arrivals_own j js j.task.0 refl) at (h j.task.0 ins.0) in
    AllPairs-cons (AreSpaced s) j js
    (All-from_recursion _ js
    (spaced_from s j js
    (recursion_from_All _ _
    (pairs_head (AreApart (period_of s j.task.0)) j.arrival (arrivals_of j.task.0 js) own))))
    (from_tasks s js ins.1 (λ t lt. later s j js t (h t lt)))

-- ---- in any order

apart_sym : (p a b : ℕ) → AreApart p a b → AreApart p b a
apart_sym p a b (inl h) = inr h
apart_sym p a b (inr h) = inl h

cond_same : (j a b : ℕ) → cond (nat_eq j j) a b ≡ a
cond_same j a b = grind (arith, nat_tests)

cond_other : (k j : ℕ) → k ≢ j → (a b : ℕ) → cond (nat_eq k j) a b ≡ b
cond_other k j ne a b = grind (arith, nat_tests)

-- the place before the exchange of the element that is now at a place
abbrev moved : ℕ → ℕ → ℕ → ℕ
moved i j k = cond (nat_eq k j) i (cond (nat_eq k i) j k)

moved_below : (i j k n : ℕ) → i < n → j < n → k < n → moved i j k < n
moved_below i j k n il jl kl = grind (arith, nat_tests)

moved_apart : (i j a b : ℕ) → a ≢ b → moved i j a ≢ moved i j b
moved_apart i j a b ne e = grind (arith, nat_tests)

length_swap : (l : List ℕ) (i j : ℕ) → length (swap l i j) ≡ length l
length_swap [] i j = refl
length_swap (x ∷ ys) i j = simp length-set

get_or_swap : (l : List ℕ) (i j k d : ℕ) → i < length l → j < length l
    → get_or (swap l i j) k d ≡ get_or l (moved i j k) d
get_or_swap [] i j k d il jl = absurd (omega arith)
get_or_swap (x ∷ ys) i j k d il jl =
    let l : List ℕ = x ∷ ys in
    let il' : i < length l = il in
    let long : j < length (set l i (get_or l j x)) = rw length-set jl in
    elim (cases_eq k j) [
      | inl e ↦
          rw (e, cond_same j i (cond (nat_eq j i) j j))
          (rw get_or-set_same (get_or_default l i x d il))
      | inr ne ↦ rw (cond_other k j ne i (cond (nat_eq k i) j k), get_or-set_other)
          (elim (cases_eq k i) [
            | inl e ↦ rw (e, cond_same i j i) (rw get_or-set_same (get_or_default l j x d jl))
            | inr off ↦ rw (cond_other k i off j k, get_or-set_other)
          ])
    ]

-- any two places
Apart : ℕ → List ℕ → Type 0
Apart p xs =
    (i j : ℕ) (d : ℕ) → i ≢ j → i < length xs → j < length xs
    → AreApart p (get_or xs i d) (get_or xs j d)

apart_pairs : (p : ℕ) (xs : List ℕ) → Apart p xs → AllPairs (AreApart p) xs
unfolding Apart
apart_pairs p xs h i j d lt le = h i j d (omega arith) (omega arith) le

pairs_apart : (p : ℕ) (xs : List ℕ) → AllPairs (AreApart p) xs → Apart p xs
unfolding Apart
pairs_apart p xs h i j d ne il jl =
    elim (cases_lt i j) [
      | inl lt ↦ h i j d lt jl
      | inr ge ↦ apart_sym p _ _ (h j i d (omega arith) il)
    ]

apart_swap : (p : ℕ) (l : List ℕ) (i j : ℕ) → i < length l → j < length l → Apart p l
    → Apart p (swap l i j)
unfolding Apart
apart_swap p l i j il jl h = λ a b d ne al bl.
    let n = length_swap l i j in
    let al' : a < length l = omega arith in
    let bl' : b < length l = omega arith in
    rw (get_or_swap l i j a d il jl, get_or_swap l i j b d il jl)
    (h (moved i j a) (moved i j b) d (moved_apart i j a b ne)
    (moved_below i j a (length l) il jl al') (moved_below i j b (length l) il jl bl'))

pub reordered : (p : ℕ) (xs ys : List ℕ) → IsPermutation xs ys → AreAllApart p xs → AreAllApart p ys
reordered p xs ys moves h = record {
  pairs =
      apart_pairs p ys
      (IsPermutation-keeps xs (Apart p) (pairs_apart p xs h.pairs) (apart_swap p) ys moves);
}

pub each_from_pairs : (s : TaskSet) (jobs : List ScriptJob) → AreSpacedPairs s jobs
    → EachIsSpaced s jobs
each_from_pairs s jobs h = record { tasks = λ t _. record { pairs = by_task s jobs h.pairs t } }

pub pairs_from_each : (s : TaskSet) (jobs : List ScriptJob)
    → All (λ (j : ScriptJob). j.task.0 < length s.tasks) jobs → EachIsSpaced s jobs
    → AreSpacedPairs s jobs
pairs_from_each s jobs ins each = record {
  pairs = from_tasks s jobs (recursion_from_All _ jobs ins) (λ t lt. (each.tasks t lt).pairs);
}

-- ---- by pairs

-- the first i jobs are spaced from all later ones
pub record AreSpacedBelow (s : TaskSet) (jobs : List ScriptJob) (i : ℕ) : Type 0 where
  pub pairs : (a b : ℕ) (d : ScriptJob) → a < i → a < b → b < length jobs
      → AreSpaced s (get_or jobs a d) (get_or jobs b d)

pub below_all : (s : TaskSet) (jobs : List ScriptJob) (i : ℕ) → length jobs ≤ i
    → AreSpacedBelow s jobs i → AreSpacedPairs s jobs
below_all s jobs i le h = record { pairs = λ a b d lt bl. h.pairs a b d (omega arith) lt bl }

-- one more job, which is spaced from those after it
pub below_next : (s : TaskSet) (jobs : List ScriptJob) (i : ℕ) (x : ScriptJob) → i < length jobs
    → x ≡ get_or jobs i x → All (AreSpaced s x) (drop (i + 1) jobs) → AreSpacedBelow s jobs i
    → AreSpacedBelow s jobs (i + 1)
below_next s jobs i x lt is here h = record {
  pairs = λ a b d al ab bl.
      elim (cases_eq a i) [
        | inl same ↦
            let at_i : get_or jobs a d ≡ x =
            ap (λ n. get_or jobs n d) same ∙ get_or_default jobs i d x lt ∙ sym is in
            let within : b - (i + 1) < length (drop (i + 1) jobs) =
            omega (arith, length-drop (i + 1) jobs) in
            let place : i + 1 + (b - (i + 1)) ≡ b = omega arith in
            let at_b : get_or (drop (i + 1) jobs) (b - (i + 1)) d ≡ get_or jobs b d =
            get_or-drop (i + 1) jobs (b - (i + 1)) d ∙ ap (λ n. get_or jobs n d) place in
            rw at_i (subst (λ (y : ScriptJob). AreSpaced s x y) at_b (here (b - (i + 1)) d within))
        | inr off ↦ h.pairs a b d (omega arith) ab bl
      ];
}

-- what holds of all pairs, for the job at i and those after it
pub pairs_at : (s : TaskSet) (jobs : List ScriptJob) (i : ℕ) (x : ScriptJob) → i < length jobs
    → x ≡ get_or jobs i x → AreSpacedPairs s jobs → All (AreSpaced s x) (drop (i + 1) jobs)
pairs_at s jobs i x lt is h k d kl =
    let long = length-drop (i + 1) jobs in
    let at_i : get_or jobs i d ≡ x = get_or_default jobs i d x lt ∙ sym is in
    rw get_or-drop
    (subst (λ (y : ScriptJob). AreSpaced s y (get_or jobs (i + 1 + k) d)) at_i
    (h.pairs i (i + 1 + k) d (omega arith) (omega arith)))

-- the slice after the job at i
pub rest_of : (jobs : List ScriptJob) (i : ℕ)
    → take (length jobs - (i + 1)) (drop (i + 1) jobs) ≡ drop (i + 1) jobs
rest_of jobs i =
    take_all (length jobs - (i + 1)) (drop (i + 1) jobs) (omega (arith, length-drop (i + 1) jobs))
