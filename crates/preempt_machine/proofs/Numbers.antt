-- A job's number grows with its place among the jobs of its task, so the order by places is the
-- order by numbers.
use Rattle.std.proofs.Common.{◌≡◌, ℕ, zero, suc, ◌+◌, ◌<◌, ◌≤◌, true, cond, List, [], ◌∷◌, length}
use Rattle.std.proofs.Common.{refl, ap, inl, inr, arith, ◌==◌, slice_index_or}
use Rattle.std.proofs.lemmas.Bool.{cases_lt, eq-eqb}
use Rattle.crpd_base.specs.declared.data.ScriptJob.{ScriptJob}
use Rattle.preempt_machine.specs.Machine.{number_in_script}

number_cons : (t : ℕ) (l : ScriptJob) (lines : List ScriptJob) (x : ℕ)
    → number_in_script (l ∷ lines) t (suc x) ≡ cond (l.task.0 == t) 1 0 + number_in_script lines t x
number_cons t l lines x = refl

number_le : (t : ℕ) (lines : List ScriptJob) (x : ℕ)
    → number_in_script lines t x ≤ number_in_script lines t (suc x)
number_le t [] zero = omega arith
number_le t [] (suc x) = omega arith
number_le t (l ∷ lines) zero = omega (arith, number_cons t l lines 0)
number_le t (l ∷ lines) (suc x) =
    omega (arith, number_le t lines x, number_cons t l lines x, number_cons t l lines (suc x))

-- past a job of the task the count is one more
number_more : (t : ℕ) (lines : List ScriptJob) (x : ℕ) (d : ScriptJob) → x < length lines
    → (slice_index_or lines x d).task.0 ≡ t
    → suc (number_in_script lines t x) ≤ number_in_script lines t (suc x)
number_more t [] x d h e = absurd (omega arith)
number_more t (l ∷ lines) zero d h e =
    let b : (l.task.0 == t) ≡ true = eq-eqb _ _ e in
    omega (arith, number_cons t l lines 0, ap {B = ℕ} (λ c. cond c 1 0) b)
number_more t (l ∷ lines) (suc x) d h e =
    let k = number_more t lines x d (omega arith) e in
    omega (arith, k, number_cons t l lines x, number_cons t l lines (suc x))

number_mono : (t : ℕ) (lines : List ScriptJob) (x y : ℕ) → x ≤ y
    → number_in_script lines t x ≤ number_in_script lines t y
number_mono t lines x zero h = let e : x ≡ 0 = omega arith in rw e (omega arith)
number_mono t lines x (suc y) h =
    elim (cases_lt y x) [
      | inl l ↦ let e : x ≡ suc y = omega arith in rw e (omega arith)
      | inr g ↦ let a =
          number_mono t lines x y g in let b = number_le t lines y in omega (arith, a, b)
    ]

-- of two jobs of a task, the one with the smaller place has the smaller number
pub number_grows : (lines : List ScriptJob) (x y t : ℕ) (d : ScriptJob) → x < y → y < length lines
    → (slice_index_or lines x d).task.0 ≡ t
    → number_in_script lines t x < number_in_script lines t y
number_grows lines x y t d l h e =
    let a = number_more t lines x d (omega arith) e in
    let b = number_mono t lines (suc x) y l in
    omega (arith, a, b)
