-- The order of jobs, and the first of the ready ones.
use Rattle.std.proofs.Common.{◌≡◌, ℕ, zero, suc, ◌<◌, ◌⊎◌, true, false, List, Option, Some, None}
use Rattle.std.proofs.Common.{refl, sym, ◌∙◌, inl, inr, arith, below_more}
use Rattle.std.proofs.lemmas.Bool.{cases_Bool, false≢true}
use Rattle.std.proofs.lemmas.Bool.Decides.{nat_tests}
use Rattle.crpd_base.specs.declared.data.ScriptJob.{ScriptJob}
use Rattle.preempt_machine.specs.Machine.{Job, job_at}
use Rattle.preempt_machine.specs.Step.{is_ready, comes_before, before, better_candidate}
use Rattle.preempt_machine.specs.Step.{first_ready}

pub comes_before_trans : (a : ScriptJob) (x : ℕ) (b : ScriptJob) (y : ℕ) (c : ScriptJob) (z : ℕ)
    → comes_before a x b y ≡ true → comes_before b y c z ≡ true → comes_before a x c z ≡ true
unfolding comes_before
comes_before_trans a x b y c z p q = grind (arith, nat_tests)

pub comes_before_asym : (a : ScriptJob) (x : ℕ) (b : ScriptJob) (y : ℕ)
    → comes_before a x b y ≡ true → comes_before b y a x ≡ false
unfolding comes_before
comes_before_asym a x b y p = grind (arith, nat_tests)

pub comes_before_total : (a : ScriptJob) (x : ℕ) (b : ScriptJob) (y : ℕ)
    → comes_before a x b y ≡ false → (x ≡ y → ⊥) → comes_before b y a x ≡ true
unfolding comes_before
comes_before_total a x b y p q = grind (arith, nat_tests)

-- the place i is the first of the ready jobs below place n
pub record IsFirst (time : ℕ) (jobs : List Job) (n i : ℕ) : Type 0 where
  pub below : i < n
  pub ready : is_ready time (job_at jobs i) ≡ true
  pub first : (j : ℕ) → j < n → is_ready time (job_at jobs j) ≡ true
      → (j ≡ i) ⊎ (before jobs i j ≡ true)

-- what the best place so far means: it is the first of the ready ones below n, or there is none
abbrev pub IsBest : ℕ → List Job → ℕ → Option ℕ → Type 0
IsBest time jobs n None = (j : ℕ) → j < n → is_ready time (job_at jobs j) ≡ false
IsBest time jobs n (Some i) = IsFirst time jobs n i

better_is : (time : ℕ) (jobs : List Job) (n : ℕ) (best : Option ℕ) → IsBest time jobs n best
    → IsBest time jobs (suc n) (better_candidate time jobs n best)
better_is time jobs n None h =
    elim (cases_Bool (is_ready time (job_at jobs n))) [
      | inl r ↦ rw r (record {
        below = omega arith;
        ready = r;
        first = λ j m.
            below_more (λ k. is_ready time (job_at jobs k) ≡ true
            → (k ≡ n) ⊎ (before jobs n k ≡ true)) n (λ k l q. absurd (false≢true (sym (h k l) ∙ q)))
            (λ q. inl refl) j (omega arith);
      })
      | inr r ↦ rw r (λ j m.
          below_more (λ k. is_ready time (job_at jobs k) ≡ false) n h r j (omega arith))
    ]
better_is time jobs n (Some i) h =
    elim (cases_Bool (is_ready time (job_at jobs n))) [
      | inl r ↦ elim (cases_Bool (before jobs n i)) [
        | inl b ↦ rw (r, b) (record {
          below = omega arith;
          ready = r;
          first = λ j m.
              below_more (λ k. is_ready time (job_at jobs k) ≡ true
              → (k ≡ n) ⊎ (before jobs n k ≡ true)) n
              (λ k l q. elim (h.first k l q) [
                | inl e ↦ inr (rw e b)
                | inr c ↦
                    inr (comes_before_trans (job_at jobs n).line n (job_at jobs i).line i
                    (job_at jobs k).line k b c)
              ])
              (λ q. inl refl) j (omega arith);
        })
        | inr b ↦ rw (r, b) (record {
          below = omega (arith, h.below);
          ready = h.ready;
          first = λ j m.
              below_more (λ k. is_ready time (job_at jobs k) ≡ true
              → (k ≡ i) ⊎ (before jobs i k ≡ true)) n h.first
              (λ q. inr
              (comes_before_total (job_at jobs n).line n (job_at jobs i).line i b
              (λ e. omega (arith, h.below)))) j (omega arith);
        })
      ]
      | inr r ↦ rw r (record {
        below = omega (arith, h.below);
        ready = h.ready;
        first = λ j m.
            below_more (λ k. is_ready time (job_at jobs k) ≡ true
            → (k ≡ i) ⊎ (before jobs i k ≡ true)) n h.first
            (λ q. absurd (false≢true (sym r ∙ q))) j (omega arith);
      })
    ]

-- first_ready is the first of the ready jobs, and None only if no job is ready
pub first_ready_is : (time : ℕ) (jobs : List Job) (n : ℕ)
    → IsBest time jobs n (first_ready time jobs n)
first_ready_is time jobs zero = λ j h. absurd (omega arith)
first_ready_is time jobs (suc n) =
    better_is time jobs n (first_ready time jobs n) (first_ready_is time jobs n)
