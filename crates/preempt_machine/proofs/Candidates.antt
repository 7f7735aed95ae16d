-- The step's candidate is the owner that keeps the core, or the first of the ready jobs.
use Rattle.std.proofs.Common.{◌≡◌, ◌⊎◌, ℕ, ◌<◌, ◌≤◌, true, false, List, length, map, Option, Some}
use Rattle.std.proofs.Common.{None, refl, sym, ◌∙◌, ap, subst, inl, inr, arith}
use Rattle.std.specs.Prelude.{slice_index_or, nat_lt}
use Rattle.std.proofs.lemmas.Bool.{cases_Bool, cases_lt, false≢true, and_parts, and_from}
use Rattle.std.proofs.lemmas.Bool.Decides.{nat_tests}
use Rattle.std.proofs.lemmas.List.{get_or-map, length-map}
use Rattle.crpd_base.proofs.Options.{some_injective, none_some}
use Rattle.crpd_base.specs.declared.data.ScriptJob.{ScriptJob}
use Rattle.crpd_base.specs.declared.data.Switching.{Switching}
use Rattle.crpd_base.specs.declared.data.Switching.TheVariants.{Cycle, Instruction}
use Rattle.preempt_machine.specs.Machine.{System, Standing, Open, Answered, Faulted, Job, Machine}
use Rattle.preempt_machine.specs.Machine.{job_at, no_job, number_in_script}
use Rattle.preempt_machine.specs.Step.{is_open, is_ready, comes_before, before, keeps_core}
use Rattle.preempt_machine.specs.Step.{candidate, candidate_by}
use Rattle.preempt_machine.specs.Candidate.{task_of, job_number, IsReady, ComesBefore, higher}
use Rattle.preempt_machine.specs.Candidate.{earlier, smaller, KeepsCore, IsCandidate, the_owner}
use Rattle.preempt_machine.specs.Candidate.{the_first, CandidateLaw, NoCandidateLaw}
use Rattle.preempt_machine.specs.Candidate.{OneCandidateLaw}
use Rattle.preempt_machine.proofs.Order.{IsBest, first_ready_is}
use Rattle.preempt_machine.proofs.Numbers.{number_grows}
use Rattle.preempt_machine.proofs.Steps.{ready_open, ready_released, ready_from, open_is_below}

pub open_is : (s : Standing) → is_open s ≡ true → s ≡ Open
open_is Open o = refl
open_is (Answered t) o = absurd (false≢true o)
open_is Faulted o = absurd (false≢true o)

pub is_ready_job : (m : Machine) (x : ℕ) → is_ready m.time (job_at m.jobs x) ≡ true → IsReady m x
is_ready_job m x r =
    let o = ready_open m.time (job_at m.jobs x) r in
    record {
      job = open_is_below m.jobs x o;
      released = ready_released m.time (job_at m.jobs x) r;
      open_still = open_is (job_at m.jobs x).standing o;
    }

tests_ready : (m : Machine) (x : ℕ) → IsReady m x → is_ready m.time (job_at m.jobs x) ≡ true
tests_ready m x r = ready_from m.time (job_at m.jobs x) (ap is_open r.open_still) r.released

-- the reasons for which a line comes before another
before_cases : (a : ScriptJob) (x : ℕ) (b : ScriptJob) (y : ℕ) → comes_before a x b y ≡ true
    → (a.task.0 < b.task.0)
    ⊎ ((a.task.0 ≡ b.task.0) × ((a.release < b.release) ⊎ ((a.release ≡ b.release) × (x < y))))
unfolding comes_before
before_cases a x b y h =
    elim (cases_lt a.task.0 b.task.0) [
      | inl l ↦ inl l
      | inr g ↦
          let same : a.task.0 ≡ b.task.0 = grind (arith, nat_tests) in
          elim (cases_lt a.release b.release) [
            | inl l ↦ inr (same, inl l)
            | inr k ↦
                let as_early : a.release ≡ b.release = grind (arith, nat_tests) in
                let less : x < y = grind (arith, nat_tests) in
                inr (same, inr (as_early, less))
          ]
    ]

-- among the jobs of a task the place grows with the number
place_number : (m : Machine) (x y : ℕ) → task_of m x ≡ task_of m y → x < y → y < length m.jobs
    → job_number m x < job_number m y
place_number m x y same l below =
    let lines : List ScriptJob = map (λ (job : Job). job.line) m.jobs in
    let long : y < length lines = omega (arith, length-map m.jobs (λ (job : Job). job.line)) in
    let there : (slice_index_or lines x no_job.line).task.0 ≡ task_of m x =
    ap (λ (line : ScriptJob). line.task.0)
    (get_or-map (λ (job : Job). job.line) m.jobs x no_job no_job.line (omega arith)) in
    let grows = number_grows lines x y (task_of m x) no_job.line l long there in
    subst (λ t. job_number m x < number_of_lines m t y) same grows
  where
    number_of_lines : Machine → ℕ → ℕ → ℕ
    number_of_lines m t y = number_in_script (map (λ (job : Job). job.line) m.jobs) t y

comes_first : (m : Machine) (x y : ℕ) → y < length m.jobs → before m.jobs x y ≡ true
    → ComesBefore m x y
comes_first m x y below b =
    elim (before_cases (job_at m.jobs x).line x (job_at m.jobs y).line y b) [
      | inl l ↦ higher l
      | inr (same, inl l) ↦ earlier same l
      | inr (same, inr (as_early, l)) ↦ smaller same as_early (place_number m x y same l below)
    ]

not_both : (m : Machine) (x y : ℕ) → ComesBefore m x y → ComesBefore m y x → ⊥
not_both m x y (higher a) (higher b) = omega arith
not_both m x y (higher a) (earlier e b) = omega arith
not_both m x y (higher a) (smaller e f b) = omega arith
not_both m x y (earlier e a) (higher b) = omega arith
not_both m x y (earlier e a) (earlier f b) = omega arith
not_both m x y (earlier e a) (smaller f g b) = omega arith
not_both m x y (smaller e f a) (higher b) = omega arith
not_both m x y (smaller e f a) (earlier g b) = omega arith
not_both m x y (smaller e f a) (smaller g h b) = omega arith

pub one_candidate_law : OneCandidateLaw
one_candidate_law sys m x y (the_owner a) (the_owner b) = some_injective (sym a.owner ∙ b.owner)
one_candidate_law sys m x y (the_owner a) (the_first none b) = absurd (none x a)
one_candidate_law sys m x y (the_first none a) (the_owner b) = absurd (none y b)
one_candidate_law sys m x y (the_first none a) (the_first nobody b) =
    elim (a.first y b.ready) [
      | inl e ↦ sym e
      | inr c ↦ elim (b.first x a.ready) [ inl e ↦ e | inr d ↦ absurd (not_both m x y c d) ]
    ]

candidate_ready : (sys : System) (m : Machine) (x : ℕ) → IsCandidate sys m x → IsReady m x
candidate_ready sys m x (the_owner k) = k.ready
candidate_ready sys m x (the_first none f) = f.ready

-- what is to be shown of the step's candidate
abbrev Says : System → Machine → Option ℕ → Type 0
Says sys m None = (x : ℕ) → IsReady m x → ⊥
Says sys m (Some x) = IsCandidate sys m x

says_first : (sys : System) (m : Machine) → ((y : ℕ) → KeepsCore sys m y → ⊥) → (best : Option ℕ)
    → IsBest m.time m.jobs (length m.jobs) best → Says sys m best
says_first sys m none None h = λ x r. false≢true (sym (h x r.job) ∙ tests_ready m x r)
says_first sys m none (Some i) h =
    the_first none (record {
      ready = is_ready_job m i h.ready;
      first = λ y r. elim (h.first y r.job (tests_ready m y r)) [
        | inl e ↦ inl e
        | inr b ↦ inr (comes_first m i y r.job b)
      ];
    })

keeps : (sys : System) (m : Machine) (o : ℕ) → m.owner ≡ Some o → (s : Switching)
    → sys.platform.switching ≡ s → keeps_core s m.time (job_at m.jobs o) ≡ true → KeepsCore sys m o
keeps sys m o e Cycle q k = absurd (false≢true k)
keeps sys m o e Instruction q k =
    let both = and_parts _ _ k in
    record {
      waits = q;
      owner = e;
      ready = is_ready_job m o both.0;
      under_way = grind (arith, nat_tests);
    }

keeps_not : (sys : System) (m : Machine) (o : ℕ) → m.owner ≡ Some o → (s : Switching)
    → sys.platform.switching ≡ s → keeps_core s m.time (job_at m.jobs o) ≡ false → (y : ℕ)
    → KeepsCore sys m y → ⊥
keeps_not sys m o e Cycle q k y keeps = let w : Cycle ≡ Instruction = sym q ∙ keeps.waits in cc
keeps_not sys m o e Instruction q k y keeps =
    let same : y ≡ o = some_injective (sym keeps.owner ∙ e) in
    let ready : is_ready m.time (job_at m.jobs o) ≡ true =
    subst (λ z. is_ready m.time (job_at m.jobs z) ≡ true) same (tests_ready m y keeps.ready) in
    let under_way : 1 ≤ (job_at m.jobs o).left =
    subst (λ z. 1 ≤ (job_at m.jobs z).left) same keeps.under_way in
    let more = and_from _ _ ready (lit_lt (job_at m.jobs o).left under_way) in
    false≢true (sym k ∙ more)
  where
    lit_lt : (n : ℕ) → 1 ≤ n → nat_lt 0 n ≡ true
    lit_lt n h = grind (arith, nat_tests)

says_by : (sys : System) (m : Machine) (owner : Option ℕ) → m.owner ≡ owner
    → Says sys m (candidate_by sys m owner)
says_by sys m None e =
    says_first sys m (λ y k. none_some (sym e ∙ k.owner)) _
    (first_ready_is m.time m.jobs (length m.jobs))
says_by sys m (Some o) e =
    elim (cases_Bool (keeps_core sys.platform.switching m.time (job_at m.jobs o))) [
      | inl k ↦ rw k (the_owner (keeps sys m o e sys.platform.switching refl k))
      | inr k ↦
          rw k (says_first sys m (keeps_not sys m o e sys.platform.switching refl k) _
          (first_ready_is m.time m.jobs (length m.jobs)))
    ]

says : (sys : System) (m : Machine) (c : Option ℕ) → candidate sys m ≡ c → Says sys m c
unfolding candidate
says sys m c e = subst (Says sys m) e (says_by sys m m.owner refl)

from_candidate : (sys : System) (m : Machine) (x : ℕ) → IsCandidate sys m x → (c : Option ℕ)
    → candidate sys m ≡ c → candidate sys m ≡ Some x
from_candidate sys m x is None e = absurd (says sys m None e x (candidate_ready sys m x is))
from_candidate sys m x is (Some y) e =
    e ∙ ap Some (one_candidate_law sys m y x (says sys m (Some y) e) is)

pub candidate_law : CandidateLaw
candidate_law sys m x =
    (says sys m (Some x), λ is. from_candidate sys m x is (candidate sys m) refl)

none_from : (sys : System) (m : Machine) → ((x : ℕ) → IsReady m x → ⊥) → (c : Option ℕ)
    → candidate sys m ≡ c → candidate sys m ≡ None
none_from sys m unready None e = e
none_from sys m unready (Some y) e =
    absurd (unready y (candidate_ready sys m y (says sys m (Some y) e)))

pub no_candidate_law : NoCandidateLaw
no_candidate_law sys m =
    (says sys m None, λ unready. none_from sys m unready (candidate sys m) refl)

pub none_candidate : (sys : System) (m : Machine)
    → ((x : ℕ) → is_ready m.time (job_at m.jobs x) ≡ false) → candidate sys m ≡ None
none_candidate sys m none =
    (no_candidate_law sys m).1 (λ x r. false≢true (sym (none x) ∙ tests_ready m x r))
