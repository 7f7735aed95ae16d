-- What a step does: its candidate, the jobs, the cache, and the fetch.
use Rattle.std.proofs.Common.{◌≡◌, ℕ, suc, ◌<◌, ◌≤◌, ◌≢◌, ◌⊎◌, Bool, true, false, ◌&&◌, List}
use Rattle.std.proofs.Common.{length, Option, Some, None, refl, sym, ◌∙◌, ap, subst, inl, inr}
use Rattle.std.proofs.Common.{arith, get_or-set_same, get_or-set_other, length-set}
use Rattle.std.specs.Prelude.{is_some, ◌==◌, nat_lt, if◌then◌else◌}
use Rattle.std.proofs.lemmas.Bool.{cases_Bool, cases_lt, cases_eq, false≢true, and_parts, eqb-true}
use Rattle.std.proofs.lemmas.Bool.{leb-true}
use Rattle.std.proofs.lemmas.Bool.Decides.{nat_tests}
use Rattle.std.proofs.lemmas.List.{get_or_past}
use Rattle.crpd_base.proofs.Options.{some_injective, none_some}
use Rattle.crpd_base.specs.declared.data.Switching.{Switching}
use Rattle.crpd_base.specs.declared.data.Switching.TheVariants.{Cycle, Instruction}
use Rattle.rv_decode.specs.declared.Ins.{Ins}
use Rattle.rv_core.specs.declared.Next.{Next}
use Rattle.rv_core.specs.declared.Next.TheVariants.{Goto, Answer, Fault}
use Rattle.rv_core.specs.Effect.{next_pc}
use Rattle.icache.specs.Cache.{cache_after_access, block_of}
use Rattle.preempt_machine.specs.Machine.{System, Job, Machine, ins_at, job_at, no_job}
use Rattle.preempt_machine.specs.Step.{is_open, is_ready, before, keeps_core, candidate}
use Rattle.preempt_machine.specs.Step.{candidate_by, Turn, turn_of, turn_after_step}
use Rattle.preempt_machine.specs.Step.{turn_after_execution, turn_after_cycle, turn_after_effect}
use Rattle.preempt_machine.specs.Step.{turn_after_fetch, step, step_by, makes_fetch, Fetch, fetch}
use Rattle.preempt_machine.specs.Step.{fetch_by}
use Rattle.preempt_machine.proofs.Order.{IsBest, first_ready_is}

pub ready_open : (time : ℕ) (job : Job) → is_ready time job ≡ true → is_open job.standing ≡ true
unfolding is_ready
ready_open time job r = (and_parts _ _ r).0

pub ready_released : (time : ℕ) (job : Job) → is_ready time job ≡ true → job.line.release ≤ time
unfolding is_ready
ready_released time job r = leb-true _ _ (and_parts _ _ r).1

pub ready_from : (time : ℕ) (job : Job) → is_open job.standing ≡ true → job.line.release ≤ time
    → is_ready time job ≡ true
unfolding is_ready
ready_from time job o r = grind (arith, nat_tests)

pub past_is_not_open : (jobs : List Job) (i : ℕ) → length jobs ≤ i
    → is_open (job_at jobs i).standing ≡ false
past_is_not_open jobs i h = rw (get_or_past jobs i no_job h) refl

pub open_is_below : (jobs : List Job) (i : ℕ) → is_open (job_at jobs i).standing ≡ true
    → i < length jobs
open_is_below jobs i o = elim (cases_lt i (length jobs)) [
  | inl l ↦ l
  | inr g ↦ absurd (false≢true (sym (past_is_not_open jobs i g) ∙ o))
]

-- why a candidate comes before all other ready jobs: it is between instructions, or it is not the
-- owner yet, or a switch may happen at every cycle
pub data WhyFirst (sys : System) (m : Machine) (i : ℕ) : Type 0 where
  between : (job_at m.jobs i).left ≡ 0 → WhyFirst sys m i
  new_owner : m.owner ≢ Some i → WhyFirst sys m i
  any_cycle : sys.platform.switching ≡ Cycle → WhyFirst sys m i

-- what proofs use of a candidate: it is a ready job, and given such a reason the first one
pub record CandidateFacts (sys : System) (m : Machine) (i : ℕ) : Type 0 where
  pub below : i < length m.jobs
  pub ready : is_ready m.time (job_at m.jobs i) ≡ true
  pub first : WhyFirst sys m i → (j : ℕ) → is_ready m.time (job_at m.jobs j) ≡ true
      → (j ≡ i) ⊎ (before m.jobs i j ≡ true)

abbrev pub SaysCandidate : System → Machine → Option ℕ → Type 0
SaysCandidate sys m None = (j : ℕ) → is_ready m.time (job_at m.jobs j) ≡ false
SaysCandidate sys m (Some i) = CandidateFacts sys m i

first_says : (sys : System) (m : Machine) (best : Option ℕ)
    → IsBest m.time m.jobs (length m.jobs) best → SaysCandidate sys m best
first_says sys m None h = λ j. elim (cases_Bool (is_ready m.time (job_at m.jobs j))) [
  | inl r ↦
      absurd (false≢true (sym (h j (open_is_below m.jobs j (ready_open m.time (job_at m.jobs j) r)))
      ∙ r))
  | inr r ↦ r
]
first_says sys m (Some i) h = record {
  below = h.below;
  ready = h.ready;
  first = λ l j r. h.first j (open_is_below m.jobs j (ready_open m.time (job_at m.jobs j) r)) r;
}

keeps_why : (sys : System) (m : Machine) (o : ℕ) → m.owner ≡ Some o → (s : Switching)
    → sys.platform.switching ≡ s → keeps_core s m.time (job_at m.jobs o) ≡ true
    → WhyFirst sys m o → ⊥
keeps_why sys m o e Cycle q k why = false≢true k
keeps_why sys m o e Instruction q k (between l) =
    false≢true (ap (λ n. nat_lt 0 n) (sym l) ∙ (and_parts _ _ k).1)
keeps_why sys m o e Instruction q k (new_owner ne) = ne e
keeps_why sys m o e Instruction q k (any_cycle c) = cc

pub keeps_ready : (s : Switching) (time : ℕ) (job : Job) → keeps_core s time job ≡ true
    → is_ready time job ≡ true
keeps_ready Cycle time job k = absurd (false≢true k)
keeps_ready Instruction time job k = (and_parts _ _ k).0

keeps_says : (sys : System) (m : Machine) (o : ℕ) → m.owner ≡ Some o
    → keeps_core sys.platform.switching m.time (job_at m.jobs o) ≡ true → CandidateFacts sys m o
keeps_says sys m o e k =
    let ready = keeps_ready sys.platform.switching m.time (job_at m.jobs o) k in
    record {
      below = open_is_below m.jobs o (ready_open m.time (job_at m.jobs o) ready);
      ready = ready;
      first = λ why j r. absurd (keeps_why sys m o e sys.platform.switching refl k why);
    }

candidate_by_says : (sys : System) (m : Machine) (owner : Option ℕ) → m.owner ≡ owner
    → SaysCandidate sys m (candidate_by sys m owner)
candidate_by_says sys m None e = first_says sys m _ (first_ready_is m.time m.jobs (length m.jobs))
candidate_by_says sys m (Some o) e =
    elim (cases_Bool (keeps_core sys.platform.switching m.time (job_at m.jobs o))) [
      | inl k ↦ rw k (keeps_says sys m o e k)
      | inr k ↦ rw k (first_says sys m _ (first_ready_is m.time m.jobs (length m.jobs)))
    ]

pub candidate_says : (sys : System) (m : Machine) → SaysCandidate sys m (candidate sys m)
unfolding candidate
candidate_says sys m = candidate_by_says sys m m.owner refl

pub candidate_some : (sys : System) (m : Machine) (i : ℕ) → candidate sys m ≡ Some i
    → CandidateFacts sys m i
candidate_some sys m i e = subst (λ c. SaysCandidate sys m c) e (candidate_says sys m)

pub candidate_none : (sys : System) (m : Machine) → candidate sys m ≡ None → (j : ℕ)
    → is_ready m.time (job_at m.jobs j) ≡ false
candidate_none sys m e = subst (λ c. SaysCandidate sys m c) e (candidate_says sys m)

-- a turn keeps the job's line of the script
went_line : (sys : System) (n : ℕ) (ins : Ins) (t : Turn) (next : Next)
    → (turn_after_effect sys n ins t next).job.line ≡ t.job.line
went_line sys n ins t (Goto to) = refl
went_line sys n ins t Answer = refl
went_line sys n ins t Fault = refl

worked_line : (sys : System) (n : ℕ) (ins : Ins) (t : Turn)
    → (turn_after_cycle sys n ins t).job.line ≡ t.job.line
worked_line sys n ins t =
    elim (cases_Bool (nat_lt 1 t.job.left)) [
      | inl b ↦ rw b
      | inr b ↦ rw b (went_line sys n ins t (next_pc ins t.job.pc t.job.registers))
    ]

fetched_line : (sys : System) (ins : Ins) (t : Turn)
    → (turn_after_fetch sys ins t).job.line ≡ t.job.line
fetched_line sys ins t = elim (cases_Bool (t.job.left == 0)) [ inl b ↦ rw b | inr b ↦ rw b ]

pub executed_line : (sys : System) (n : ℕ) (t : Turn) (ins : Option Ins)
    → (turn_after_execution sys n t ins).job.line ≡ t.job.line
executed_line sys n t None = refl
executed_line sys n t (Some ins) =
    worked_line sys n ins (turn_after_fetch sys ins t) ∙ fetched_line sys ins t

pub turned_line : (sys : System) (n : ℕ) (t : Turn)
    → (turn_after_step sys n t).job.line ≡ t.job.line
unfolding turn_after_step
turned_line sys n t =
    elim (cases_Bool (nat_lt 0 t.switch_left)) [
      | inl b ↦ rw b
      | inr b ↦ rw b (executed_line sys n t (ins_at sys t.job.pc))
    ]

-- a turn accesses the cache if it makes a fetch, and not otherwise
went_cache : (sys : System) (n : ℕ) (ins : Ins) (t : Turn) (next : Next)
    → (turn_after_effect sys n ins t next).cache ≡ t.cache
went_cache sys n ins t (Goto to) = refl
went_cache sys n ins t Answer = refl
went_cache sys n ins t Fault = refl

worked_cache : (sys : System) (n : ℕ) (ins : Ins) (t : Turn)
    → (turn_after_cycle sys n ins t).cache ≡ t.cache
worked_cache sys n ins t =
    elim (cases_Bool (nat_lt 1 t.job.left)) [
      | inl b ↦ rw b
      | inr b ↦ rw b (went_cache sys n ins t (next_pc ins t.job.pc t.job.registers))
    ]

abbrev pub cache_after : System → Turn → Bool → List (Option ℕ)
cache_after sys t fetches =
    if fetches then cache_after_access sys.platform t.cache (block_of sys.platform t.job.pc)
    else t.cache

fetched_cache : (sys : System) (ins : Ins) (t : Turn)
    → (turn_after_fetch sys ins t).cache ≡ cache_after sys t (t.job.left == 0)
fetched_cache sys ins t = elim (cases_Bool (t.job.left == 0)) [ inl b ↦ rw b | inr b ↦ rw b ]

executed_cache : (sys : System) (n : ℕ) (t : Turn) (ins : Option Ins)
    → (turn_after_execution sys n t ins).cache
    ≡ cache_after sys t ((t.job.left == 0) && is_some ins)
executed_cache sys n t None = elim (cases_Bool (t.job.left == 0)) [ inl b ↦ rw b | inr b ↦ rw b ]
executed_cache sys n t (Some ins) =
    worked_cache sys n ins (turn_after_fetch sys ins t) ∙ fetched_cache sys ins t
    ∙ (elim (cases_Bool (t.job.left == 0)) [ inl b ↦ rw b | inr b ↦ rw b ])

pub turned_cache : (sys : System) (n : ℕ) (t : Turn)
    → (turn_after_step sys n t).cache ≡ cache_after sys t (makes_fetch sys t)
unfolding turn_after_step
turned_cache sys n t =
    elim (cases_Bool (nat_lt 0 t.switch_left)) [
      | inl b ↦ let z : (t.switch_left == 0) ≡ false = grind (arith, nat_tests) in rw (b, z)
      | inr b ↦ let z : (t.switch_left == 0) ≡ true =
          grind (arith, nat_tests) in rw (b, z) (executed_cache sys n t (ins_at sys t.job.pc))
    ]

-- what a step leaves unchanged, and its time
pub step_time : (sys : System) (m : Machine) → (step sys m).time ≡ suc m.time
step_time sys m = go (candidate sys m) where
  go : (c : Option ℕ) → (step_by sys m c).time ≡ suc m.time
  go None = refl
  go (Some i) = refl

-- a job that is not the candidate stays as it is
others_by : (sys : System) (m : Machine) (c : Option ℕ) (j : ℕ) → c ≢ Some j
    → job_at (step_by sys m c).jobs j ≡ job_at m.jobs j
others_by sys m None j ne = refl
others_by sys m (Some i) j ne = get_or-set_other m.jobs i j _ no_job (λ e. ne (ap Some (sym e)))

pub step_other : (sys : System) (m : Machine) (j : ℕ) → candidate sys m ≢ Some j
    → job_at (step sys m).jobs j ≡ job_at m.jobs j
step_other sys m j ne = others_by sys m (candidate sys m) j ne

-- the candidate's job is what its turn leaves
pub step_own : (sys : System) (m : Machine) (i : ℕ) → candidate sys m ≡ Some i
    → job_at (step sys m).jobs i ≡ (turn_after_step sys m.time (turn_of sys m i)).job
step_own sys m i e = rw e (get_or-set_same m.jobs i _ no_job (candidate_some sys m i e).below)

-- a job that is not open stays as it is
pub step_over : (sys : System) (m : Machine) (j : ℕ) → is_open (job_at m.jobs j).standing ≡ false
    → job_at (step sys m).jobs j ≡ job_at m.jobs j
step_over sys m j o =
    step_other sys m j (λ e.
    false≢true (sym o ∙ ready_open m.time (job_at m.jobs j) (candidate_some sys m j e).ready))

length_by : (sys : System) (m : Machine) (c : Option ℕ)
    → length (step_by sys m c).jobs ≡ length m.jobs
length_by sys m None = refl
length_by sys m (Some i) = length-set m.jobs i _

pub step_length : (sys : System) (m : Machine) → length (step sys m).jobs ≡ length m.jobs
step_length sys m = length_by sys m (candidate sys m)

line_by : (sys : System) (m : Machine) (c : Option ℕ) → candidate sys m ≡ c → (j : ℕ)
    → (job_at (step_by sys m c).jobs j).line ≡ (job_at m.jobs j).line
line_by sys m None e j = refl
line_by sys m (Some i) e j =
    elim (cases_eq j i) [
      | inl same ↦
          rw same (ap (λ (x : Job). x.line)
          (get_or-set_same m.jobs i _ no_job (candidate_some sys m i e).below)
          ∙ turned_line sys m.time (turn_of sys m i))
      | inr ne ↦ ap (λ (x : Job). x.line) (get_or-set_other m.jobs i j _ no_job ne)
    ]

pub step_line : (sys : System) (m : Machine) (j : ℕ)
    → (job_at (step sys m).jobs j).line ≡ (job_at m.jobs j).line
step_line sys m j = line_by sys m (candidate sys m) refl j

-- what a fetch means: it is the candidate's, at its pc, with no switch cycle left and no
-- instruction under way
pub record IsFetchOf (sys : System) (m : Machine) (f : Fetch) : Type 0 where
  pub by : candidate sys m ≡ Some f.job
  pub at : f.address ≡ (job_at m.jobs f.job).pc
  pub makes : makes_fetch sys (turn_of sys m f.job) ≡ true

fetch_by_says : (sys : System) (m : Machine) (c : Option ℕ) → candidate sys m ≡ c → (f : Fetch)
    → fetch_by sys m c ≡ Some f → IsFetchOf sys m f
fetch_by_says sys m None e f h = cc
fetch_by_says sys m (Some i) e f h =
    elim (cases_Bool (makes_fetch sys (turn_of sys m i))) [
      | inl b ↦
          let is : record { job = i; address = (job_at m.jobs i).pc } ≡ f =
          some_injective (rw b at h) in
          subst (λ (g : Fetch). IsFetchOf sys m g) is (record { by = e; at = refl; makes = b })
      | inr b ↦ absurd (none_some (rw b at h))
    ]

pub fetch_says : (sys : System) (m : Machine) (f : Fetch) → fetch sys m ≡ Some f → IsFetchOf sys m f
fetch_says sys m f h = fetch_by_says sys m (candidate sys m) refl f h

pub fetch_left : (sys : System) (m : Machine) (f : Fetch) → IsFetchOf sys m f
    → (job_at m.jobs f.job).left ≡ 0
fetch_left sys m f h = eqb-true _ _ (and_parts _ _ (and_parts _ _ h.makes).0).1

-- a step that makes no fetch leaves the cache unchanged, and one that makes one accesses it
no_fetch_by : (sys : System) (m : Machine) (c : Option ℕ) → fetch_by sys m c ≡ None
    → (step_by sys m c).cache ≡ m.cache
no_fetch_by sys m None h = refl
no_fetch_by sys m (Some i) h =
    elim (cases_Bool (makes_fetch sys (turn_of sys m i))) [
      | inl b ↦ absurd (none_some (sym (rw b at h)))
      | inr b ↦ turned_cache sys m.time (turn_of sys m i) ∙ rw b
    ]

pub no_fetch_cache : (sys : System) (m : Machine) → fetch sys m ≡ None
    → (step sys m).cache ≡ m.cache
no_fetch_cache sys m h = no_fetch_by sys m (candidate sys m) h

pub fetch_cache : (sys : System) (m : Machine) (f : Fetch) → fetch sys m ≡ Some f
    → (step sys m).cache ≡ cache_after_access sys.platform m.cache (block_of sys.platform f.address)
fetch_cache sys m f h =
    let says = fetch_says sys m f h in
    rw (says.by, says.at) (turned_cache sys m.time (turn_of sys m f.job) ∙ rw says.makes)
