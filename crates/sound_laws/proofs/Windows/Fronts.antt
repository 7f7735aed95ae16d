-- For step 7: the front of a window. If switches wait for the end of an instruction, the owner
-- before the window may finish one.
use Rattle.std.proofs.Common.{◌≡◌, ℕ, zero, suc, ◌+◌, ◌<◌, ◌≤◌, true, false, length, Option, Some}
use Rattle.std.proofs.Common.{None, refl, sym, ◌∙◌, ap, subst, inl, inr, arith}
use Rattle.std.specs.Prelude.{nat_lt, if◌then◌else◌}
use Rattle.std.proofs.lemmas.Bool.{cases_Bool, cases_eq, cases_lt, ltb-true, ltb-false, lt-ltb}
use Rattle.std.proofs.lemmas.Bool.{le-ltb, and_from}
use Rattle.std.proofs.lemmas.List.{get_or_past}
use Rattle.crpd_base.proofs.Options.{some_injective, none_some, same_or_not}
use Rattle.crpd_base.specs.declared.data.Switching.TheVariants.{Cycle, Instruction}
use Rattle.rv_decode.specs.declared.Ins.{Ins}
use Rattle.rv_core.specs.declared.Next.{Next}
use Rattle.rv_core.specs.declared.Next.TheVariants.{Goto, Answer, Fault}
use Rattle.rv_core.specs.Effect.{next_pc}
use Rattle.preempt_machine.specs.Machine.{System, Job, Machine, ins_at, job_at, no_job}
use Rattle.preempt_machine.specs.Step.{is_open, is_ready, candidate, keeps_core, Turn, turn_of}
use Rattle.preempt_machine.specs.Step.{turn_after_step, turn_after_execution, turn_after_cycle}
use Rattle.preempt_machine.specs.Step.{turn_after_effect, turn_after_fetch, Start, state}
use Rattle.preempt_machine.proofs.Steps.{between, new_owner, any_cycle, fetch_says, fetch_left}
use Rattle.preempt_machine.proofs.Steps.{candidate_some, ready_open, step_own, step_other}
use Rattle.preempt_machine.proofs.TurnLaws.{fetched_none, fetched_switch, went_switch}
use Rattle.run_account.specs.Fetches.{job_after}
use Rattle.run_account.proofs.Owners.{candidate_at, owns_same, owner_after, owner_was, was_released}
use Rattle.run_account.proofs.Owners.{ready_at}
use Rattle.run_account.proofs.Jobs.{new_at, jobs_length}
use Rattle.sound_laws.proofs.Windows.Responses.{HasShortFront, OwnerContinues}

-- if a switch may happen at every cycle there is no front
pub cycle_front : (s : Start) (x t most : ℕ) → s.system.platform.switching ≡ Cycle
    → HasShortFront s x t most
cycle_front s x t most e =
    record {
      from = t;
      short = omega arith;
      after = omega arith;
      owner = λ n f l. absurd (omega arith);
      no_fetch = λ n g a b e. absurd (omega arith);
      takes = λ n y f c. inl (any_cycle e);
    }

-- the cycles left of an open job's instruction
abbrev pub middle : Job → ℕ
middle job = if is_open job.standing then job.left else 0

middle_open : (job : Job) → 1 ≤ middle job → is_open job.standing ≡ true
middle_open job l = elim (cases_Bool (is_open job.standing)) [
  | inl o ↦ o
  | inr o ↦ absurd (omega (arith, rw o at l))
]

pub middle_left : (job : Job) → is_open job.standing ≡ true → middle job ≡ job.left
middle_left job o = rw o

pub middle_over : (job : Job) → is_open job.standing ≡ false → middle job ≡ 0
middle_over job o = rw o

-- a turn of an instruction leaves the switch cycles unchanged
worked_switch : (sys : System) (n : ℕ) (ins : Ins) (t : Turn)
    → (turn_after_cycle sys n ins t).switch_left ≡ t.switch_left
worked_switch sys n ins t =
    elim (cases_Bool (nat_lt 1 t.job.left)) [
      | inl b ↦ rw b
      | inr b ↦ rw b (went_switch sys n ins t (next_pc ins t.job.pc t.job.registers))
    ]

executed_switch : (sys : System) (n : ℕ) (t : Turn) (ins : Option Ins)
    → (turn_after_execution sys n t ins).switch_left ≡ t.switch_left
executed_switch sys n t None = refl
executed_switch sys n t (Some ins) =
    worked_switch sys n ins (turn_after_fetch sys ins t) ∙ fetched_switch sys ins t

-- in the middle of an instruction no switch cycle is left
turned_middle : (sys : System) (n : ℕ) (t : Turn) → (1 ≤ middle t.job → t.switch_left ≡ 0)
    → 1 ≤ middle (turn_after_step sys n t).job → (turn_after_step sys n t).switch_left ≡ 0
unfolding turn_after_step
turned_middle sys n t before m =
    elim (cases_Bool (nat_lt 0 t.switch_left)) [
      | inl b ↦ let l : 0 < t.switch_left =
          ltb-true _ _ b in let z = before (rw b at m) in absurd (omega (arith, z))
      | inr b ↦ let l : t.switch_left ≤ 0 =
          ltb-false _ _ b in rw b (executed_switch sys n t (ins_at sys t.job.pc) ∙ (omega arith))
    ]

-- a cycle in the middle of an instruction leaves one less
went_middle : (sys : System) (n : ℕ) (ins : Ins) (t : Turn) (next : Next)
    → middle (turn_after_effect sys n ins t next).job ≡ 0
went_middle sys n ins t (Goto to) =
    elim (cases_Bool (is_open (turn_after_effect sys n ins t (Goto to)).job.standing)) [
      | inl o ↦ middle_left (turn_after_effect sys n ins t (Goto to)).job o
      | inr o ↦ middle_over (turn_after_effect sys n ins t (Goto to)).job o
    ]
went_middle sys n ins t Answer = refl
went_middle sys n ins t Fault = refl

worked_middle : (sys : System) (n : ℕ) (ins : Ins) (t : Turn) → is_open t.job.standing ≡ true
    → 1 ≤ t.job.left → middle (turn_after_cycle sys n ins t).job + 1 ≤ t.job.left
worked_middle sys n ins t o l =
    elim (cases_Bool (nat_lt 1 t.job.left)) [
      | inl b ↦ let less : 1 < t.job.left = ltb-true _ _ b in rw (b, o) (omega arith)
      | inr b ↦
          rw b (omega (arith, l, went_middle sys n ins t (next_pc ins t.job.pc t.job.registers)))
    ]

executed_middle : (sys : System) (n : ℕ) (t : Turn) (ins : Option Ins)
    → is_open t.job.standing ≡ true → 1 ≤ t.job.left
    → middle (turn_after_execution sys n t ins).job + 1 ≤ t.job.left
executed_middle sys n t None o l = omega arith
executed_middle sys n t (Some ins) o l =
    rw (fetched_none sys ins t (λ z. omega arith)) (worked_middle sys n ins t o l)

turned_less : (sys : System) (n : ℕ) (t : Turn) → t.switch_left ≡ 0 → is_open t.job.standing ≡ true
    → 1 ≤ t.job.left → middle (turn_after_step sys n t).job + 1 ≤ t.job.left
unfolding turn_after_step
turned_less sys n t z o l =
    let b : nat_lt 0 t.switch_left ≡ false = le-ltb 0 t.switch_left (omega arith) in
    rw b (executed_middle sys n t (ins_at sys t.job.pc) o l)

-- the owner keeps the core in the middle of an instruction
keeps_candidate : (sys : System) (m : Machine) (o : ℕ) → sys.platform.switching ≡ Instruction
    → m.owner ≡ Some o → is_ready m.time (job_at m.jobs o) ≡ true → 1 ≤ (job_at m.jobs o).left
    → candidate sys m ≡ Some o
unfolding candidate
keeps_candidate sys m o e own r l =
    let k : keeps_core sys.platform.switching m.time (job_at m.jobs o) ≡ true =
    rw e (and_from _ _ r (lt-ltb 0 _ l)) in
    rw (own, k) refl

-- at the start no instruction is under way
middle_start : (s : Start) (x : ℕ) → 1 ≤ middle (job_after s 0 x) → ⊥
middle_start s x l =
    elim (cases_lt x (length s.lines)) [
      | inl h ↦ let z = ap (λ (j : Job). middle j) (new_at s x h) in omega (arith, l, z)
      | inr g ↦ let z =
          ap (λ (j : Job). middle j)
          (get_or_past (state s 0).jobs x no_job (omega (arith, jobs_length s 0))) in
          omega (arith, l, z)
    ]

module _ (s : Start) (mode : s.system.platform.switching ≡ Instruction) where
  -- a job in the middle of an instruction is the owner, with no switch cycle left
  record IsMid (n x : ℕ) : Type 0 where
    owner : (state s n).owner ≡ Some x
    no_switch : (state s n).switch_left ≡ 0

  mid_candidate : (n x : ℕ) → IsMid n x → 1 ≤ middle (job_after s n x) → candidate_at s n ≡ Some x
  mid_candidate n x mid l =
      let o = middle_open (job_after s n x) l in
      let r : (job_after s 0 x).line.release ≤ n =
      omega (arith, was_released s n x (owner_was s n x mid.owner)) in
      keeps_candidate s.system (state s n) x mode mid.owner (ready_at s n x o r)
      (omega (arith, l, middle_left (job_after s n x) o))

  mid_step : (n x : ℕ) → (1 ≤ middle (job_after s n x) → IsMid n x)
      → 1 ≤ middle (job_after s (suc n) x) → IsMid (suc n) x
  mid_step n x before l =
      elim (same_or_not (candidate_at s n) (Some x)) [
        | inl e ↦
            let own = step_own s.system (state s n) x e in
            let l' : 1
            ≤ middle
            (turn_after_step s.system (state s n).time (turn_of s.system (state s n) x)).job =
            subst (λ (j : Job). 1 ≤ middle j) own l in
            let left : (state s (suc n)).switch_left
            ≡ (turn_after_step s.system (state s n).time
            (turn_of s.system (state s n) x)).switch_left = rw e refl in
            let zero_left = turned_middle s.system (state s n).time (turn_of s.system (state s n) x)
            (λ m. let mid = before m in rw (mid.owner, owns_same x) mid.no_switch) l' in
            record { owner = owner_after s n x e; no_switch = left ∙ zero_left }
        | inr ne ↦
            let same = step_other s.system (state s n) x ne in
            let l' : 1 ≤ middle (job_after s n x) = subst (λ (j : Job). 1 ≤ middle j) same l in
            absurd (ne (mid_candidate n x (before l') l'))
      ]

  mid : (n x : ℕ) → 1 ≤ middle (job_after s n x) → IsMid n x
  mid zero x l = absurd (middle_start s x l)
  mid (suc n) x l = mid_step n x (mid n x) l

  -- the front from step n on: the owner finishes its instruction
  record IsFront (n most : ℕ) : Type 0 where
    from : ℕ
    after : n ≤ from
    short : from ≤ n + most
    each : (k : ℕ) → n ≤ k → k < from → OwnerContinues s n k
    done : (o : ℕ) → (state s from).owner ≡ Some o → middle (job_after s from o) ≡ 0

  no_front : (n most : ℕ) → ((o : ℕ) → (state s n).owner ≡ Some o → middle (job_after s n o) ≡ 0)
      → IsFront n most
  no_front n most d = record {
    from = n;
    after = omega arith;
    short = omega arith;
    each = λ k f l. absurd (omega arith);
    done = d;
  }

  mid_less : (n o : ℕ) → 1 ≤ middle (job_after s n o)
      → middle (job_after s (suc n) o) + 1 ≤ middle (job_after s n o)
  mid_less n o l =
      let m = mid n o l in
      let e = mid_candidate n o m l in
      let opened = middle_open (job_after s n o) l in
      let is = middle_left (job_after s n o) opened in
      let less = turned_less s.system (state s n).time (turn_of s.system (state s n) o)
      (rw (m.owner, owns_same o) m.no_switch) opened (omega (arith, l, is)) in
      let own = ap middle (step_own s.system (state s n) o e) in
      omega (arith, less, own, is)

  abbrev HasAtMost : ℕ → ℕ → Type 0
  HasAtMost n most = (o : ℕ) → (state s n).owner ≡ Some o → middle (job_after s n o) ≤ most

  continues : (n o : ℕ) → (state s n).owner ≡ Some o → candidate_at s n ≡ Some o
      → 1 ≤ middle (job_after s n o) → OwnerContinues s n n
  continues n o e c l =
      let is = middle_left (job_after s n o) (middle_open (job_after s n o) l) in
      record { job = o; is_candidate = c; owner = e; under_way = omega (arith, l, is) }

  longer : (n most o : ℕ) → (state s n).owner ≡ Some o → 1 ≤ middle (job_after s n o)
      → IsFront (suc n) most → IsFront n (suc most)
  longer n most o e l rest =
      let c = mid_candidate n o (mid n o l) l in
      record {
        from = rest.from;
        after = omega (arith, rest.after);
        short = omega (arith, rest.short);
        each = λ k f b. elim (cases_eq k n) [
          | inl at ↦ subst (λ m. OwnerContinues s n m) (sym at) (continues n o e c l)
          | inr past ↦
              let on = rest.each k (omega arith) b in record {
                job = on.job;
                is_candidate = on.is_candidate;
                owner = e ∙ sym (owner_after s n o c) ∙ on.owner;
                under_way = on.under_way;
              }
        ];
        done = rest.done;
      }

  front_by : (most n : ℕ) (c : Option ℕ) → (state s n).owner ≡ c → HasAtMost n (suc most)
      → (HasAtMost (suc n) most → IsFront (suc n) most) → IsFront n (suc most)
  front_by most n None e h rest = no_front n (suc most) (λ o q. absurd (none_some (sym e ∙ q)))
  front_by most n (Some o) e h rest =
      elim (cases_lt 0 (middle (job_after s n o))) [
        | inl l ↦
            let c = mid_candidate n o (mid n o l) l in
            longer n most o e l (rest (λ p q.
            let same : o ≡ p = some_injective (sym (owner_after s n o c) ∙ q) in
            let less = mid_less n o l in
            let m = h o e in
            subst (λ k. middle (job_after s (suc n) k) ≤ most) same (omega (arith, less, m))))
        | inr g ↦
            no_front n (suc most) (λ p q. let same : o ≡ p = some_injective (sym e ∙ q) in
            subst (λ k. middle (job_after s n k) ≡ 0) same (omega arith))
      ]

  front_at : (most n : ℕ) → HasAtMost n most → IsFront n most
  front_at zero n h = no_front n 0 (λ o e. let m = h o e in omega arith)
  front_at (suc most) n h = front_by most n (state s n).owner refl h (λ k. front_at most (suc n) k)

  -- the front of a window, if the owner has at most `most` cycles left of its instruction
  pub instruction_front : (x t most : ℕ)
      → ((o : ℕ) → (state s t).owner ≡ Some o → middle (job_after s t o) ≤ most)
      → HasShortFront s x t most
  instruction_front x t most h =
      let f = front_at most t h in
      record {
        from = f.from;
        short = f.short;
        after = f.after;
        owner = f.each;
        no_fetch = λ n g a b e.
            let says = fetch_says s.system (state s n) g e in
            let on = f.each n a b in
            let same : on.job ≡ g.job = some_injective (sym on.is_candidate ∙ says.by) in
            let left : 1 ≤ (job_after s n g.job).left =
            subst (λ z. 1 ≤ (job_after s n z).left) same on.under_way in
            let zero_left = fetch_left s.system (state s n) g says in
            absurd (omega (arith, left, zero_left));
        takes = λ n y g c. elim (same_or_not (state s n).owner (Some y)) [
          | inr ne ↦ inl (new_owner ne)
          | inl own ↦ elim (cases_eq f.from n) [
            | inl at ↦
                let opened = ready_open (state s n).time (job_after s n y)
                (candidate_some s.system (state s n) y c).ready in
                let z : middle (job_after s n y) ≡ 0 =
                subst (λ k. (state s k).owner ≡ Some y → middle (job_after s k y) ≡ 0) at
                (f.done y) own in
                inl (between (sym (middle_left (job_after s n y) opened) ∙ z))
            | inr past ↦ inr (omega arith, own)
          ]
        ];
      }
