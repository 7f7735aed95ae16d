-- What a turn of a job does.
use Rattle.std.proofs.Common.{◌≡◌, ℕ, ◌+◌, ◌-◌, ◌<◌, ◌≤◌, ◌≢◌, Bool, true, false, not, Some, refl}
use Rattle.std.proofs.Common.{◌∙◌, ap, inl, inr, arith, ◌==◌, ◌&&◌, nat_lt, if◌then◌else◌}
use Rattle.std.proofs.lemmas.Bool.{cases_Bool, cases_eq, false≢true, ne_eqb, eq-eqb, ltb-true}
use Rattle.std.proofs.lemmas.Bool.{ltb-false, lt-ltb}
use Rattle.crpd_base.specs.declared.data.Platform.{Platform}
use Rattle.rv_decode.specs.declared.Ins.{Ins}
use Rattle.rv_decode.specs.Cost.{cost}
use Rattle.rv_core.specs.declared.Next.{Next}
use Rattle.rv_core.specs.declared.Next.TheVariants.{Goto, Answer, Fault}
use Rattle.rv_core.specs.Effect.{next_pc}
use Rattle.icache.specs.Cache.{block_of, cache_after_access, is_hit}
use Rattle.preempt_machine.specs.Machine.{System, Standing, Open, Answered, Faulted, Job, ins_at}
use Rattle.preempt_machine.specs.Step.{is_open, Turn, turn_after_step, turn_after_cycle}
use Rattle.preempt_machine.specs.Step.{turn_after_effect, turn_after_fetch, fetch_cost}
use Rattle.preempt_machine.specs.Step.{goes_to_next}

pub not_faulted : (st : Standing) → is_open st ≡ true → st ≢ Faulted
not_faulted Open h q = cc
not_faulted (Answered t) h q = absurd (false≢true h)
not_faulted Faulted h q = absurd (false≢true h)

pub cost_miss : (p : Platform) (ins : Ins) (b t : Bool) → cost p ins b t ≤ cost p ins true t
cost_miss p ins true t = omega arith
cost_miss p ins false t = omega arith

pub cost_hit : (p : Platform) (ins : Ins) (b t : Bool) → 1 ≤ p.hit → 1 ≤ cost p ins b t
cost_hit p ins b t h = omega arith

-- the turn with its instruction fetched
abbrev pub with_fetch : System → Ins → Turn → Turn
with_fetch sys ins t =
    record t {
      cache = cache_after_access sys.platform t.cache (block_of sys.platform t.job.pc);
      job = record t.job { left = fetch_cost sys ins t };
    }

pub fetched_new : (sys : System) (ins : Ins) (t : Turn) → t.job.left ≡ 0
    → turn_after_fetch sys ins t ≡ with_fetch sys ins t
fetched_new sys ins t l = rw (eq-eqb _ _ l)

pub fetched_none : (sys : System) (ins : Ins) (t : Turn) → t.job.left ≢ 0
    → turn_after_fetch sys ins t ≡ t
fetched_none sys ins t ne = rw (ne_eqb _ _ ne)

-- a fetch leaves the switch cycles, the standing and the watch
pub fetched_switch : (sys : System) (ins : Ins) (t : Turn)
    → (turn_after_fetch sys ins t).switch_left ≡ t.switch_left
fetched_switch sys ins t = elim (cases_Bool (t.job.left == 0)) [ inl b ↦ rw b | inr b ↦ rw b ]

pub fetched_standing : (sys : System) (ins : Ins) (t : Turn)
    → (turn_after_fetch sys ins t).job.standing ≡ t.job.standing
fetched_standing sys ins t = elim (cases_Bool (t.job.left == 0)) [ inl b ↦ rw b | inr b ↦ rw b ]

pub fetched_watch : (sys : System) (ins : Ins) (t : Turn)
    → (turn_after_fetch sys ins t).job.watch ≡ t.job.watch
fetched_watch sys ins t = elim (cases_Bool (t.job.left == 0)) [ inl b ↦ rw b | inr b ↦ rw b ]

-- a miss costs what a hit costs, and the reload
cost_of_miss : (p : Platform) (ins : Ins) (t : Bool)
    → cost p ins true t ≡ cost p ins false t + p.miss
cost_of_miss p ins t = omega arith

-- the cost of a fetch is at most as counted, plus a reload if a word counted as a hit misses
pub cost_counted : (p : Platform) (ins : Ins) (counted hits t : Bool)
    → cost p ins (not hits) t
    ≤ cost p ins (not counted) t + (if counted && not hits then p.miss else 0)
cost_counted p ins true true t = omega arith
cost_counted p ins true false t = omega (arith, cost_of_miss p ins t)
cost_counted p ins false hits t = omega (arith, cost_miss p ins (not hits) t)

pub cost_taken : (p : Platform) (ins : Ins) (b t : Bool) → cost p ins b t ≤ cost p ins b true
cost_taken p ins b true = omega arith
cost_taken p ins b false = omega arith

-- the cycles of the instruction that a turn works on
abbrev pub begun : System → Ins → Turn → ℕ
begun sys ins t = if t.job.left == 0 then fetch_cost sys ins t else t.job.left

pub begun_pos : (sys : System) (ins : Ins) (t : Turn) → 1 ≤ sys.platform.hit → 1 ≤ begun sys ins t
begun_pos sys ins t hit =
    elim (cases_eq t.job.left 0) [
      | inl l ↦
          let c = cost_hit sys.platform ins
          (not (is_hit sys.platform t.cache (block_of sys.platform t.job.pc)))
          (not (goes_to_next (next_pc ins t.job.pc t.job.registers) t.job.pc)) hit in
          rw (eq-eqb _ _ l) c
      | inr ne ↦ rw (ne_eqb _ _ ne) (omega arith)
    ]

-- a turn uses a switch cycle, or a cycle of the instruction, with the last of which the instruction
-- has its effect
pub data TurnOf (sys : System) (n : ℕ) (t : Turn) (ins : Ins) : Type 0 where
  switches : 0 < t.switch_left → turn_after_step sys n t ≡ record t {
    switch_left = t.switch_left - 1;
  } → TurnOf sys n t ins
  works : (k : ℕ) → t.switch_left ≡ 0 → 1 ≤ k → k + 1 ≡ begun sys ins t
      → (turn_after_step sys n t).job ≡ record t.job { left = k }
      → (turn_after_step sys n t).switch_left ≡ 0 → TurnOf sys n t ins
  goes : t.switch_left ≡ 0 → begun sys ins t ≡ 1
      → (turn_after_step sys n t).job
      ≡ (turn_after_effect sys n ins t (next_pc ins t.job.pc t.job.registers)).job
      → (turn_after_step sys n t).switch_left ≡ 0 → TurnOf sys n t ins

-- the effect does not depend on the cycles that were left
went_job : (sys : System) (n : ℕ) (ins : Ins) (t : Turn) (next : Next)
    → (turn_after_effect sys n ins (with_fetch sys ins t) next).job
    ≡ (turn_after_effect sys n ins t next).job
went_job sys n ins t (Goto to) = refl
went_job sys n ins t Answer = refl
went_job sys n ins t Fault = refl

pub went_switch : (sys : System) (n : ℕ) (ins : Ins) (t : Turn) (next : Next)
    → (turn_after_effect sys n ins t next).switch_left ≡ t.switch_left
went_switch sys n ins t (Goto to) = refl
went_switch sys n ins t Answer = refl
went_switch sys n ins t Fault = refl

module _ (sys : System) (n : ℕ) (ins : Ins) where
  -- a turn of an instruction with more than one cycle left
  worked_more : (t : Turn) → 1 < t.job.left → turn_after_cycle sys n ins t ≡ record t {
    job = record t.job { left = t.job.left - 1 };
  }
  worked_more t l = let b : nat_lt 1 t.job.left ≡ true = lt-ltb 1 t.job.left l in rw b

  worked_last : (t : Turn) → t.job.left ≡ 1
      → turn_after_cycle sys n ins t
      ≡ turn_after_effect sys n ins t (next_pc ins t.job.pc t.job.registers)
  worked_last t l = rw l

  by_worked : (t before : Turn) → t.switch_left ≡ 0 → 1 ≤ t.job.left
      → begun sys ins before ≡ t.job.left → before.switch_left ≡ 0
      → turn_after_step sys n before ≡ turn_after_cycle sys n ins t
      → record t.job { left = 0 } ≡ record before.job { left = 0 }
      → ((next : Next) → (turn_after_effect sys n ins t next).job
      ≡ (turn_after_effect sys n ins before next).job) → t.job.pc ≡ before.job.pc
      → t.job.registers ≡ before.job.registers → TurnOf sys n before ins
  by_worked t before z pos is zb turn same goes_same pc regs =
      elim (cases_eq t.job.left 1) [
        | inl one ↦
            let w = turn ∙ worked_last t one in
            goes zb (is ∙ one)
            (ap (λ (x : Turn). x.job) w ∙ goes_same (next_pc ins t.job.pc t.job.registers)
            ∙ ap (λ x. (turn_after_effect sys n ins before (next_pc ins x t.job.registers)).job) pc
            ∙ ap (λ x. (turn_after_effect sys n ins before (next_pc ins before.job.pc x)).job) regs)
            (ap (λ (x : Turn). x.switch_left) w
            ∙ went_switch sys n ins t (next_pc ins t.job.pc t.job.registers) ∙ z)
        | inr ne ↦
            let l : 1 < t.job.left = omega arith in
            let w = turn ∙ worked_more t l in
            works (t.job.left - 1) zb (omega arith) (omega (arith, is))
            (ap (λ (x : Turn). x.job) w ∙ ap (λ (j : Job). record j { left = t.job.left - 1 }) same)
            (ap (λ (x : Turn). x.switch_left) w ∙ z)
      ]

  pub turn_of_job : (t : Turn) → ins_at sys t.job.pc ≡ Some ins → 1 ≤ begun sys ins t
      → TurnOf sys n t ins
  unfolding turn_after_step
  turn_of_job t at pos =
      elim (cases_Bool (nat_lt 0 t.switch_left)) [
        | inl b ↦ switches (ltb-true _ _ b) (rw b refl)
        | inr b ↦
            let z : t.switch_left ≤ 0 = ltb-false _ _ b in
            let zero : t.switch_left ≡ 0 = omega arith in
            let turn : turn_after_step sys n t
            ≡ turn_after_cycle sys n ins (turn_after_fetch sys ins t) = rw (b, at) refl in
            elim (cases_eq t.job.left 0) [
              | inl l ↦
                  let bit : (t.job.left == 0) ≡ true = eq-eqb _ _ l in
                  let is : begun sys ins t ≡ fetch_cost sys ins t = rw bit refl in
                  by_worked (with_fetch sys ins t) t zero (omega (arith, pos, is)) is zero
                  (turn ∙ ap (λ x. turn_after_cycle sys n ins x) (fetched_new sys ins t l)) refl
                  (went_job sys n ins t) refl refl
              | inr ne ↦
                  let bit : (t.job.left == 0) ≡ false = ne_eqb _ _ ne in
                  let is : begun sys ins t ≡ t.job.left = rw bit refl in
                  by_worked t t zero (omega arith) is zero
                  (turn ∙ ap (λ x. turn_after_cycle sys n ins x) (fetched_none sys ins t ne)) refl
                  (λ next. refl) refl refl
            ]
      ]
