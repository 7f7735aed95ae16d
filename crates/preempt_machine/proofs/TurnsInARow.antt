-- Consecutive turns of a job.
use Rattle.std.proofs.Common.{◌≡◌, ℕ, zero, suc, ◌+◌, ◌-◌, ◌<◌, ◌≤◌, ◌⊎◌, Bool, true, false, Some}
use Rattle.std.proofs.Common.{None, refl, sym, ◌∙◌, ap, subst, inl, inr, arith, List, [], length}
use Rattle.std.proofs.Common.{length-set, ◌==◌, nat_lt, slice_index_or}
use Rattle.std.proofs.lemmas.Bool.{cases_Bool, cases_lt, false≢true}
use Rattle.std.proofs.lemmas.Bool.Decides.{nat_tests}
use Rattle.crpd_base.specs.declared.data.TaskPlan.{TaskPlan}
use Rattle.flow_watch.specs.Iterations.{HasIterations}
use Rattle.rv_decode.specs.declared.Ins.{Ins}
use Rattle.rv_core.specs.declared.Next.{Next}
use Rattle.rv_core.specs.declared.Next.TheVariants.{Goto, Answer, Fault}
use Rattle.rv_core.specs.Effect.{next_pc}
use Rattle.preempt_machine.specs.Machine.{System, Job, Faulted, ins_at}
use Rattle.preempt_machine.specs.Step.{Turn, turn_after_step, turn_after_cycle, turn_after_effect}
use Rattle.preempt_machine.specs.Step.{turn_after_fetch, is_open, makes_fetch}
use Rattle.preempt_machine.specs.Running.{HasPlan}
use Rattle.preempt_machine.proofs.Steps.{cache_after, turned_cache, turned_line}
use Rattle.preempt_machine.proofs.TurnLaws.{fetched_none, fetched_standing, fetched_switch}
use Rattle.preempt_machine.specs.Stretch.{with_cycles_used, AreAllCyclesLeft}
use Rattle.preempt_machine.specs.Inner.Moves.{turn_after_steps, HasMoved}

-- some turns, and then more of them
pub turned_more : (sys : System) (time : ℕ) (t : Turn) (a b : ℕ)
    → turn_after_steps sys time t (a + b)
    ≡ turn_after_steps sys (time + a) (turn_after_steps sys time t a) b
turned_more sys time t a zero =
    let e : a + 0 ≡ a = omega arith in ap (turn_after_steps sys time t) e
turned_more sys time t a (suc b) =
    let e : a + suc b ≡ suc (a + b) = omega arith in
    let f : time + (a + b) ≡ time + a + b = omega arith in
    ap (turn_after_steps sys time t) e
    ∙ ap (turn_after_step sys (time + (a + b))) (turned_more sys time t a b)
    ∙ ap (λ n. turn_after_step sys n
    (turn_after_steps sys (time + a) (turn_after_steps sys time t a) b)) f

-- switch cycles
pub switches : (sys : System) (time : ℕ) (t : Turn) (k : ℕ) → k ≤ t.switch_left
    → turn_after_steps sys time t k ≡ record t { switch_left = t.switch_left - k }
unfolding turn_after_step
switches sys time t zero h =
    let e : t.switch_left ≡ t.switch_left - 0 = omega arith in
    ap (λ n. record t { switch_left = n }) e
switches sys time t (suc k) h =
    let b : nat_lt 0 (t.switch_left - k) ≡ true = grind (arith, nat_tests) in
    let e : t.switch_left - k - 1 ≡ t.switch_left - suc k = omega arith in
    ap (turn_after_step sys (time + k)) (switches sys time t k (omega arith))
    ∙ rw b (ap (λ n. record t { switch_left = n }) e)

-- one turn with no switch cycle before it
pub turned_once : (sys : System) (n : ℕ) (t : Turn) (ins : Ins) → t.switch_left ≡ 0
    → ins_at sys t.job.pc ≡ Some ins
    → turn_after_step sys n t ≡ turn_after_cycle sys n ins (turn_after_fetch sys ins t)
unfolding turn_after_step
turned_once sys n t ins e i =
    let b : nat_lt 0 t.switch_left ≡ false = grind (arith, nat_tests) in rw (b, i) refl

faults_once : (sys : System) (n : ℕ) (t : Turn) → t.switch_left ≡ 0 → ins_at sys t.job.pc ≡ None
    → turn_after_step sys n t ≡ record t { job = record t.job { standing = Faulted } }
unfolding turn_after_step
faults_once sys n t e i =
    let b : nat_lt 0 t.switch_left ≡ false = grind (arith, nat_tests) in rw (b, i) refl

-- what a fetch leaves
fetched_pc : (sys : System) (ins : Ins) (t : Turn) → (turn_after_fetch sys ins t).job.pc ≡ t.job.pc
fetched_pc sys ins t = elim (cases_Bool (t.job.left == 0)) [ inl b ↦ rw b refl | inr b ↦ rw b refl ]

fetched_next : (sys : System) (ins : Ins) (t : Turn)
    → next_pc ins (turn_after_fetch sys ins t).job.pc (turn_after_fetch sys ins t).job.registers
    ≡ next_pc ins t.job.pc t.job.registers
fetched_next sys ins t = elim (cases_Bool (t.job.left == 0)) [
  | inl b ↦ rw b refl
  | inr b ↦ rw b refl
]

-- a cycle of an instruction under way of which k are used
counted_once : (sys : System) (n : ℕ) (f : Turn) (ins : Ins) (k : ℕ) → f.switch_left ≡ 0
    → ins_at sys f.job.pc ≡ Some ins → k < f.job.left
    → turn_after_step sys n (with_cycles_used f k)
    ≡ turn_after_cycle sys n ins (with_cycles_used f k)
counted_once sys n f ins k e i h =
    turned_once sys n (with_cycles_used f k) ins e i
    ∙ ap (turn_after_cycle sys n ins)
    (fetched_none sys ins (with_cycles_used f k) (λ z. omega (arith, z)))

-- cycles of an instruction of which more are left
pub counts : (sys : System) (n : ℕ) (t : Turn) (ins : Ins) (k : ℕ) → t.switch_left ≡ 0
    → ins_at sys t.job.pc ≡ Some ins → 1 ≤ k → k < (turn_after_fetch sys ins t).job.left
    → turn_after_steps sys n t k ≡ with_cycles_used (turn_after_fetch sys ins t) k
counts sys n t ins zero e i a b = absurd (omega arith)
counts sys n t ins (suc zero) e i a b =
    let l : nat_lt 1 (turn_after_fetch sys ins t).job.left ≡ true = grind (arith, nat_tests) in
    turned_once sys (n + 0) t ins e i ∙ rw l refl
counts sys n t ins (suc (suc k)) e i a b =
    let f = turn_after_fetch sys ins t in
    let l : nat_lt 1 (f.job.left - suc k) ≡ true = grind (arith, nat_tests) in
    let m : f.job.left - suc k - 1 ≡ f.job.left - suc (suc k) = omega arith in
    ap (turn_after_step sys (n + suc k))
    (counts sys n t ins (suc k) e i (omega arith) (omega arith))
    ∙ counted_once sys (n + suc k) f ins (suc k) (fetched_switch sys ins t ∙ e)
    (ap (ins_at sys) (fetched_pc sys ins t) ∙ i) (omega arith)
    ∙ rw l (ap (λ x. record f { job = record f.job { left = x } }) m)

-- the effect does not depend on the cycles left
went_counted : (sys : System) (n : ℕ) (ins : Ins) (t : Turn) (k : ℕ) (next : Next)
    → turn_after_effect sys n ins (with_cycles_used t k) next ≡ turn_after_effect sys n ins t next
went_counted sys n ins t k (Goto to) = refl
went_counted sys n ins t k Answer = refl
went_counted sys n ins t k Fault = refl

-- all cycles of an instruction
pub finishes : (sys : System) (n : ℕ) (t : Turn) (ins : Ins) (k : ℕ) → t.switch_left ≡ 0
    → ins_at sys t.job.pc ≡ Some ins → AreAllCyclesLeft (turn_after_fetch sys ins t).job.left k
    → turn_after_steps sys n t k
    ≡ turn_after_effect sys (n + k - 1) ins (turn_after_fetch sys ins t)
    (next_pc ins t.job.pc t.job.registers)
finishes sys n t ins zero e i h = absurd (omega (arith, h.some))
finishes sys n t ins (suc zero) e i h =
    let f = turn_after_fetch sys ins t in
    let l : nat_lt 1 f.job.left ≡ false = grind (arith, nat_tests, h.all) in
    let z : n + 0 ≡ n + suc zero - 1 = omega arith in
    turned_once sys (n + 0) t ins e i
    ∙ rw l (ap (turn_after_effect sys (n + 0) ins f) (fetched_next sys ins t)
    ∙ ap (λ x. turn_after_effect sys x ins f (next_pc ins t.job.pc t.job.registers)) z)
finishes sys n t ins (suc (suc k)) e i h =
    let f = turn_after_fetch sys ins t in
    let left : suc (suc k) ≡ f.job.left = elim h.no_more [
      | inl o ↦ absurd (omega (arith, o))
      | inr o ↦ o
    ] in
    let l : nat_lt 1 (f.job.left - suc k) ≡ false = grind (arith, nat_tests) in
    let z : n + suc k ≡ n + suc (suc k) - 1 = omega arith in
    ap (turn_after_step sys (n + suc k))
    (counts sys n t ins (suc k) e i (omega arith) (omega arith))
    ∙ counted_once sys (n + suc k) f ins (suc k) (fetched_switch sys ins t ∙ e)
    (ap (ins_at sys) (fetched_pc sys ins t) ∙ i) (omega arith)
    ∙ rw l (went_counted sys (n + suc k) ins f (suc k) (next_pc ins f.job.pc f.job.registers)
    ∙ ap (turn_after_effect sys (n + suc k) ins f) (fetched_next sys ins t)
    ∙ ap (λ x. turn_after_effect sys x ins f (next_pc ins t.job.pc t.job.registers)) z)

-- a job is open up to the last cycle of its instruction
pub open_up_to : (sys : System) (n : ℕ) (t : Turn) (ins : Ins) (k : ℕ) → t.switch_left ≡ 0
    → ins_at sys t.job.pc ≡ Some ins → (k ≡ 1) ⊎ (k ≤ (turn_after_fetch sys ins t).job.left)
    → is_open t.job.standing ≡ true → (j : ℕ) → j < k
    → is_open (turn_after_steps sys n t j).job.standing ≡ true
open_up_to sys n t ins k e i h o zero b = o
open_up_to sys n t ins k e i h o (suc j) b =
    let less : suc j < (turn_after_fetch sys ins t).job.left = elim h [
      | inl one ↦ absurd (omega (arith, one))
      | inr more ↦ omega (arith, more)
    ] in
    ap (λ (u : Turn). is_open u.job.standing) (counts sys n t ins (suc j) e i (omega arith) less)
    ∙ ap is_open (fetched_standing sys ins t) ∙ o

-- moves of a job: it does nothing, faults, uses cycles, ends its instruction, switches, and moves
-- again
pub stands : (sys : System) (now : ℕ) (t : Turn) → HasMoved sys now now t t
stands sys now t =
    let e : 0 ≡ now - now = omega arith in
    record {
      later = omega arith;
      turn = ap (turn_after_steps sys now t) e;
      open_before = λ j b. absurd (omega arith);
    }

pub faults : (sys : System) (now : ℕ) (t new : Turn) → t.switch_left ≡ 0
    → is_open t.job.standing ≡ true → ins_at sys t.job.pc ≡ None
    → new ≡ record t { job = record t.job { standing = Faulted } }
    → HasMoved sys now (now + 1) t new
faults sys now t new e o i h =
    let one : suc zero ≡ now + 1 - now = omega arith in
    record {
      later = omega arith;
      turn = h ∙ sym (faults_once sys (now + 0) t e i) ∙ ap (turn_after_steps sys now t) one;
      open_before = λ j b.
          let first : 0 ≡ j = omega arith in
          subst (λ x. is_open (turn_after_steps sys now t x).job.standing ≡ true) first o;
    }

pub uses : (sys : System) (now until : ℕ) (t new : Turn) (ins : Ins) → t.switch_left ≡ 0
    → is_open t.job.standing ≡ true → ins_at sys t.job.pc ≡ Some ins → now < until
    → until - now < (turn_after_fetch sys ins t).job.left
    → new ≡ with_cycles_used (turn_after_fetch sys ins t) (until - now)
    → HasMoved sys now until t new
uses sys now until t new ins e o i a b h =
    record {
      later = omega arith;
      turn = h ∙ sym (counts sys now t ins (until - now) e i (omega arith) b);
      open_before = open_up_to sys now t ins (until - now) e i (inr (omega arith)) o;
    }

pub ends : (sys : System) (now time n : ℕ) (t new : Turn) (ins : Ins) (k : ℕ) → t.switch_left ≡ 0
    → is_open t.job.standing ≡ true → ins_at sys t.job.pc ≡ Some ins
    → AreAllCyclesLeft (turn_after_fetch sys ins t).job.left k → time ≡ now + k → suc n ≡ time
    → new ≡ turn_after_effect sys n ins (turn_after_fetch sys ins t)
    (next_pc ins t.job.pc t.job.registers) → HasMoved sys now time t new
ends sys now time n t new ins k e o i h a b g =
    let so_many : k ≡ time - now = omega arith in
    let at : n ≡ now + k - 1 = omega (arith, h.some) in
    let up_to : (k ≡ 1) ⊎ (k ≤ (turn_after_fetch sys ins t).job.left) = elim h.no_more [
      | inl one ↦ inl one
      | inr all ↦ inr (omega (arith, all))
    ] in
    record {
      later = omega arith;
      turn =
          g ∙ ap (λ x. turn_after_effect sys x ins (turn_after_fetch sys ins t)
          (next_pc ins t.job.pc t.job.registers)) at ∙ sym (finishes sys now t ins k e i h)
          ∙ ap (turn_after_steps sys now t) so_many;
      open_before = λ j l. open_up_to sys now t ins k e i up_to o j (omega arith);
    }

pub switches_by : (sys : System) (from : ℕ) (t : Turn) (k : ℕ) → k ≤ t.switch_left
    → is_open t.job.standing ≡ true
    → HasMoved sys from (from + k) t (record t { switch_left = t.switch_left - k })
switches_by sys from t k h o =
    let so_many : k ≡ from + k - from = omega arith in
    record {
      later = omega arith;
      turn = sym (switches sys from t k h) ∙ ap (turn_after_steps sys from t) so_many;
      open_before = λ j b.
          ap (λ (u : Turn). is_open u.job.standing) (switches sys from t j (omega arith)) ∙ o;
    }

pub moves_on : (sys : System) (a b c : ℕ) (t u v : Turn) → HasMoved sys a b t u
    → HasMoved sys b c u v → HasMoved sys a c t v
moves_on sys a b c t u v p q =
    let all : b - a + (c - b) ≡ c - a = omega (arith, p.later, q.later) in
    let at : a + (b - a) ≡ b = omega (arith, p.later) in
    let more : (k : ℕ) → turn_after_steps sys a t (b - a + k) ≡ turn_after_steps sys b u k = λ k.
    turned_more sys a t (b - a) k
    ∙ ap (λ x. turn_after_steps sys x (turn_after_steps sys a t (b - a)) k) at
    ∙ ap (λ x. turn_after_steps sys b x k) (sym p.turn) in
    record {
      later = omega (arith, p.later, q.later);
      turn = q.turn ∙ sym (more (c - b)) ∙ ap (turn_after_steps sys a t) all;
      open_before = λ j l. elim (cases_lt j (b - a)) [
        | inl x ↦ p.open_before j x
        | inr x ↦
            let k = j - (b - a) in
            let is : b - a + k ≡ j = omega arith in
            subst (λ y. is_open (turn_after_steps sys a t y).job.standing ≡ true) is
            (ap (λ (w : Turn). is_open w.job.standing) (more k)
            ∙ q.open_before k (omega (arith, p.later, q.later)))
      ];
    }

-- a move keeps the job's line and the cache's length
pub turned_by_line : (sys : System) (n : ℕ) (t : Turn) (k : ℕ)
    → (turn_after_steps sys n t k).job.line ≡ t.job.line
turned_by_line sys n t zero = refl
turned_by_line sys n t (suc k) =
    turned_line sys (n + k) (turn_after_steps sys n t k) ∙ turned_by_line sys n t k

turned_by_long : (sys : System) (n : ℕ) (t : Turn) (k : ℕ)
    → length (turn_after_steps sys n t k).cache ≡ length t.cache
turned_by_long sys n t zero = refl
turned_by_long sys n t (suc k) =
    let u = turn_after_steps sys n t k in
    ap length (turned_cache sys (n + k) u) ∙ after u (makes_fetch sys u) ∙ turned_by_long sys n t k
  where
    after : (u : Turn) (b : Bool) → length (cache_after sys u b) ≡ length u.cache
    after u true = length-set u.cache _ _
    after u false = refl

pub moved_line : (sys : System) (a b : ℕ) (t u : Turn) → HasMoved sys a b t u
    → u.job.line ≡ t.job.line
moved_line sys a b t u h = ap (λ (x : Turn). x.job.line) h.turn ∙ turned_by_line sys a t (b - a)

pub moved_long : (sys : System) (a b : ℕ) (t u : Turn) → HasMoved sys a b t u
    → length u.cache ≡ length t.cache
moved_long sys a b t u h = ap (λ (x : Turn). length x.cache) h.turn ∙ turned_by_long sys a t (b - a)

-- a job that is open before its move and not after it has moved
pub moved_on : (sys : System) (a b : ℕ) (t u : Turn) → HasMoved sys a b t u
    → is_open t.job.standing ≡ true → is_open u.job.standing ≡ false → a < b
moved_on sys a b t u h was is =
    elim (cases_lt a b) [
      | inl l ↦ l
      | inr g ↦
          let e : b - a ≡ 0 = omega arith in
          let still = h.turn ∙ ap (turn_after_steps sys a t) e in
          absurd (false≢true (sym is ∙ ap (λ (x : Turn). is_open x.job.standing) still ∙ was))
    ]

-- another job of the same line has its plan too
pub has_plan_of : (plans : List TaskPlan) (old job : Job) → job.line ≡ old.line → HasPlan plans old
    → HasIterations
    (length (slice_index_or plans old.line.task.0
    (record { entry = 0; stack = 0; global = 0; loops = [] })).loops) job.watch → HasPlan plans job
has_plan_of plans old job line h turns = rw line (record { task = h.task; loops = turns })
