-- The cycles left of an instruction.
use Rattle.std.proofs.Common.{◌≡◌, ℕ, suc, ◌≤◌, Option, Some, None, inl, inr, arith, ◌==◌, nat_lt}
use Rattle.std.proofs.lemmas.Bool.{cases_Bool}
use Rattle.std.proofs.lemmas.Bool.Decides.{nat_tests}
use Rattle.rv_decode.specs.declared.Ins.{Ins}
use Rattle.preempt_machine.specs.Machine.{System, ins_at}
use Rattle.preempt_machine.specs.Step.{Turn, turn_after_step, turn_after_execution}
use Rattle.preempt_machine.specs.Step.{turn_after_cycle, turn_after_fetch}

worked_left : (sys : System) (n : ℕ) (ins : Ins) (t : Turn)
    → t.job.left ≤ suc (turn_after_cycle sys n ins t).job.left
worked_left sys n ins t =
    elim (cases_Bool (nat_lt 1 t.job.left)) [
      | inl b ↦ rw b (omega arith)
      | inr b ↦
          let few : t.job.left ≤ 1 = grind (arith, nat_tests) in
          rw b (omega (arith, few))
    ]

fetched_left : (sys : System) (ins : Ins) (t : Turn)
    → t.job.left ≤ (turn_after_fetch sys ins t).job.left
fetched_left sys ins t =
    elim (cases_Bool (t.job.left == 0)) [
      | inl b ↦ let none : t.job.left ≡ 0 = grind (arith, nat_tests) in omega (arith, none)
      | inr b ↦ rw b (omega arith)
    ]

executed_left : (sys : System) (n : ℕ) (t : Turn) (found : Option Ins)
    → t.job.left ≤ suc (turn_after_execution sys n t found).job.left
executed_left sys n t None = omega arith
executed_left sys n t (Some ins) =
    omega (arith, worked_left sys n ins (turn_after_fetch sys ins t), fetched_left sys ins t)

-- a turn uses at most one of the cycles left of an instruction
pub turned_left : (sys : System) (n : ℕ) (t : Turn)
    → t.job.left ≤ suc (turn_after_step sys n t).job.left
unfolding turn_after_step
turned_left sys n t =
    elim (cases_Bool (nat_lt 0 t.switch_left)) [
      | inl b ↦ rw b (omega arith)
      | inr b ↦ rw b (executed_left sys n t (ins_at sys t.job.pc))
    ]
