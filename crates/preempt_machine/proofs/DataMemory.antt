-- A step keeps the data memory well-formed: only a store changes it, byte by byte.
use Rattle.std.proofs.Common.{◌≡◌, ℕ, zero, suc, ◌%◌, ◌^◌, ◌<◌, List, Option, Some, None, subst}
use Rattle.std.proofs.Common.{inl, inr, arith, ◌==◌, nat_lt}
use Rattle.std.proofs.lemmas.Bool.{cases_Bool}
use Rattle.rv_decode.specs.Address.{plus}
use Rattle.rv_decode.specs.declared.Ins.{Ins}
use Rattle.rv_decode.specs.declared.Ins.TheVariants.{Sb, Sh, Sw}
use Rattle.rv_core.specs.declared.Next.{Next}
use Rattle.rv_core.specs.declared.Next.TheVariants.{Goto, Answer, Fault}
use Rattle.rv_core.specs.Effect.{next_pc, memory_after}
use Rattle.rv_core.specs.Registers.{reg}
use Rattle.rv_core.specs.Memory.{Memory, IsMemory}
use Rattle.rv_core.proofs.Memories.{put_from, put_bytes_from, put_four}
use Rattle.preempt_machine.specs.Machine.{System, Machine, ins_at}
use Rattle.preempt_machine.specs.Step.{Turn, turn_of, turn_after_step, turn_after_execution}
use Rattle.preempt_machine.specs.Step.{turn_after_cycle, turn_after_effect, turn_after_fetch}
use Rattle.preempt_machine.specs.Step.{step_by, candidate, state}
use Rattle.preempt_machine.specs.DataMemory.{StepKeepsMemory, RunKeepsMemory}

word_below : (n : ℕ) → n % 2 ^ 32 < 2 ^ 32
word_below n = omega arith

byte_below : (n : ℕ) → n % 2 ^ 8 < 2 ^ 8
byte_below n = omega arith

stored_keeps : (ins : Ins) (r : List ℕ) (m : Memory) → IsMemory m → IsMemory (memory_after ins r m)
unfolding memory_after
stored_keeps (Sb a b imm) r m h =
    put_from 0 m (plus (reg r a) imm) (reg r b % 2 ^ 8) h (omega arith) (word_below _)
    (byte_below _)
stored_keeps (Sh a b imm) r m h = put_bytes_from 2 m (plus (reg r a) imm) (reg r b) h (word_below _)
stored_keeps (Sw a b imm) r m h =
    subst IsMemory (put_four m (plus (reg r a) imm) (reg r b))
    (put_bytes_from 4 m (plus (reg r a) imm) (reg r b) h (word_below _))
stored_keeps _ r m h = h

went_keeps : (sys : System) (n : ℕ) (ins : Ins) (t : Turn) (next : Next) → IsMemory t.memory
    → IsMemory (turn_after_effect sys n ins t next).memory
went_keeps sys n ins t (Goto to) h = stored_keeps ins t.job.registers t.memory h
went_keeps sys n ins t Answer h = h
went_keeps sys n ins t Fault h = h

worked_keeps : (sys : System) (n : ℕ) (ins : Ins) (t : Turn) → IsMemory t.memory
    → IsMemory (turn_after_cycle sys n ins t).memory
worked_keeps sys n ins t h =
    elim (cases_Bool (nat_lt 1 t.job.left)) [
      | inl b ↦ rw b h
      | inr b ↦ rw b (went_keeps sys n ins t (next_pc ins t.job.pc t.job.registers) h)
    ]

fetched_memory : (sys : System) (ins : Ins) (t : Turn)
    → (turn_after_fetch sys ins t).memory ≡ t.memory
fetched_memory sys ins t = elim (cases_Bool (t.job.left == 0)) [ inl b ↦ rw b | inr b ↦ rw b ]

executed_keeps : (sys : System) (n : ℕ) (t : Turn) (ins : Option Ins) → IsMemory t.memory
    → IsMemory (turn_after_execution sys n t ins).memory
executed_keeps sys n t None h = h
executed_keeps sys n t (Some ins) h =
    worked_keeps sys n ins (turn_after_fetch sys ins t) (rw (fetched_memory sys ins t) h)

turned_keeps : (sys : System) (n : ℕ) (t : Turn) → IsMemory t.memory
    → IsMemory (turn_after_step sys n t).memory
unfolding turn_after_step
turned_keeps sys n t h =
    elim (cases_Bool (nat_lt 0 t.switch_left)) [
      | inl b ↦ rw b h
      | inr b ↦ rw b (executed_keeps sys n t (ins_at sys t.job.pc) h)
    ]

step_by_keeps : (sys : System) (m : Machine) (c : Option ℕ) → IsMemory m.memory
    → IsMemory (step_by sys m c).memory
step_by_keeps sys m None h = h
step_by_keeps sys m (Some i) h = turned_keeps sys m.time (turn_of sys m i) h

pub step_keeps_memory : StepKeepsMemory
step_keeps_memory sys m h = step_by_keeps sys m (candidate sys m) h

pub run_keeps_memory : RunKeepsMemory
run_keeps_memory s zero h = h
run_keeps_memory s (suc n) h = step_keeps_memory s.system (state s n) (run_keeps_memory s n h)
