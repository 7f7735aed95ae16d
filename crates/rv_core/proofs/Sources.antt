-- Registers that agree on an instruction's sources give the same effect.
use Rattle.std.proofs.Common.{◌≡◌, ℕ, List, refl}
use Rattle.rv_decode.specs.declared.Ins.{Ins}
use Rattle.rv_decode.specs.declared.Ins.TheVariants.{Jalr, Beq, Bne, Blt, Bge, Bltu, Bgeu, Lb, Lh}
use Rattle.rv_decode.specs.declared.Ins.TheVariants.{Lw, Lbu, Lhu, Addi, Slti, Sltiu, Xori, Ori}
use Rattle.rv_decode.specs.declared.Ins.TheVariants.{Andi, Slli, Srli, Srai, Add, Sub, Sll, Slt}
use Rattle.rv_decode.specs.declared.Ins.TheVariants.{Sltu, Xor, Srl, Sra, Or, And, Mul, Mulh}
use Rattle.rv_decode.specs.declared.Ins.TheVariants.{Mulhsu, Mulhu, Div, Divu, Rem, Remu, Sb, Sh}
use Rattle.rv_decode.specs.declared.Ins.TheVariants.{Sw}
use Rattle.rv_decode.specs.Sources.{sources}
use Rattle.rv_core.specs.Effect.{next_pc, written, memory_after}
use Rattle.rv_core.specs.Memory.{Memory}
use Rattle.rv_core.specs.Registers.{reg}

module _ (pc : ℕ) (r s : List ℕ) (m : Memory) where
  pub same_next : (ins : Ins) → reg r (sources ins).0 ≡ reg s (sources ins).0
      → reg r (sources ins).1 ≡ reg s (sources ins).1 → next_pc ins pc r ≡ next_pc ins pc s
  unfolding sources next_pc
  same_next (Jalr _ _ _) e f = rw e refl
  same_next (Beq _ _ _) e f = rw (e, f) refl
  same_next (Bne _ _ _) e f = rw (e, f) refl
  same_next (Blt _ _ _) e f = rw (e, f) refl
  same_next (Bge _ _ _) e f = rw (e, f) refl
  same_next (Bltu _ _ _) e f = rw (e, f) refl
  same_next (Bgeu _ _ _) e f = rw (e, f) refl
  same_next _ e f = refl

  pub same_written : (ins : Ins) → reg r (sources ins).0 ≡ reg s (sources ins).0
      → reg r (sources ins).1 ≡ reg s (sources ins).1 → written ins pc r m ≡ written ins pc s m
  unfolding sources written
  same_written (Lb _ _ _) e f = rw e refl
  same_written (Lh _ _ _) e f = rw e refl
  same_written (Lw _ _ _) e f = rw e refl
  same_written (Lbu _ _ _) e f = rw e refl
  same_written (Lhu _ _ _) e f = rw e refl
  same_written (Addi _ _ _) e f = rw e refl
  same_written (Slti _ _ _) e f = rw e refl
  same_written (Sltiu _ _ _) e f = rw e refl
  same_written (Xori _ _ _) e f = rw e refl
  same_written (Ori _ _ _) e f = rw e refl
  same_written (Andi _ _ _) e f = rw e refl
  same_written (Slli _ _ _) e f = rw e refl
  same_written (Srli _ _ _) e f = rw e refl
  same_written (Srai _ _ _) e f = rw e refl
  same_written (Add _ _ _) e f = rw (e, f) refl
  same_written (Sub _ _ _) e f = rw (e, f) refl
  same_written (Sll _ _ _) e f = rw (e, f) refl
  same_written (Slt _ _ _) e f = rw (e, f) refl
  same_written (Sltu _ _ _) e f = rw (e, f) refl
  same_written (Xor _ _ _) e f = rw (e, f) refl
  same_written (Srl _ _ _) e f = rw (e, f) refl
  same_written (Sra _ _ _) e f = rw (e, f) refl
  same_written (Or _ _ _) e f = rw (e, f) refl
  same_written (And _ _ _) e f = rw (e, f) refl
  same_written (Mul _ _ _) e f = rw (e, f) refl
  same_written (Mulh _ _ _) e f = rw (e, f) refl
  same_written (Mulhsu _ _ _) e f = rw (e, f) refl
  same_written (Mulhu _ _ _) e f = rw (e, f) refl
  same_written (Div _ _ _) e f = rw (e, f) refl
  same_written (Divu _ _ _) e f = rw (e, f) refl
  same_written (Rem _ _ _) e f = rw (e, f) refl
  same_written (Remu _ _ _) e f = rw (e, f) refl
  same_written _ e f = refl

  pub same_memory : (ins : Ins) → reg r (sources ins).0 ≡ reg s (sources ins).0
      → reg r (sources ins).1 ≡ reg s (sources ins).1 → memory_after ins r m ≡ memory_after ins s m
  unfolding sources memory_after
  same_memory (Sb _ _ _) e f = rw (e, f) refl
  same_memory (Sh _ _ _) e f = rw (e, f) refl
  same_memory (Sw _ _ _) e f = rw (e, f) refl
  same_memory _ e f = refl
