-- The register that an instruction writes is one of the 32.
use Rattle.std.proofs.Common.{ℕ, ◌<◌, List, lit<}
use Rattle.rv_decode.specs.declared.Ins.{Ins}
use Rattle.rv_decode.specs.declared.Ins.TheVariants.{Lui, Auipc, Jal, Jalr, Lb, Lh, Lw, Lbu, Lhu}
use Rattle.rv_decode.specs.declared.Ins.TheVariants.{Addi, Slti, Sltiu, Xori, Ori, Andi, Slli, Srli}
use Rattle.rv_decode.specs.declared.Ins.TheVariants.{Srai, Add, Sub, Sll, Slt, Sltu, Xor, Srl, Sra}
use Rattle.rv_decode.specs.declared.Ins.TheVariants.{Or, And, Mul, Mulh, Mulhsu, Mulhu, Div, Divu}
use Rattle.rv_decode.specs.declared.Ins.TheVariants.{Rem, Remu}
use Rattle.rv_decode.specs.Range.{HasFieldsInRange}
use Rattle.rv_core.specs.Effect.{written}
use Rattle.rv_core.specs.Memory.{Memory}

pub written_register : (ins : Ins) (pc : ℕ) (r : List ℕ) (m : Memory) → HasFieldsInRange ins
    → (written ins pc r m).0 < 32
unfolding HasFieldsInRange written
written_register (Lui _ _) pc r m h = h.0
written_register (Auipc _ _) pc r m h = h.0
written_register (Jal _ _) pc r m h = h.0
written_register (Jalr _ _ _) pc r m h = h.0
written_register (Lb _ _ _) pc r m h = h.0
written_register (Lh _ _ _) pc r m h = h.0
written_register (Lw _ _ _) pc r m h = h.0
written_register (Lbu _ _ _) pc r m h = h.0
written_register (Lhu _ _ _) pc r m h = h.0
written_register (Addi _ _ _) pc r m h = h.0
written_register (Slti _ _ _) pc r m h = h.0
written_register (Sltiu _ _ _) pc r m h = h.0
written_register (Xori _ _ _) pc r m h = h.0
written_register (Ori _ _ _) pc r m h = h.0
written_register (Andi _ _ _) pc r m h = h.0
written_register (Slli _ _ _) pc r m h = h.0
written_register (Srli _ _ _) pc r m h = h.0
written_register (Srai _ _ _) pc r m h = h.0
written_register (Add _ _ _) pc r m h = h.0
written_register (Sub _ _ _) pc r m h = h.0
written_register (Sll _ _ _) pc r m h = h.0
written_register (Slt _ _ _) pc r m h = h.0
written_register (Sltu _ _ _) pc r m h = h.0
written_register (Xor _ _ _) pc r m h = h.0
written_register (Srl _ _ _) pc r m h = h.0
written_register (Sra _ _ _) pc r m h = h.0
written_register (Or _ _ _) pc r m h = h.0
written_register (And _ _ _) pc r m h = h.0
written_register (Mul _ _ _) pc r m h = h.0
written_register (Mulh _ _ _) pc r m h = h.0
written_register (Mulhsu _ _ _) pc r m h = h.0
written_register (Mulhu _ _ _) pc r m h = h.0
written_register (Div _ _ _) pc r m h = h.0
written_register (Divu _ _ _) pc r m h = h.0
written_register (Rem _ _ _) pc r m h = h.0
written_register (Remu _ _ _) pc r m h = h.0
written_register _ pc r m h = lit< tt
