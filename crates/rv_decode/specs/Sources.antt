-- The registers that an instruction reads.
use Rattle.std.specs.Prelude.{ℕ}
use Rattle.rv_decode.specs.declared.Ins.{Ins}
use Rattle.rv_decode.specs.declared.Ins.TheVariants.{Jalr, Beq, Bne, Blt, Bge, Bltu, Bgeu, Lb, Lh}
use Rattle.rv_decode.specs.declared.Ins.TheVariants.{Lw, Lbu, Lhu, Sb, Sh, Sw, Addi, Slti, Sltiu}
use Rattle.rv_decode.specs.declared.Ins.TheVariants.{Xori, Ori, Andi, Slli, Srli, Srai, Add, Sub}
use Rattle.rv_decode.specs.declared.Ins.TheVariants.{Sll, Slt, Sltu, Xor, Srl, Sra, Or, And, Mul}
use Rattle.rv_decode.specs.declared.Ins.TheVariants.{Mulh, Mulhsu, Mulhu, Div, Divu, Rem, Remu}

-- rs1 and rs2 if the instruction reads them, otherwise 0. FENCE reads none
unfoldable pub sources : Ins → ℕ × ℕ
sources (Jalr d a imm) = (a, 0)
sources (Beq a b imm) = (a, b)
sources (Bne a b imm) = (a, b)
sources (Blt a b imm) = (a, b)
sources (Bge a b imm) = (a, b)
sources (Bltu a b imm) = (a, b)
sources (Bgeu a b imm) = (a, b)
sources (Lb d a imm) = (a, 0)
sources (Lh d a imm) = (a, 0)
sources (Lw d a imm) = (a, 0)
sources (Lbu d a imm) = (a, 0)
sources (Lhu d a imm) = (a, 0)
sources (Sb a b imm) = (a, b)
sources (Sh a b imm) = (a, b)
sources (Sw a b imm) = (a, b)
sources (Addi d a imm) = (a, 0)
sources (Slti d a imm) = (a, 0)
sources (Sltiu d a imm) = (a, 0)
sources (Xori d a imm) = (a, 0)
sources (Ori d a imm) = (a, 0)
sources (Andi d a imm) = (a, 0)
sources (Slli d a k) = (a, 0)
sources (Srli d a k) = (a, 0)
sources (Srai d a k) = (a, 0)
sources (Add d a b) = (a, b)
sources (Sub d a b) = (a, b)
sources (Sll d a b) = (a, b)
sources (Slt d a b) = (a, b)
sources (Sltu d a b) = (a, b)
sources (Xor d a b) = (a, b)
sources (Srl d a b) = (a, b)
sources (Sra d a b) = (a, b)
sources (Or d a b) = (a, b)
sources (And d a b) = (a, b)
sources (Mul d a b) = (a, b)
sources (Mulh d a b) = (a, b)
sources (Mulhsu d a b) = (a, b)
sources (Mulhu d a b) = (a, b)
sources (Div d a b) = (a, b)
sources (Divu d a b) = (a, b)
sources (Rem d a b) = (a, b)
sources (Remu d a b) = (a, b)
sources _ = (0, 0)
