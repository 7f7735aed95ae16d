-- The bits of a word that define the operation.
use Rattle.std.specs.Prelude.{ℕ}
use Rattle.rv_decode.specs.declared.Ins.{Ins}
use Rattle.rv_decode.specs.declared.Ins.TheVariants.{Lui, Auipc, Jal, Jalr, Beq, Bne, Blt, Bge}
use Rattle.rv_decode.specs.declared.Ins.TheVariants.{Bltu, Bgeu, Lb, Lh, Lw, Lbu, Lhu, Sb, Sh, Sw}
use Rattle.rv_decode.specs.declared.Ins.TheVariants.{Addi, Slti, Sltiu, Xori, Ori, Andi, Slli, Srli}
use Rattle.rv_decode.specs.declared.Ins.TheVariants.{Srai, Add, Sub, Sll, Slt, Sltu, Xor, Srl, Sra}
use Rattle.rv_decode.specs.declared.Ins.TheVariants.{Or, And, Mul, Mulh, Mulhsu, Mulhu, Div, Divu}
use Rattle.rv_decode.specs.declared.Ins.TheVariants.{Rem, Remu, Fence, Ecall, Ebreak}
use Rattle.rv_decode.specs.declared.writing.Operation.{Operation}

-- an operation with an opcode, a funct3 and a funct7
abbrev by : ℕ → ℕ → ℕ → Operation
by o f g = record { opcode = o; funct3 = f; funct7 = g }

-- opcode, funct3 and funct7 of the row, 0 if the form has no such field
unfoldable pub operation : Ins → Operation
operation (Lui d upper) = by 0x37 0 0
operation (Auipc d upper) = by 0x17 0 0
operation (Jal d imm) = by 0x6F 0 0
operation (Jalr d a imm) = by 0x67 0 0
operation (Beq a b imm) = by 0x63 0 0
operation (Bne a b imm) = by 0x63 1 0
operation (Blt a b imm) = by 0x63 4 0
operation (Bge a b imm) = by 0x63 5 0
operation (Bltu a b imm) = by 0x63 6 0
operation (Bgeu a b imm) = by 0x63 7 0
operation (Lb d a imm) = by 0x03 0 0
operation (Lh d a imm) = by 0x03 1 0
operation (Lw d a imm) = by 0x03 2 0
operation (Lbu d a imm) = by 0x03 4 0
operation (Lhu d a imm) = by 0x03 5 0
operation (Sb a b imm) = by 0x23 0 0
operation (Sh a b imm) = by 0x23 1 0
operation (Sw a b imm) = by 0x23 2 0
operation (Addi d a imm) = by 0x13 0 0
operation (Slti d a imm) = by 0x13 2 0
operation (Sltiu d a imm) = by 0x13 3 0
operation (Xori d a imm) = by 0x13 4 0
operation (Ori d a imm) = by 0x13 6 0
operation (Andi d a imm) = by 0x13 7 0
operation (Slli d a k) = by 0x13 1 0
operation (Srli d a k) = by 0x13 5 0
operation (Srai d a k) = by 0x13 5 0x20
operation (Add d a b) = by 0x33 0 0
operation (Sub d a b) = by 0x33 0 0x20
operation (Sll d a b) = by 0x33 1 0
operation (Slt d a b) = by 0x33 2 0
operation (Sltu d a b) = by 0x33 3 0
operation (Xor d a b) = by 0x33 4 0
operation (Srl d a b) = by 0x33 5 0
operation (Sra d a b) = by 0x33 5 0x20
operation (Or d a b) = by 0x33 6 0
operation (And d a b) = by 0x33 7 0
operation (Mul d a b) = by 0x33 0 1
operation (Mulh d a b) = by 0x33 1 1
operation (Mulhsu d a b) = by 0x33 2 1
operation (Mulhu d a b) = by 0x33 3 1
operation (Div d a b) = by 0x33 4 1
operation (Divu d a b) = by 0x33 5 1
operation (Rem d a b) = by 0x33 6 1
operation (Remu d a b) = by 0x33 7 1
operation (Fence d a bits) = by 0x0F 0 0
operation Ecall = by 0x73 0 0
operation Ebreak = by 0x73 0 0
