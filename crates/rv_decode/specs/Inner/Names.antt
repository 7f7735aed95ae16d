-- The names of instructions.
use Rattle.std.specs.Prelude.{ℕ, List, codes}
use Rattle.rv_decode.specs.declared.Ins.{Ins}
use Rattle.rv_decode.specs.declared.Ins.TheVariants.{Lui, Auipc, Jal, Jalr, Beq, Bne, Blt, Bge}
use Rattle.rv_decode.specs.declared.Ins.TheVariants.{Bltu, Bgeu, Lb, Lh, Lw, Lbu, Lhu, Sb, Sh, Sw}
use Rattle.rv_decode.specs.declared.Ins.TheVariants.{Addi, Slti, Sltiu, Xori, Ori, Andi, Slli, Srli}
use Rattle.rv_decode.specs.declared.Ins.TheVariants.{Srai, Add, Sub, Sll, Slt, Sltu, Xor, Srl, Sra}
use Rattle.rv_decode.specs.declared.Ins.TheVariants.{Or, And, Mul, Mulh, Mulhsu, Mulhu, Div, Divu}
use Rattle.rv_decode.specs.declared.Ins.TheVariants.{Rem, Remu, Fence, Ecall, Ebreak}

-- the name in the instruction's row
unfoldable pub name : Ins → List ℕ
name (Lui d upper) = codes "lui"
name (Auipc d upper) = codes "auipc"
name (Jal d imm) = codes "jal"
name (Jalr d a imm) = codes "jalr"
name (Beq a b imm) = codes "beq"
name (Bne a b imm) = codes "bne"
name (Blt a b imm) = codes "blt"
name (Bge a b imm) = codes "bge"
name (Bltu a b imm) = codes "bltu"
name (Bgeu a b imm) = codes "bgeu"
name (Lb d a imm) = codes "lb"
name (Lh d a imm) = codes "lh"
name (Lw d a imm) = codes "lw"
name (Lbu d a imm) = codes "lbu"
name (Lhu d a imm) = codes "lhu"
name (Sb a b imm) = codes "sb"
name (Sh a b imm) = codes "sh"
name (Sw a b imm) = codes "sw"
name (Addi d a imm) = codes "addi"
name (Slti d a imm) = codes "slti"
name (Sltiu d a imm) = codes "sltiu"
name (Xori d a imm) = codes "xori"
name (Ori d a imm) = codes "ori"
name (Andi d a imm) = codes "andi"
name (Slli d a k) = codes "slli"
name (Srli d a k) = codes "srli"
name (Srai d a k) = codes "srai"
name (Add d a b) = codes "add"
name (Sub d a b) = codes "sub"
name (Sll d a b) = codes "sll"
name (Slt d a b) = codes "slt"
name (Sltu d a b) = codes "sltu"
name (Xor d a b) = codes "xor"
name (Srl d a b) = codes "srl"
name (Sra d a b) = codes "sra"
name (Or d a b) = codes "or"
name (And d a b) = codes "and"
name (Mul d a b) = codes "mul"
name (Mulh d a b) = codes "mulh"
name (Mulhsu d a b) = codes "mulhsu"
name (Mulhu d a b) = codes "mulhu"
name (Div d a b) = codes "div"
name (Divu d a b) = codes "divu"
name (Rem d a b) = codes "rem"
name (Remu d a b) = codes "remu"
name (Fence d a bits) = codes "fence"
name Ecall = codes "ecall"
name Ebreak = codes "ebreak"
