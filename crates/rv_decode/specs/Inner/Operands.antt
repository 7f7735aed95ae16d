-- The operands of an instruction, by the form of its word and of its text.
use Rattle.std.specs.Prelude.{ℕ, List}
use Rattle.rv_decode.specs.declared.Ins.{Ins}
use Rattle.rv_decode.specs.declared.Ins.TheVariants.{Lui, Auipc, Jal, Jalr, Beq, Bne, Blt, Bge}
use Rattle.rv_decode.specs.declared.Ins.TheVariants.{Bltu, Bgeu, Lb, Lh, Lw, Lbu, Lhu, Sb, Sh, Sw}
use Rattle.rv_decode.specs.declared.Ins.TheVariants.{Addi, Slti, Sltiu, Xori, Ori, Andi, Slli, Srli}
use Rattle.rv_decode.specs.declared.Ins.TheVariants.{Srai, Add, Sub, Sll, Slt, Sltu, Xor, Srl, Sra}
use Rattle.rv_decode.specs.declared.Ins.TheVariants.{Or, And, Mul, Mulh, Mulhsu, Mulhu, Div, Divu}
use Rattle.rv_decode.specs.declared.Ins.TheVariants.{Rem, Remu, Fence, Ecall, Ebreak}
use Rattle.rv_decode.specs.declared.operands.Operands.{Operands}
use Rattle.rv_decode.specs.declared.operands.Operands.TheVariants as form
use Rattle.rv_decode.specs.Text.{r_text, i_text, shift_text, address_text, b_text, j_text, u_text}

-- the operands of each instruction. ECALL and EBREAK differ in bits 31 to 20 alone
unfoldable pub operands : Ins → Operands
operands (Lui d upper) = form.U d upper
operands (Auipc d upper) = form.U d upper
operands (Jal d imm) = form.J d imm
operands (Jalr d a imm) = form.Address d a imm
operands (Beq a b imm) = form.B a b imm
operands (Bne a b imm) = form.B a b imm
operands (Blt a b imm) = form.B a b imm
operands (Bge a b imm) = form.B a b imm
operands (Bltu a b imm) = form.B a b imm
operands (Bgeu a b imm) = form.B a b imm
operands (Lb d a imm) = form.Address d a imm
operands (Lh d a imm) = form.Address d a imm
operands (Lw d a imm) = form.Address d a imm
operands (Lbu d a imm) = form.Address d a imm
operands (Lhu d a imm) = form.Address d a imm
operands (Sb a b imm) = form.S a b imm
operands (Sh a b imm) = form.S a b imm
operands (Sw a b imm) = form.S a b imm
operands (Addi d a imm) = form.I d a imm
operands (Slti d a imm) = form.I d a imm
operands (Sltiu d a imm) = form.I d a imm
operands (Xori d a imm) = form.I d a imm
operands (Ori d a imm) = form.I d a imm
operands (Andi d a imm) = form.I d a imm
operands (Slli d a k) = form.Shift d a k
operands (Srli d a k) = form.Shift d a k
operands (Srai d a k) = form.Shift d a k
operands (Add d a b) = form.R d a b
operands (Sub d a b) = form.R d a b
operands (Sll d a b) = form.R d a b
operands (Slt d a b) = form.R d a b
operands (Sltu d a b) = form.R d a b
operands (Xor d a b) = form.R d a b
operands (Srl d a b) = form.R d a b
operands (Sra d a b) = form.R d a b
operands (Or d a b) = form.R d a b
operands (And d a b) = form.R d a b
operands (Mul d a b) = form.R d a b
operands (Mulh d a b) = form.R d a b
operands (Mulhsu d a b) = form.R d a b
operands (Mulhu d a b) = form.R d a b
operands (Div d a b) = form.R d a b
operands (Divu d a b) = form.R d a b
operands (Rem d a b) = form.R d a b
operands (Remu d a b) = form.R d a b
operands (Fence d a bits) = form.Plain d a bits
operands Ecall = form.Plain 0 0 0
operands Ebreak = form.Plain 0 0 1

-- the text of a name with these operands
abbrev pub text_by : List ℕ → Operands → List ℕ
text_by n (form.R d a b) = r_text n d a b
text_by n (form.Shift d a k) = shift_text n d a k
text_by n (form.I d a imm) = i_text n d a imm
text_by n (form.Address d a imm) = address_text n d imm a
text_by n (form.S a b imm) = address_text n b imm a
text_by n (form.B a b imm) = b_text n a b imm
text_by n (form.U d upper) = u_text n d upper
text_by n (form.J d imm) = j_text n d imm
text_by n (form.Plain d a bits) = n
