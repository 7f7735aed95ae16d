-- The text of an instruction, one form for each kind of operands.
use Rattle.std.specs.Prelude.{ℕ, ℤ, List, ◌++◌, codes}
use Rattle.std.specs.Fmt.{decimal, signed_decimal}
use Rattle.rv_decode.specs.declared.Ins.{Ins}
use Rattle.rv_decode.specs.declared.Ins.TheVariants.{Lui, Auipc, Jal, Jalr, Beq, Bne, Blt, Bge}
use Rattle.rv_decode.specs.declared.Ins.TheVariants.{Bltu, Bgeu, Lb, Lh, Lw, Lbu, Lhu, Sb, Sh, Sw}
use Rattle.rv_decode.specs.declared.Ins.TheVariants.{Addi, Slti, Sltiu, Xori, Ori, Andi, Slli, Srli}
use Rattle.rv_decode.specs.declared.Ins.TheVariants.{Srai, Add, Sub, Sll, Slt, Sltu, Xor, Srl, Sra}
use Rattle.rv_decode.specs.declared.Ins.TheVariants.{Or, And, Mul, Mulh, Mulhsu, Mulhu, Div, Divu}
use Rattle.rv_decode.specs.declared.Ins.TheVariants.{Rem, Remu, Fence, Ecall, Ebreak}

-- the register x0 to x31
abbrev pub register : ℕ → List ℕ
register n = codes "x" ++ decimal n

-- two operands after a name: a space after the name, commas between operands
abbrev pub two_operands : List ℕ → List ℕ → List ℕ → List ℕ
two_operands name x y = name ++ codes " " ++ x ++ codes "," ++ y

-- an instruction with three operands
abbrev pub three_operands : List ℕ → List ℕ → List ℕ → List ℕ → List ℕ
three_operands name x y z = name ++ codes " " ++ x ++ codes "," ++ y ++ codes "," ++ z

-- `add x5,x6,x7`: rd, rs1, rs2
abbrev pub r_text : List ℕ → ℕ → ℕ → ℕ → List ℕ
r_text name d a b = three_operands name (register d) (register a) (register b)

-- `addi x5,x6,-1`: rd, rs1, the immediate
abbrev pub i_text : List ℕ → ℕ → ℕ → ℤ → List ℕ
i_text name d a imm = three_operands name (register d) (register a) (signed_decimal imm)

-- `slli x5,x6,3`: rd, rs1, the amount
abbrev pub shift_text : List ℕ → ℕ → ℕ → ℕ → List ℕ
shift_text name d a amount = three_operands name (register d) (register a) (decimal amount)

-- `lw x5,12(x2)`: rd or rs2, the offset, rs1
abbrev pub address_text : List ℕ → ℕ → ℤ → ℕ → List ℕ
address_text name x imm base =
    two_operands name (register x) (signed_decimal imm ++ codes "(" ++ register base ++ codes ")")

-- `bne x5,x0,-4`: rs1, rs2, the offset
abbrev pub b_text : List ℕ → ℕ → ℕ → ℤ → List ℕ
b_text name a b imm = three_operands name (register a) (register b) (signed_decimal imm)

-- `jal x1,20`: rd, the offset
abbrev pub j_text : List ℕ → ℕ → ℤ → List ℕ
j_text name d imm = two_operands name (register d) (signed_decimal imm)

-- `lui x5,74565`: rd, bits 31 to 12 without a sign
abbrev pub u_text : List ℕ → ℕ → ℕ → List ℕ
u_text name d upper = two_operands name (register d) (decimal upper)

-- the text, with the name of the row
unfoldable pub text : Ins → List ℕ
text (Lui d upper) = u_text (codes "lui") d upper
text (Auipc d upper) = u_text (codes "auipc") d upper
text (Jal d imm) = j_text (codes "jal") d imm
text (Jalr d a imm) = address_text (codes "jalr") d imm a
text (Beq a b imm) = b_text (codes "beq") a b imm
text (Bne a b imm) = b_text (codes "bne") a b imm
text (Blt a b imm) = b_text (codes "blt") a b imm
text (Bge a b imm) = b_text (codes "bge") a b imm
text (Bltu a b imm) = b_text (codes "bltu") a b imm
text (Bgeu a b imm) = b_text (codes "bgeu") a b imm
text (Lb d a imm) = address_text (codes "lb") d imm a
text (Lh d a imm) = address_text (codes "lh") d imm a
text (Lw d a imm) = address_text (codes "lw") d imm a
text (Lbu d a imm) = address_text (codes "lbu") d imm a
text (Lhu d a imm) = address_text (codes "lhu") d imm a
text (Sb a b imm) = address_text (codes "sb") b imm a
text (Sh a b imm) = address_text (codes "sh") b imm a
text (Sw a b imm) = address_text (codes "sw") b imm a
text (Addi d a imm) = i_text (codes "addi") d a imm
text (Slti d a imm) = i_text (codes "slti") d a imm
text (Sltiu d a imm) = i_text (codes "sltiu") d a imm
text (Xori d a imm) = i_text (codes "xori") d a imm
text (Ori d a imm) = i_text (codes "ori") d a imm
text (Andi d a imm) = i_text (codes "andi") d a imm
text (Slli d a k) = shift_text (codes "slli") d a k
text (Srli d a k) = shift_text (codes "srli") d a k
text (Srai d a k) = shift_text (codes "srai") d a k
text (Add d a b) = r_text (codes "add") d a b
text (Sub d a b) = r_text (codes "sub") d a b
text (Sll d a b) = r_text (codes "sll") d a b
text (Slt d a b) = r_text (codes "slt") d a b
text (Sltu d a b) = r_text (codes "sltu") d a b
text (Xor d a b) = r_text (codes "xor") d a b
text (Srl d a b) = r_text (codes "srl") d a b
text (Sra d a b) = r_text (codes "sra") d a b
text (Or d a b) = r_text (codes "or") d a b
text (And d a b) = r_text (codes "and") d a b
text (Mul d a b) = r_text (codes "mul") d a b
text (Mulh d a b) = r_text (codes "mulh") d a b
text (Mulhsu d a b) = r_text (codes "mulhsu") d a b
text (Mulhu d a b) = r_text (codes "mulhu") d a b
text (Div d a b) = r_text (codes "div") d a b
text (Divu d a b) = r_text (codes "divu") d a b
text (Rem d a b) = r_text (codes "rem") d a b
text (Remu d a b) = r_text (codes "remu") d a b
text (Fence d a bits) = codes "fence"
text Ecall = codes "ecall"
text Ebreak = codes "ebreak"
