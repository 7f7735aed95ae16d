-- The instructions that have a word: their fields are in range.
use Rattle.std.specs.Prelude.{ℕ, ◌≡◌, ◌-◌, ◌%◌, ◌^◌, ◌<◌, ℤ, pos, negsuc}
use Rattle.rv_decode.specs.declared.Ins.{Ins}
use Rattle.rv_decode.specs.declared.Ins.TheVariants.{Lui, Auipc, Jal, Jalr, Beq, Bne, Blt, Bge}
use Rattle.rv_decode.specs.declared.Ins.TheVariants.{Bltu, Bgeu, Lb, Lh, Lw, Lbu, Lhu, Sb, Sh, Sw}
use Rattle.rv_decode.specs.declared.Ins.TheVariants.{Addi, Slti, Sltiu, Xori, Ori, Andi, Slli, Srli}
use Rattle.rv_decode.specs.declared.Ins.TheVariants.{Srai, Add, Sub, Sll, Slt, Sltu, Xor, Srl, Sra}
use Rattle.rv_decode.specs.declared.Ins.TheVariants.{Or, And, Mul, Mulh, Mulhsu, Mulhu, Div, Divu}
use Rattle.rv_decode.specs.declared.Ins.TheVariants.{Rem, Remu, Fence, Ecall, Ebreak}

-- an n-bit signed number: at least -2^(n-1), and below 2^(n-1)
abbrev pub IsSigned : ℕ → ℤ → Type 0
IsSigned n (pos k) = k < 2 ^ (n - 1)
IsSigned n (negsuc k) = k < 2 ^ (n - 1)

-- an even number. negsuc k is -(k + 1)
abbrev pub IsEven : ℤ → Type 0
IsEven (pos k) = k % 2 ≡ 0
IsEven (negsuc k) = k % 2 ≡ 1

-- three registers, or two and an amount
abbrev pub AreRFields : ℕ → ℕ → ℕ → Type 0
AreRFields d a b = (d < 32) × (a < 32) × (b < 32)

-- two registers and a 12-bit immediate, as in the I and the S form
abbrev pub AreIFields : ℕ → ℕ → ℤ → Type 0
AreIFields d a imm = (d < 32) × (a < 32) × IsSigned 12 imm

-- two registers and the offset of a branch
abbrev pub AreBFields : ℕ → ℕ → ℤ → Type 0
AreBFields a b imm = (a < 32) × (b < 32) × IsSigned 13 imm × IsEven imm

-- a register and bits 31 to 12
abbrev pub AreUFields : ℕ → ℕ → Type 0
AreUFields d upper = (d < 32) × (upper < 2 ^ 20)

-- a register and the offset of a jump
abbrev pub AreJFields : ℕ → ℤ → Type 0
AreJFields d imm = (d < 32) × IsSigned 21 imm × IsEven imm

-- each field is in the range of its form
unfoldable pub HasFieldsInRange : Ins → Type 0
HasFieldsInRange (Lui d upper) = AreUFields d upper
HasFieldsInRange (Auipc d upper) = AreUFields d upper
HasFieldsInRange (Jal d imm) = AreJFields d imm
HasFieldsInRange (Jalr d a imm) = AreIFields d a imm
HasFieldsInRange (Beq a b imm) = AreBFields a b imm
HasFieldsInRange (Bne a b imm) = AreBFields a b imm
HasFieldsInRange (Blt a b imm) = AreBFields a b imm
HasFieldsInRange (Bge a b imm) = AreBFields a b imm
HasFieldsInRange (Bltu a b imm) = AreBFields a b imm
HasFieldsInRange (Bgeu a b imm) = AreBFields a b imm
HasFieldsInRange (Lb d a imm) = AreIFields d a imm
HasFieldsInRange (Lh d a imm) = AreIFields d a imm
HasFieldsInRange (Lw d a imm) = AreIFields d a imm
HasFieldsInRange (Lbu d a imm) = AreIFields d a imm
HasFieldsInRange (Lhu d a imm) = AreIFields d a imm
HasFieldsInRange (Sb a b imm) = AreIFields a b imm
HasFieldsInRange (Sh a b imm) = AreIFields a b imm
HasFieldsInRange (Sw a b imm) = AreIFields a b imm
HasFieldsInRange (Addi d a imm) = AreIFields d a imm
HasFieldsInRange (Slti d a imm) = AreIFields d a imm
HasFieldsInRange (Sltiu d a imm) = AreIFields d a imm
HasFieldsInRange (Xori d a imm) = AreIFields d a imm
HasFieldsInRange (Ori d a imm) = AreIFields d a imm
HasFieldsInRange (Andi d a imm) = AreIFields d a imm
HasFieldsInRange (Slli d a k) = AreRFields d a k
HasFieldsInRange (Srli d a k) = AreRFields d a k
HasFieldsInRange (Srai d a k) = AreRFields d a k
HasFieldsInRange (Add d a b) = AreRFields d a b
HasFieldsInRange (Sub d a b) = AreRFields d a b
HasFieldsInRange (Sll d a b) = AreRFields d a b
HasFieldsInRange (Slt d a b) = AreRFields d a b
HasFieldsInRange (Sltu d a b) = AreRFields d a b
HasFieldsInRange (Xor d a b) = AreRFields d a b
HasFieldsInRange (Srl d a b) = AreRFields d a b
HasFieldsInRange (Sra d a b) = AreRFields d a b
HasFieldsInRange (Or d a b) = AreRFields d a b
HasFieldsInRange (And d a b) = AreRFields d a b
HasFieldsInRange (Mul d a b) = AreRFields d a b
HasFieldsInRange (Mulh d a b) = AreRFields d a b
HasFieldsInRange (Mulhsu d a b) = AreRFields d a b
HasFieldsInRange (Mulhu d a b) = AreRFields d a b
HasFieldsInRange (Div d a b) = AreRFields d a b
HasFieldsInRange (Divu d a b) = AreRFields d a b
HasFieldsInRange (Rem d a b) = AreRFields d a b
HasFieldsInRange (Remu d a b) = AreRFields d a b
HasFieldsInRange (Fence d a bits) = (d < 32) × (a < 32) × (bits < 2 ^ 12)
HasFieldsInRange Ecall = Unit {0}
HasFieldsInRange Ebreak = Unit {0}
