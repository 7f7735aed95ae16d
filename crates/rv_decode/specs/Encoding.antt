-- The word of an instruction, and the law on the table's rows.
use Rattle.std.specs.Prelude.{ℕ, ℤ, pos, negsuc, ◌+◌, ◌-◌, ◌*◌, ◌/◌, ◌%◌, ◌≡◌, ◌^◌, ◌<◌, Some, List}
use Rattle.std.specs.Prelude.{IsTrue}
use Rattle.std.specs.List.{AllPairs}
use Rattle.rv_decode.specs.declared.Ins.{Ins}
use Rattle.rv_decode.specs.declared.Ins.TheVariants.{Lui, Auipc, Jal, Jalr, Beq, Bne, Blt, Bge}
use Rattle.rv_decode.specs.declared.Ins.TheVariants.{Bltu, Bgeu, Lb, Lh, Lw, Lbu, Lhu, Sb, Sh, Sw}
use Rattle.rv_decode.specs.declared.Ins.TheVariants.{Addi, Slti, Sltiu, Xori, Ori, Andi, Slli, Srli}
use Rattle.rv_decode.specs.declared.Ins.TheVariants.{Srai, Add, Sub, Sll, Slt, Sltu, Xor, Srl, Sra}
use Rattle.rv_decode.specs.declared.Ins.TheVariants.{Or, And, Mul, Mulh, Mulhsu, Mulhu, Div, Divu}
use Rattle.rv_decode.specs.declared.Ins.TheVariants.{Rem, Remu, Fence, Ecall, Ebreak}
use Rattle.rv_decode.specs.Table.{Key, fits_key, ins_of_word}

-- the six fields of a word, from the lowest: 7, 5, 3, 5, 5 and 7 bits
abbrev pub word_of_fields : ℕ → ℕ → ℕ → ℕ → ℕ → ℕ → ℕ
word_of_fields o d f a b g = o + d * 2 ^ 7 + f * 2 ^ 12 + a * 2 ^ 15 + b * 2 ^ 20 + g * 2 ^ 25

-- the n bits of a signed number
abbrev pub signed_bits : ℕ → ℤ → ℕ
signed_bits n (pos k) = k
signed_bits n (negsuc k) = 2 ^ n - 1 - k

-- the word of the I form, with an immediate's bits at 31 to 20
abbrev pub i_word : ℕ → ℕ → ℕ → ℕ → ℕ → ℕ
i_word o f d a m = word_of_fields o d f a (m % 2 ^ 5) (m / 2 ^ 5)

-- the word of the S form
abbrev pub s_word : ℕ → ℕ → ℕ → ℕ → ℕ → ℕ
s_word o f a b m = word_of_fields o (m % 2 ^ 5) f a b (m / 2 ^ 5)

-- the word of the B form
abbrev pub b_word : ℕ → ℕ → ℕ → ℕ → ℕ → ℕ
b_word o f a b m =
    word_of_fields o (m / 2 ^ 11 % 2 + m / 2 % 2 ^ 4 * 2) f a b
    (m / 2 ^ 5 % 2 ^ 6 + m / 2 ^ 12 * 2 ^ 6)

-- the word of the U form
abbrev pub u_word : ℕ → ℕ → ℕ → ℕ
u_word o d upper = o + d * 2 ^ 7 + upper * 2 ^ 12

-- the word of the J form
abbrev pub j_word : ℕ → ℕ → ℕ → ℕ
j_word o d m =
    u_word o d (m / 2 ^ 12 % 2 ^ 8 + m / 2 ^ 11 % 2 * 2 ^ 8 + m / 2 % 2 ^ 10 * 2 ^ 9
    + m / 2 ^ 20 * 2 ^ 19)

-- the word of each instruction
abbrev pub encoding : Ins → ℕ
encoding (Lui d upper) = u_word 0x37 d upper
encoding (Auipc d upper) = u_word 0x17 d upper
encoding (Jal d imm) = j_word 0x6F d (signed_bits 21 imm)
encoding (Jalr d a imm) = i_word 0x67 0 d a (signed_bits 12 imm)
encoding (Beq a b imm) = b_word 0x63 0 a b (signed_bits 13 imm)
encoding (Bne a b imm) = b_word 0x63 1 a b (signed_bits 13 imm)
encoding (Blt a b imm) = b_word 0x63 4 a b (signed_bits 13 imm)
encoding (Bge a b imm) = b_word 0x63 5 a b (signed_bits 13 imm)
encoding (Bltu a b imm) = b_word 0x63 6 a b (signed_bits 13 imm)
encoding (Bgeu a b imm) = b_word 0x63 7 a b (signed_bits 13 imm)
encoding (Lb d a imm) = i_word 0x03 0 d a (signed_bits 12 imm)
encoding (Lh d a imm) = i_word 0x03 1 d a (signed_bits 12 imm)
encoding (Lw d a imm) = i_word 0x03 2 d a (signed_bits 12 imm)
encoding (Lbu d a imm) = i_word 0x03 4 d a (signed_bits 12 imm)
encoding (Lhu d a imm) = i_word 0x03 5 d a (signed_bits 12 imm)
encoding (Sb a b imm) = s_word 0x23 0 a b (signed_bits 12 imm)
encoding (Sh a b imm) = s_word 0x23 1 a b (signed_bits 12 imm)
encoding (Sw a b imm) = s_word 0x23 2 a b (signed_bits 12 imm)
encoding (Addi d a imm) = i_word 0x13 0 d a (signed_bits 12 imm)
encoding (Slti d a imm) = i_word 0x13 2 d a (signed_bits 12 imm)
encoding (Sltiu d a imm) = i_word 0x13 3 d a (signed_bits 12 imm)
encoding (Xori d a imm) = i_word 0x13 4 d a (signed_bits 12 imm)
encoding (Ori d a imm) = i_word 0x13 6 d a (signed_bits 12 imm)
encoding (Andi d a imm) = i_word 0x13 7 d a (signed_bits 12 imm)
encoding (Slli d a k) = word_of_fields 0x13 d 1 a k 0
encoding (Srli d a k) = word_of_fields 0x13 d 5 a k 0
encoding (Srai d a k) = word_of_fields 0x13 d 5 a k 0x20
encoding (Add d a b) = word_of_fields 0x33 d 0 a b 0
encoding (Sub d a b) = word_of_fields 0x33 d 0 a b 0x20
encoding (Sll d a b) = word_of_fields 0x33 d 1 a b 0
encoding (Slt d a b) = word_of_fields 0x33 d 2 a b 0
encoding (Sltu d a b) = word_of_fields 0x33 d 3 a b 0
encoding (Xor d a b) = word_of_fields 0x33 d 4 a b 0
encoding (Srl d a b) = word_of_fields 0x33 d 5 a b 0
encoding (Sra d a b) = word_of_fields 0x33 d 5 a b 0x20
encoding (Or d a b) = word_of_fields 0x33 d 6 a b 0
encoding (And d a b) = word_of_fields 0x33 d 7 a b 0
encoding (Mul d a b) = word_of_fields 0x33 d 0 a b 1
encoding (Mulh d a b) = word_of_fields 0x33 d 1 a b 1
encoding (Mulhsu d a b) = word_of_fields 0x33 d 2 a b 1
encoding (Mulhu d a b) = word_of_fields 0x33 d 3 a b 1
encoding (Div d a b) = word_of_fields 0x33 d 4 a b 1
encoding (Divu d a b) = word_of_fields 0x33 d 5 a b 1
encoding (Rem d a b) = word_of_fields 0x33 d 6 a b 1
encoding (Remu d a b) = word_of_fields 0x33 d 7 a b 1
encoding (Fence d a bits) = i_word 0x0F 0 d a bits
encoding Ecall = 0x00000073
encoding Ebreak = 0x00100073

-- a word that decodes to the instruction, and the only one
pub record IsWordOf (ins : Ins) (w : ℕ) : Type 0 where
  pub decoded : ins_of_word w ≡ Some ins
  pub only : (v : ℕ) → v < 2 ^ 32 → ins_of_word v ≡ Some ins → w ≡ v

-- no word fits two of these rows
abbrev pub ExcludeEachOther : List (Key × (ℕ → Ins)) → Type 0
ExcludeEachOther rows =
    (w : ℕ) → AllPairs (λ r s. IsTrue (fits_key r.0 w) → IsTrue (fits_key s.0 w) → ⊥) rows
