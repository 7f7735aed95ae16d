-- What follows from the name, the operation and the operands of an instruction.
use Rattle.std.proofs.Common.{◌≡◌, ℕ, ◌^◌, ◌<◌, ℤ, List, [], ◌++◌, refl, sym, ap, ◌∙◌, subst, lit<}
use Rattle.std.proofs.Common.{to_z, of_z, w32, SFits, Bool, true, ◌&&◌, nat_lt, arith}
use Rattle.std.proofs.lemmas.Int.{to_z-of_z}
use Rattle.rv_decode.specs.declared.Ins.{Ins}
use Rattle.rv_decode.specs.declared.Ins.TheVariants.{Lui, Auipc, Jal, Jalr, Beq, Bne, Blt, Bge}
use Rattle.rv_decode.specs.declared.Ins.TheVariants.{Bltu, Bgeu, Lb, Lh, Lw, Lbu, Lhu, Sb, Sh, Sw}
use Rattle.rv_decode.specs.declared.Ins.TheVariants.{Addi, Slti, Sltiu, Xori, Ori, Andi, Slli, Srli}
use Rattle.rv_decode.specs.declared.Ins.TheVariants.{Srai, Add, Sub, Sll, Slt, Sltu, Xor, Srl, Sra}
use Rattle.rv_decode.specs.declared.Ins.TheVariants.{Or, And, Mul, Mulh, Mulhsu, Mulhu, Div, Divu}
use Rattle.rv_decode.specs.declared.Ins.TheVariants.{Rem, Remu, Fence, Ecall, Ebreak}
use Rattle.rv_decode.specs.Encoding.{encoding, word_of_fields, signed_bits, i_word, s_word, b_word}
use Rattle.rv_decode.specs.Encoding.{u_word, j_word}
use Rattle.rv_decode.specs.Inner.Names.{name}
use Rattle.rv_decode.specs.Inner.Operands.{operands, text_by}
use Rattle.rv_decode.specs.Inner.Operations.{operation}
use Rattle.rv_decode.specs.Range.{HasFieldsInRange, AreRFields, AreIFields, AreBFields, AreUFields}
use Rattle.rv_decode.specs.Range.{AreJFields}
use Rattle.rv_decode.specs.Sources.{sources}
use Rattle.rv_decode.specs.Text.{text}
use Rattle.rv_decode.specs.declared.operands.Operands.{Operands}
use Rattle.rv_decode.specs.declared.operands.Operands.TheVariants as form
use Rattle.rv_decode.specs.declared.writing.Operation.{Operation}

-- a number that is converted to 32 bits and back is unchanged
pub imm_again : (make : ℤ → Operands) (imm : ℤ) (o : Operands) → SFits w32 imm → make imm ≡ o
    → make (to_z w32 (of_z w32 imm)) ≡ o
imm_again make imm o fits e = ap make (to_z-of_z w32 imm fits) ∙ e

abbrev pub sources_by : Operands → ℕ × ℕ
sources_by (form.R d a b) = (a, b)
sources_by (form.Shift d a k) = (a, 0)
sources_by (form.I d a imm) = (a, 0)
sources_by (form.Address d a imm) = (a, 0)
sources_by (form.S a b imm) = (a, b)
sources_by (form.B a b imm) = (a, b)
sources_by (form.U d upper) = (0, 0)
sources_by (form.J d imm) = (0, 0)
sources_by (form.Plain d a bits) = (0, 0)

abbrev pub word_by : Operation → Operands → ℕ
word_by p (form.R d a b) = word_of_fields p.opcode d p.funct3 a b p.funct7
word_by p (form.Shift d a k) = word_of_fields p.opcode d p.funct3 a k p.funct7
word_by p (form.I d a imm) = i_word p.opcode p.funct3 d a (signed_bits 12 imm)
word_by p (form.Address d a imm) = i_word p.opcode p.funct3 d a (signed_bits 12 imm)
word_by p (form.S a b imm) = s_word p.opcode p.funct3 a b (signed_bits 12 imm)
word_by p (form.B a b imm) = b_word p.opcode p.funct3 a b (signed_bits 13 imm)
word_by p (form.U d upper) = u_word p.opcode d upper
word_by p (form.J d imm) = j_word p.opcode d (signed_bits 21 imm)
word_by p (form.Plain d a bits) = i_word p.opcode p.funct3 d a bits

pub record IsInRange (p : Operation) : Type 0 where
  pub opcode : p.opcode < 2 ^ 7
  pub funct3 : p.funct3 < 2 ^ 3
  pub funct7 : p.funct7 < 2 ^ 7

abbrev pub AreInRange : Operands → Type 0
AreInRange (form.R d a b) = AreRFields d a b
AreInRange (form.Shift d a k) = AreRFields d a k
AreInRange (form.I d a imm) = AreIFields d a imm
AreInRange (form.Address d a imm) = AreIFields d a imm
AreInRange (form.S a b imm) = AreIFields a b imm
AreInRange (form.B a b imm) = AreBFields a b imm
AreInRange (form.U d upper) = AreUFields d upper
AreInRange (form.J d imm) = AreJFields d imm
AreInRange (form.Plain d a bits) = (d < 32) × (a < 32) × (bits < 2 ^ 12)

abbrev is_small : Operation → Bool
is_small p = nat_lt p.opcode (2 ^ 7) && nat_lt p.funct3 (2 ^ 3) && nat_lt p.funct7 (2 ^ 7)

-- how name, operation and operands determine an instruction's text, sources and word
record IsTold (ins : Ins) : Type 0 where
  pub text_is : text_by (name ins) (operands ins) ≡ text ins
  pub sources_are : sources_by (operands ins) ≡ sources ins
  pub word_is : word_by (operation ins) (operands ins) ≡ encoding ins
  pub small : is_small (operation ins) ≡ true
  pub in_range : HasFieldsInRange ins → AreInRange (operands ins)

by : {ins : Ins} → text_by (name ins) (operands ins) ≡ text ins
    → sources_by (operands ins) ≡ sources ins
    → word_by (operation ins) (operands ins) ≡ encoding ins → is_small (operation ins) ≡ true
    → (HasFieldsInRange ins → AreInRange (operands ins)) → IsTold ins
by t s w o r = record { text_is = t; sources_are = s; word_is = w; small = o; in_range = r }

told : (ins : Ins) → IsTold ins
unfolding text name sources operation operands HasFieldsInRange
told (Lui d upper) = by refl refl refl refl (λ h. h)
told (Auipc d upper) = by refl refl refl refl (λ h. h)
told (Jal d imm) = by refl refl refl refl (λ h. h)
told (Jalr d a imm) = by refl refl refl refl (λ h. h)
told (Beq a b imm) = by refl refl refl refl (λ h. h)
told (Bne a b imm) = by refl refl refl refl (λ h. h)
told (Blt a b imm) = by refl refl refl refl (λ h. h)
told (Bge a b imm) = by refl refl refl refl (λ h. h)
told (Bltu a b imm) = by refl refl refl refl (λ h. h)
told (Bgeu a b imm) = by refl refl refl refl (λ h. h)
told (Lb d a imm) = by refl refl refl refl (λ h. h)
told (Lh d a imm) = by refl refl refl refl (λ h. h)
told (Lw d a imm) = by refl refl refl refl (λ h. h)
told (Lbu d a imm) = by refl refl refl refl (λ h. h)
told (Lhu d a imm) = by refl refl refl refl (λ h. h)
told (Sb a b imm) = by refl refl refl refl (λ h. h)
told (Sh a b imm) = by refl refl refl refl (λ h. h)
told (Sw a b imm) = by refl refl refl refl (λ h. h)
told (Addi d a imm) = by refl refl refl refl (λ h. h)
told (Slti d a imm) = by refl refl refl refl (λ h. h)
told (Sltiu d a imm) = by refl refl refl refl (λ h. h)
told (Xori d a imm) = by refl refl refl refl (λ h. h)
told (Ori d a imm) = by refl refl refl refl (λ h. h)
told (Andi d a imm) = by refl refl refl refl (λ h. h)
told (Slli d a k) = by refl refl refl refl (λ h. h)
told (Srli d a k) = by refl refl refl refl (λ h. h)
told (Srai d a k) = by refl refl refl refl (λ h. h)
told (Add d a b) = by refl refl refl refl (λ h. h)
told (Sub d a b) = by refl refl refl refl (λ h. h)
told (Sll d a b) = by refl refl refl refl (λ h. h)
told (Slt d a b) = by refl refl refl refl (λ h. h)
told (Sltu d a b) = by refl refl refl refl (λ h. h)
told (Xor d a b) = by refl refl refl refl (λ h. h)
told (Srl d a b) = by refl refl refl refl (λ h. h)
told (Sra d a b) = by refl refl refl refl (λ h. h)
told (Or d a b) = by refl refl refl refl (λ h. h)
told (And d a b) = by refl refl refl refl (λ h. h)
told (Mul d a b) = by refl refl refl refl (λ h. h)
told (Mulh d a b) = by refl refl refl refl (λ h. h)
told (Mulhsu d a b) = by refl refl refl refl (λ h. h)
told (Mulhu d a b) = by refl refl refl refl (λ h. h)
told (Div d a b) = by refl refl refl refl (λ h. h)
told (Divu d a b) = by refl refl refl refl (λ h. h)
told (Rem d a b) = by refl refl refl refl (λ h. h)
told (Remu d a b) = by refl refl refl refl (λ h. h)
told (Fence d a bits) = by refl refl refl refl (λ h. h)
told Ecall = by refl refl refl refl (λ h. (lit< tt, lit< tt, lit< tt))
told Ebreak = by refl refl refl refl (λ h. (lit< tt, lit< tt, lit< tt))

pub sources_are : (ins : Ins) → sources_by (operands ins) ≡ sources ins
sources_are ins = (told ins).sources_are

pub operation_fits : (ins : Ins) (p : Operation) → p ≡ operation ins → IsInRange p
operation_fits ins p e =
    let small : is_small p ≡ true = ap is_small e ∙ (told ins).small in
    record { opcode = grind arith; funct3 = grind arith; funct7 = grind arith }

-- the text of the name and the operands, after no other text, is the instruction's text
pub text_is : (ins : Ins) (before n : List ℕ) (o : Operands) → before ≡ [] → n ≡ name ins
    → o ≡ operands ins → before ++ text_by n o ≡ text ins
text_is ins before n o empty named parts = rw (empty, named, parts) (told ins).text_is

pub operands_fit : (ins : Ins) (o : Operands) → o ≡ operands ins → HasFieldsInRange ins
    → AreInRange o
operands_fit ins o e h = subst (λ x. AreInRange x) (sym e) ((told ins).in_range h)

-- the word of the operation and the operands is the instruction's word
pub word_arm : (ins : Ins) (p : Operation) (o : Operands) (w : ℕ) → p ≡ operation ins
    → o ≡ operands ins → w ≡ word_by p o → w ≡ encoding ins
word_arm ins p o w e f written =
    let is : word_by p o ≡ encoding ins = rw (e, f) (told ins).word_is in written ∙ is
