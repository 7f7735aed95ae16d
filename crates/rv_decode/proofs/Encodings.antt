-- The word of each instruction decodes to it, and no other word does.
use Rattle.std.proofs.Common.{◌≡◌, ℕ, ◌+◌, ◌*◌, ◌/◌, ◌%◌, ◌^◌, ◌<◌, ℤ, true, List, [], ◌∷◌, Some}
use Rattle.std.proofs.Common.{arith, refl, ap, sym, ◌∙◌, inl, inr, lit<, lit≤}
use Rattle.std.proofs.lemmas.Bool.{cases_Bool}
use Rattle.crpd_base.proofs.Options.{some_injective, none_some}
use Rattle.rv_decode.specs.declared.Ins.{Ins}
use Rattle.rv_decode.specs.declared.Ins.TheVariants.{Lui, Auipc, Jal, Jalr, Beq, Bne, Blt, Bge}
use Rattle.rv_decode.specs.declared.Ins.TheVariants.{Bltu, Bgeu, Lb, Lh, Lw, Lbu, Lhu, Sb, Sh, Sw}
use Rattle.rv_decode.specs.declared.Ins.TheVariants.{Addi, Slti, Sltiu, Xori, Ori, Andi, Slli, Srli}
use Rattle.rv_decode.specs.declared.Ins.TheVariants.{Srai, Add, Sub, Sll, Slt, Sltu, Xor, Srl, Sra}
use Rattle.rv_decode.specs.declared.Ins.TheVariants.{Or, And, Mul, Mulh, Mulhsu, Mulhu, Div, Divu}
use Rattle.rv_decode.specs.declared.Ins.TheVariants.{Rem, Remu, Fence, Ecall, Ebreak}
use Rattle.rv_decode.specs.Table.{Key, bits, rd, rs1, rs2, i_imm, s_imm, b_imm, j_imm, signed}
use Rattle.rv_decode.specs.Table.{fits_key, table, row_of, ins_of_word, r_form, i_form, s_form}
use Rattle.rv_decode.specs.Table.{b_form, u_form, j_form, fence_form}
use Rattle.rv_decode.specs.Table.Key.{Opcode, Funct3, Funct7, Whole}
use Rattle.rv_decode.specs.Range.{HasFieldsInRange, IsSigned, IsEven}
use Rattle.rv_decode.specs.Encoding.{IsWordOf, encoding, word_of_fields, signed_bits, i_word}
use Rattle.rv_decode.specs.Encoding.{s_word, b_word, u_word, j_word}
use Rattle.rv_decode.proofs.Rows.{row_at, at_fields, opcode_is, funct3_is, funct7_is}
use Rattle.rv_decode.proofs.Pieces.{Pieces, pieces, whole, high_bits, bit_31, bits_30_25, bit_7}
use Rattle.rv_decode.proofs.Pieces.{bits_11_8, bits_small, bits_again, signed_again, UpperPieces}
use Rattle.rv_decode.proofs.Pieces.{upper_pieces, upper_whole, top_of_upper, low_of_upper, bit_20}
use Rattle.rv_decode.proofs.Pieces.{bits_30_21, high_joined, rs2_of_high, funct7_of_high, s_joined}
use Rattle.rv_decode.proofs.Pieces.{s_low, s_high, b_joined, BranchParts, branch_parts, j_joined}
use Rattle.rv_decode.proofs.Pieces.{JumpParts, jump_parts, even_bits_13, even_bits_21}

three_same : {A B C : Type 0} (make : A → B → C → Ins) {x x' : A} {y y' : B} {z z' : C} → x ≡ x'
    → y ≡ y' → z ≡ z' → Some (make x y z) ≡ Some (make x' y' z')
three_same make p q r = rw (p, q, r) refl

two_same : {A B : Type 0} (make : A → B → Ins) {x x' : A} {y y' : B} → x ≡ x' → y ≡ y'
    → Some (make x y) ≡ Some (make x' y')
two_same make p q = rw (p, q) refl

-- a word with the fields of an instruction decodes to it
r_decoded : (make : ℕ → ℕ → ℕ → Ins) (o f g : ℕ) → o < 2 ^ 7 → f < 2 ^ 3 → g < 2 ^ 7 → (d a b : ℕ)
    → ((w : ℕ) → row_at table o f g w ≡ Some (r_form make w)) → (d < 32) × (a < 32) × (b < 32)
    → ins_of_word (word_of_fields o d f a b g) ≡ Some (make d a b)
r_decoded make o f g ho hf hg d a b found h =
    let w : ℕ = word_of_fields o d f a b g in
    let p : Pieces w o d f a b g = pieces o d f a b g ho h.0 hf h.1 h.2 hg in
    at_fields w o f g p.opcode p.funct3 p.funct7 ∙ found w ∙ three_same make p.rd p.rs1 p.rs2

high_pieces : (o f d a m : ℕ) → o < 2 ^ 7 → f < 2 ^ 3 → d < 32 → a < 32 → m < 2 ^ 12
    → Pieces (i_word o f d a m) o d f a (m % 2 ^ 5) (m / 2 ^ 5)
high_pieces o f d a m ho hf hd ha hm =
    pieces o d f a (m % 2 ^ 5) (m / 2 ^ 5) ho hd hf ha (omega arith) (omega arith)

fence_decoded : (make : ℕ → ℕ → ℕ → Ins) (o f : ℕ) → o < 2 ^ 7 → f < 2 ^ 3 → (d a m : ℕ)
    → ((w g : ℕ) → row_at table o f g w ≡ Some (fence_form make w))
    → (d < 32) × (a < 32) × (m < 2 ^ 12) → ins_of_word (i_word o f d a m) ≡ Some (make d a m)
fence_decoded make o f ho hf d a m found h =
    let w : ℕ = i_word o f d a m in
    let p : Pieces w o d f a (m % 2 ^ 5) (m / 2 ^ 5) = high_pieces o f d a m ho hf h.0 h.1 h.2 in
    at_fields w o f (bits 25 7 w) p.opcode p.funct3 refl ∙ found w (bits 25 7 w)
    ∙ three_same make p.rd p.rs1 (high_joined _ _ _ _ (high_bits w) p.rs2 p.funct7)

i_decoded : (make : ℕ → ℕ → ℤ → Ins) (o f : ℕ) → o < 2 ^ 7 → f < 2 ^ 3 → (d a : ℕ) (imm : ℤ)
    → ((w g : ℕ) → row_at table o f g w ≡ Some (i_form make w))
    → (d < 32) × (a < 32) × IsSigned 12 imm
    → ins_of_word (i_word o f d a (signed_bits 12 imm)) ≡ Some (make d a imm)
i_decoded make o f ho hf d a imm found h =
    let m : ℕ = signed_bits 12 imm in
    let w : ℕ = i_word o f d a m in
    let p : Pieces w o d f a (m % 2 ^ 5) (m / 2 ^ 5) =
    high_pieces o f d a m ho hf h.0 h.1 (bits_small 12 imm (lit≤ tt) h.2) in
    let e : bits 20 12 w ≡ m = high_joined _ _ _ _ (high_bits w) p.rs2 p.funct7 in
    at_fields w o f (bits 25 7 w) p.opcode p.funct3 refl ∙ found w (bits 25 7 w)
    ∙ three_same make p.rd p.rs1 (ap (signed 12) e ∙ bits_again 12 imm (lit≤ tt) h.2)

s_decoded : (make : ℕ → ℕ → ℤ → Ins) (o f : ℕ) → o < 2 ^ 7 → f < 2 ^ 3 → (a b : ℕ) (imm : ℤ)
    → ((w g : ℕ) → row_at table o f g w ≡ Some (s_form make w))
    → (a < 32) × (b < 32) × IsSigned 12 imm
    → ins_of_word (s_word o f a b (signed_bits 12 imm)) ≡ Some (make a b imm)
s_decoded make o f ho hf a b imm found h =
    let m : ℕ = signed_bits 12 imm in
    let small : m < 2 ^ 12 = bits_small 12 imm (lit≤ tt) h.2 in
    let w : ℕ = s_word o f a b m in
    let p : Pieces w o (m % 2 ^ 5) f a b (m / 2 ^ 5) =
    pieces o (m % 2 ^ 5) f a b (m / 2 ^ 5) ho (omega arith) hf h.0 h.1 (omega arith) in
    at_fields w o f (bits 25 7 w) p.opcode p.funct3 refl ∙ found w (bits 25 7 w)
    ∙ three_same make p.rs1 p.rs2
    (ap (signed 12) (s_joined _ _ _ p.funct7 p.rd) ∙ bits_again 12 imm (lit≤ tt) h.2)

b_decoded : (make : ℕ → ℕ → ℤ → Ins) (o f : ℕ) → o < 2 ^ 7 → f < 2 ^ 3 → (a b : ℕ) (imm : ℤ)
    → ((w g : ℕ) → row_at table o f g w ≡ Some (b_form make w))
    → (a < 32) × (b < 32) × IsSigned 13 imm × IsEven imm
    → ins_of_word (b_word o f a b (signed_bits 13 imm)) ≡ Some (make a b imm)
b_decoded make o f ho hf a b imm found h =
    let m : ℕ = signed_bits 13 imm in
    let small : m < 2 ^ 13 = bits_small 13 imm (lit≤ tt) h.2 in
    let even : m % 2 ≡ 0 = even_bits_13 imm h.2 h.3 in
    let w : ℕ = b_word o f a b m in
    let d : ℕ = m / 2 ^ 11 % 2 + m / 2 % 2 ^ 4 * 2 in
    let g : ℕ = m / 2 ^ 5 % 2 ^ 6 + m / 2 ^ 12 * 2 ^ 6 in
    let p : Pieces w o d f a b g = pieces o d f a b g ho (omega arith) hf h.0 h.1 (omega arith) in
    let e : bits 31 1 w * 2 ^ 12 + bits 7 1 w * 2 ^ 11 + bits 25 6 w * 2 ^ 5 + bits 8 4 w * 2 ≡ m =
    b_joined _ _ _ _ _ _ _ small even (bit_31 w) (bits_30_25 w) (bit_7 w)
    (bits_11_8 w) p.funct7 p.rd in
    at_fields w o f (bits 25 7 w) p.opcode p.funct3 refl ∙ found w (bits 25 7 w)
    ∙ three_same make p.rs1 p.rs2 (ap (signed 13) e ∙ bits_again 13 imm (lit≤ tt) h.2)

u_decoded : (make : ℕ → ℕ → Ins) (o : ℕ) → o < 2 ^ 7 → (d upper : ℕ)
    → ((w f g : ℕ) → row_at table o f g w ≡ Some (u_form make w)) → (d < 32) × (upper < 2 ^ 20)
    → ins_of_word (u_word o d upper) ≡ Some (make d upper)
u_decoded make o ho d upper found h =
    let w : ℕ = u_word o d upper in
    let p : UpperPieces w o d upper = upper_pieces o d upper ho h.0 h.1 in
    at_fields w o (bits 12 3 w) (bits 25 7 w) p.opcode refl refl
    ∙ found w (bits 12 3 w) (bits 25 7 w) ∙ two_same make p.rd p.upper

j_decoded : (make : ℕ → ℤ → Ins) (o : ℕ) → o < 2 ^ 7 → (d : ℕ) (imm : ℤ)
    → ((w f g : ℕ) → row_at table o f g w ≡ Some (j_form make w))
    → (d < 32) × IsSigned 21 imm × IsEven imm
    → ins_of_word (j_word o d (signed_bits 21 imm)) ≡ Some (make d imm)
j_decoded make o ho d imm found h =
    let m : ℕ = signed_bits 21 imm in
    let small : m < 2 ^ 21 = bits_small 21 imm (lit≤ tt) h.1 in
    let even : m % 2 ≡ 0 = even_bits_21 imm h.1 h.2 in
    let upper : ℕ = m / 2 ^ 12 % 2 ^ 8 + m / 2 ^ 11 % 2 * 2 ^ 8 + m / 2 % 2 ^ 10 * 2 ^ 9
    + m / 2 ^ 20 * 2 ^ 19 in
    let w : ℕ = j_word o d m in
    let p : UpperPieces w o d upper = upper_pieces o d upper ho h.0 (omega arith) in
    let e : bits 31 1 w * 2 ^ 20 + bits 12 8 w * 2 ^ 12 + bits 20 1 w * 2 ^ 11 + bits 21 10 w * 2
    ≡ m =
    j_joined _ _ _ _ _ _ small even (top_of_upper w) (low_of_upper w) (bit_20 w)
    (bits_30_21 w) p.upper in
    at_fields w o (bits 12 3 w) (bits 25 7 w) p.opcode refl refl
    ∙ found w (bits 12 3 w) (bits 25 7 w)
    ∙ two_same make p.rd (ap (signed 21) e ∙ bits_again 21 imm (lit≤ tt) h.1)

whole_decoded_ecall : ins_of_word (encoding Ecall) ≡ Some Ecall
unfolding ins_of_word table
whole_decoded_ecall = refl

whole_decoded_ebreak : ins_of_word (encoding Ebreak) ≡ Some Ebreak
unfolding ins_of_word table
whole_decoded_ebreak = refl

-- a word that fits a row is assembled again from its fields
r_encoded : (o f g w : ℕ) → w < 2 ^ 32 → fits_key (Funct7 o f g) w ≡ true
    → word_of_fields o (rd w) f (rs1 w) (rs2 w) g ≡ w
r_encoded o f g w within h =
    let p = funct7_is w o f g h in rw (← p.0, ← p.1, ← p.2) (whole w within)

fence_encoded : (o f w : ℕ) → w < 2 ^ 32 → fits_key (Funct3 o f) w ≡ true
    → i_word o f (rd w) (rs1 w) (bits 20 12 w) ≡ w
fence_encoded o f w within h =
    let p = funct3_is w o f h in rw (← p.0, ← p.1, rs2_of_high w, funct7_of_high w) (whole w within)

i_encoded : (o f w : ℕ) → w < 2 ^ 32 → fits_key (Funct3 o f) w ≡ true
    → i_word o f (rd w) (rs1 w) (signed_bits 12 (i_imm w)) ≡ w
i_encoded o f w within h =
    rw (signed_again 12 (bits 20 12 w) (lit≤ tt) (omega arith)) (fence_encoded o f w within h)

s_encoded : (o f w : ℕ) → w < 2 ^ 32 → fits_key (Funct3 o f) w ≡ true
    → s_word o f (rs1 w) (rs2 w) (signed_bits 12 (s_imm w)) ≡ w
s_encoded o f w within h =
    let p = funct3_is w o f h in
    let m : ℕ = bits 25 7 w * 2 ^ 5 + bits 7 5 w in
    let low : m % 2 ^ 5 ≡ bits 7 5 w = s_low _ _ (omega arith) in
    let high : m / 2 ^ 5 ≡ bits 25 7 w = s_high _ _ (omega arith) in
    rw (signed_again 12 m (lit≤ tt) (omega arith), low, high, ← p.0, ← p.1) (whole w within)

b_encoded : (o f w : ℕ) → w < 2 ^ 32 → fits_key (Funct3 o f) w ≡ true
    → b_word o f (rs1 w) (rs2 w) (signed_bits 13 (b_imm w)) ≡ w
b_encoded o f w within h =
    let p = funct3_is w o f h in
    let m : ℕ = bits 31 1 w * 2 ^ 12 + bits 7 1 w * 2 ^ 11 + bits 25 6 w * 2 ^ 5 + bits 8 4 w * 2 in
    let e : BranchParts m (bits 7 5 w) (bits 25 7 w) =
    branch_parts _ _ _ _ _ _ (omega arith) (omega arith) (bit_31 w) (bits_30_25 w) (bit_7 w)
    (bits_11_8 w) in
    rw (signed_again 13 m (lit≤ tt) e.small, e.low, e.high, ← p.0, ← p.1) (whole w within)

u_encoded : (o w : ℕ) → w < 2 ^ 32 → fits_key (Opcode o) w ≡ true
    → u_word o (rd w) (bits 12 20 w) ≡ w
u_encoded o w within h = let p = opcode_is w o h in rw (← p) (upper_whole w within)

j_encoded : (o w : ℕ) → w < 2 ^ 32 → fits_key (Opcode o) w ≡ true
    → j_word o (rd w) (signed_bits 21 (j_imm w)) ≡ w
j_encoded o w within h =
    let p = opcode_is w o h in
    let m : ℕ = bits 31 1 w * 2 ^ 20 + bits 12 8 w * 2 ^ 12 + bits 20 1 w * 2 ^ 11
    + bits 21 10 w * 2 in
    let e : JumpParts m (bits 12 20 w) = jump_parts _ _ _ _ _ (omega arith) (top_of_upper w)
    (low_of_upper w) (bit_20 w) (bits_30_21 w) in
    rw (signed_again 21 m (lit≤ tt) e.small, e.upper, ← p) (upper_whole w within)

whole_encoded : (v w : ℕ) → w < 2 ^ 32 → fits_key (Whole v) w ≡ true → v ≡ w
whole_encoded v w within h = let e : w ≡ v = grind arith in sym e

-- the word of each instruction decodes to it
pub encoding_decoded : (ins : Ins) → HasFieldsInRange ins → ins_of_word (encoding ins) ≡ Some ins
unfolding HasFieldsInRange table
encoding_decoded (Lui d upper) h = u_decoded Lui 0x37 (lit< tt) d upper (λ w f g. refl) h
encoding_decoded (Auipc d upper) h = u_decoded Auipc 0x17 (lit< tt) d upper (λ w f g. refl) h
encoding_decoded (Jal d imm) h = j_decoded Jal 0x6F (lit< tt) d imm (λ w f g. refl) h
encoding_decoded (Jalr d a imm) h =
    i_decoded Jalr 0x67 0 (lit< tt) (lit< tt) d a imm (λ w g. refl) h
encoding_decoded (Beq a b imm) h = b_decoded Beq 0x63 0 (lit< tt) (lit< tt) a b imm (λ w g. refl) h
encoding_decoded (Bne a b imm) h = b_decoded Bne 0x63 1 (lit< tt) (lit< tt) a b imm (λ w g. refl) h
encoding_decoded (Blt a b imm) h = b_decoded Blt 0x63 4 (lit< tt) (lit< tt) a b imm (λ w g. refl) h
encoding_decoded (Bge a b imm) h = b_decoded Bge 0x63 5 (lit< tt) (lit< tt) a b imm (λ w g. refl) h
encoding_decoded (Bltu a b imm) h =
    b_decoded Bltu 0x63 6 (lit< tt) (lit< tt) a b imm (λ w g. refl) h
encoding_decoded (Bgeu a b imm) h =
    b_decoded Bgeu 0x63 7 (lit< tt) (lit< tt) a b imm (λ w g. refl) h
encoding_decoded (Lb d a imm) h = i_decoded Lb 0x03 0 (lit< tt) (lit< tt) d a imm (λ w g. refl) h
encoding_decoded (Lh d a imm) h = i_decoded Lh 0x03 1 (lit< tt) (lit< tt) d a imm (λ w g. refl) h
encoding_decoded (Lw d a imm) h = i_decoded Lw 0x03 2 (lit< tt) (lit< tt) d a imm (λ w g. refl) h
encoding_decoded (Lbu d a imm) h = i_decoded Lbu 0x03 4 (lit< tt) (lit< tt) d a imm (λ w g. refl) h
encoding_decoded (Lhu d a imm) h = i_decoded Lhu 0x03 5 (lit< tt) (lit< tt) d a imm (λ w g. refl) h
encoding_decoded (Sb a b imm) h = s_decoded Sb 0x23 0 (lit< tt) (lit< tt) a b imm (λ w g. refl) h
encoding_decoded (Sh a b imm) h = s_decoded Sh 0x23 1 (lit< tt) (lit< tt) a b imm (λ w g. refl) h
encoding_decoded (Sw a b imm) h = s_decoded Sw 0x23 2 (lit< tt) (lit< tt) a b imm (λ w g. refl) h
encoding_decoded (Addi d a imm) h =
    i_decoded Addi 0x13 0 (lit< tt) (lit< tt) d a imm (λ w g. refl) h
encoding_decoded (Slti d a imm) h =
    i_decoded Slti 0x13 2 (lit< tt) (lit< tt) d a imm (λ w g. refl) h
encoding_decoded (Sltiu d a imm) h =
    i_decoded Sltiu 0x13 3 (lit< tt) (lit< tt) d a imm (λ w g. refl) h
encoding_decoded (Xori d a imm) h =
    i_decoded Xori 0x13 4 (lit< tt) (lit< tt) d a imm (λ w g. refl) h
encoding_decoded (Ori d a imm) h = i_decoded Ori 0x13 6 (lit< tt) (lit< tt) d a imm (λ w g. refl) h
encoding_decoded (Andi d a imm) h =
    i_decoded Andi 0x13 7 (lit< tt) (lit< tt) d a imm (λ w g. refl) h
encoding_decoded (Slli d a k) h =
    r_decoded Slli 0x13 1 0 (lit< tt) (lit< tt) (lit< tt) d a k (λ w. refl) h
encoding_decoded (Srli d a k) h =
    r_decoded Srli 0x13 5 0 (lit< tt) (lit< tt) (lit< tt) d a k (λ w. refl) h
encoding_decoded (Srai d a k) h =
    r_decoded Srai 0x13 5 0x20 (lit< tt) (lit< tt) (lit< tt) d a k (λ w. refl) h
encoding_decoded (Add d a b) h =
    r_decoded Add 0x33 0 0 (lit< tt) (lit< tt) (lit< tt) d a b (λ w. refl) h
encoding_decoded (Sub d a b) h =
    r_decoded Sub 0x33 0 0x20 (lit< tt) (lit< tt) (lit< tt) d a b (λ w. refl) h
encoding_decoded (Sll d a b) h =
    r_decoded Sll 0x33 1 0 (lit< tt) (lit< tt) (lit< tt) d a b (λ w. refl) h
encoding_decoded (Slt d a b) h =
    r_decoded Slt 0x33 2 0 (lit< tt) (lit< tt) (lit< tt) d a b (λ w. refl) h
encoding_decoded (Sltu d a b) h =
    r_decoded Sltu 0x33 3 0 (lit< tt) (lit< tt) (lit< tt) d a b (λ w. refl) h
encoding_decoded (Xor d a b) h =
    r_decoded Xor 0x33 4 0 (lit< tt) (lit< tt) (lit< tt) d a b (λ w. refl) h
encoding_decoded (Srl d a b) h =
    r_decoded Srl 0x33 5 0 (lit< tt) (lit< tt) (lit< tt) d a b (λ w. refl) h
encoding_decoded (Sra d a b) h =
    r_decoded Sra 0x33 5 0x20 (lit< tt) (lit< tt) (lit< tt) d a b (λ w. refl) h
encoding_decoded (Or d a b) h =
    r_decoded Or 0x33 6 0 (lit< tt) (lit< tt) (lit< tt) d a b (λ w. refl) h
encoding_decoded (And d a b) h =
    r_decoded And 0x33 7 0 (lit< tt) (lit< tt) (lit< tt) d a b (λ w. refl) h
encoding_decoded (Mul d a b) h =
    r_decoded Mul 0x33 0 1 (lit< tt) (lit< tt) (lit< tt) d a b (λ w. refl) h
encoding_decoded (Mulh d a b) h =
    r_decoded Mulh 0x33 1 1 (lit< tt) (lit< tt) (lit< tt) d a b (λ w. refl) h
encoding_decoded (Mulhsu d a b) h =
    r_decoded Mulhsu 0x33 2 1 (lit< tt) (lit< tt) (lit< tt) d a b (λ w. refl) h
encoding_decoded (Mulhu d a b) h =
    r_decoded Mulhu 0x33 3 1 (lit< tt) (lit< tt) (lit< tt) d a b (λ w. refl) h
encoding_decoded (Div d a b) h =
    r_decoded Div 0x33 4 1 (lit< tt) (lit< tt) (lit< tt) d a b (λ w. refl) h
encoding_decoded (Divu d a b) h =
    r_decoded Divu 0x33 5 1 (lit< tt) (lit< tt) (lit< tt) d a b (λ w. refl) h
encoding_decoded (Rem d a b) h =
    r_decoded Rem 0x33 6 1 (lit< tt) (lit< tt) (lit< tt) d a b (λ w. refl) h
encoding_decoded (Remu d a b) h =
    r_decoded Remu 0x33 7 1 (lit< tt) (lit< tt) (lit< tt) d a b (λ w. refl) h
encoding_decoded (Fence d a bits) h =
    fence_decoded Fence 0x0F 0 (lit< tt) (lit< tt) d a bits (λ w g. refl) h
encoding_decoded Ecall h = whole_decoded_ecall
encoding_decoded Ebreak h = whole_decoded_ebreak

-- a word that fits one of these rows is the word of the row's instruction
abbrev pub IsEncoded : Key × (ℕ → Ins) → Type 0
IsEncoded r = (w : ℕ) → w < 2 ^ 32 → fits_key r.0 w ≡ true → encoding (r.1 w) ≡ w

abbrev pub AreEncoded : List (Key × (ℕ → Ins)) → Type 0
AreEncoded [] = Unit {0}
AreEncoded (r ∷ rows) = IsEncoded r × AreEncoded rows

each_encoded : AreEncoded table
unfolding table
each_encoded =
    (u_encoded 0x37, (u_encoded 0x17, (j_encoded 0x6F, (i_encoded 0x67 0, (b_encoded 0x63 0, (b_encoded 0x63 1, (b_encoded 0x63 4, (b_encoded 0x63 5, (b_encoded 0x63 6, (b_encoded 0x63 7, (i_encoded 0x03 0, (i_encoded 0x03 1, (i_encoded 0x03 2, (i_encoded 0x03 4, (i_encoded 0x03 5, (s_encoded 0x23 0, (s_encoded 0x23 1, (s_encoded 0x23 2, (i_encoded 0x13 0, (i_encoded 0x13 2, (i_encoded 0x13 3, (i_encoded 0x13 4, (i_encoded 0x13 6, (i_encoded 0x13 7, (r_encoded 0x13 1 0, (r_encoded 0x13 5 0, (r_encoded 0x13 5 0x20, (r_encoded 0x33 0 0, (r_encoded 0x33 0 0x20, (r_encoded 0x33 1 0, (r_encoded 0x33 2 0, (r_encoded 0x33 3 0, (r_encoded 0x33 4 0, (r_encoded 0x33 5 0, (r_encoded 0x33 5 0x20, (r_encoded 0x33 6 0, (r_encoded 0x33 7 0, (r_encoded 0x33 0 1, (r_encoded 0x33 1 1, (r_encoded 0x33 2 1, (r_encoded 0x33 3 1, (r_encoded 0x33 4 1, (r_encoded 0x33 5 1, (r_encoded 0x33 6 1, (r_encoded 0x33 7 1, (fence_encoded 0x0F 0, (whole_encoded 0x00000073, (whole_encoded 0x00100073, tt))))))))))))))))))))))))))))))))))))))))))))))))

encoded_by : (rows : List (Key × (ℕ → Ins))) (w : ℕ) (ins : Ins) → AreEncoded rows → w < 2 ^ 32
    → row_of rows w ≡ Some ins → encoding ins ≡ w
encoded_by [] w ins h within found = absurd (none_some found)
encoded_by (r ∷ rows) w ins h within found = elim (cases_Bool (fits_key r.0 w)) [
  | inl e ↦ let g = rw e at found in ap encoding (sym (some_injective g)) ∙ h.0 w within e
  | inr e ↦ let g = rw e at found in encoded_by rows w ins h.1 within g
]

-- the word of the decoded instruction is the word itself
encoding_again : (w : ℕ) (ins : Ins) → w < 2 ^ 32 → ins_of_word w ≡ Some ins → encoding ins ≡ w
unfolding ins_of_word
encoding_again w ins within found = encoded_by table w ins each_encoded within found

pub is_word_of : (ins : Ins) (w : ℕ) → HasFieldsInRange ins → w ≡ encoding ins → IsWordOf ins w
is_word_of ins w h e = record {
  decoded = ap ins_of_word e ∙ encoding_decoded ins h;
  only = λ v within found. e ∙ encoding_again v ins within found;
}
