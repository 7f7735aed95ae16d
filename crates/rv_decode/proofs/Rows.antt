-- The row of a word by its opcode, funct3 and funct7.
use Rattle.std.proofs.Common.{◌≡◌, ℕ, ◌==◌, Bool, true, false, ◌&&◌, if◌then◌else◌, List, [], ◌∷◌}
use Rattle.std.proofs.Common.{Option, Some, None, ℤ, refl, sym, ◌∙◌, ap, to_z, of_z, w32, SFits}
use Rattle.std.proofs.Common.{arith}
use Rattle.std.proofs.lemmas.Int.{to_z-of_z}
use Rattle.rv_decode.specs.declared.Ins.{Ins}
use Rattle.rv_decode.specs.declared.fields.Fields.{Fields}
use Rattle.rv_decode.specs.Range.{HasFieldsInRange}
use Rattle.rv_decode.specs.Table.{Key, bits, rd, rs1, rs2, i_imm, s_imm, b_imm, j_imm, r_form}
use Rattle.rv_decode.specs.Table.{i_form, s_form, b_form, u_form, j_form, fence_form, fits_key}
use Rattle.rv_decode.specs.Table.{table, row_of, ins_of_word}
use Rattle.rv_decode.specs.Table.Key.{Opcode, Funct3, Funct7, Whole}
use Rattle.rv_decode.proofs.Ranges.{row_in_range}

-- whether a word with this opcode, funct3 and funct7 fits
abbrev pub fits_at : Key → ℕ → ℕ → ℕ → ℕ → Bool
fits_at (Opcode o) a b c w = a == o
fits_at (Funct3 o f) a b c w = (a == o) && (b == f)
fits_at (Funct7 o f g) a b c w = (a == o) && (b == f) && (c == g)
fits_at (Whole v) a b c w = w == v

abbrev pub row_at : List (Key × (ℕ → Ins)) → ℕ → ℕ → ℕ → ℕ → Option Ins
row_at [] a b c w = None
row_at (r ∷ rows) a b c w = if fits_at r.0 a b c w then Some (r.1 w) else row_at rows a b c w

same_fit : (k : Key) (w : ℕ) → fits_key k w ≡ fits_at k (bits 0 7 w) (bits 12 3 w) (bits 25 7 w) w
same_fit (Opcode o) w = refl
same_fit (Funct3 o f) w = refl
same_fit (Funct7 o f g) w = refl
same_fit (Whole v) w = refl

same_row : (rows : List (Key × (ℕ → Ins))) (w : ℕ)
    → row_of rows w ≡ row_at rows (bits 0 7 w) (bits 12 3 w) (bits 25 7 w) w
same_row [] w = refl
same_row (r ∷ rows) w = rw (same_fit r.0 w) (rw (same_row rows w) refl)

pub at_fields : (w o f g : ℕ) → bits 0 7 w ≡ o → bits 12 3 w ≡ f → bits 25 7 w ≡ g
    → ins_of_word w ≡ row_at table o f g w
unfolding ins_of_word
at_fields w o f g p q r =
    same_row table w ∙ ap (λ n. row_at table n (bits 12 3 w) (bits 25 7 w) w) p
    ∙ ap (λ n. row_at table o n (bits 25 7 w) w) q ∙ ap (λ n. row_at table o f n w) r

pub at_opcode : (w o : ℕ) → true ≡ fits_key (Opcode o) w
    → ins_of_word w ≡ row_at table o (bits 12 3 w) (bits 25 7 w) w
at_opcode w o h =
    let p : bits 0 7 w ≡ o = grind arith in at_fields w o (bits 12 3 w) (bits 25 7 w) p refl refl

pub at_funct3 : (w o f : ℕ) → true ≡ fits_key (Funct3 o f) w
    → ins_of_word w ≡ row_at table o f (bits 25 7 w) w
at_funct3 w o f h =
    let p : bits 0 7 w ≡ o = grind arith in
    let q : bits 12 3 w ≡ f = grind arith in
    at_fields w o f (bits 25 7 w) p q refl

pub at_funct7 : (w o f g : ℕ) → true ≡ fits_key (Funct7 o f g) w
    → ins_of_word w ≡ row_at table o f g w
at_funct7 w o f g h =
    let p : bits 0 7 w ≡ o = grind arith in
    let q : bits 12 3 w ≡ f = grind arith in
    let r : bits 25 7 w ≡ g = grind arith in
    at_fields w o f g p q r

-- the fields of a word, for each form
abbrev pub AreFieldsOf : ℕ → Fields → Type 0
AreFieldsOf w at = record {
  rd : at.rd ≡ rd w;
  rs1 : at.rs1 ≡ rs1 w;
  rs2 : at.rs2 ≡ rs2 w;
  upper : at.upper ≡ bits 12 20 w;
  bits : at.bits ≡ bits 20 12 w;
  i_imm : at.i_imm ≡ i_imm w;
  s_imm : at.s_imm ≡ s_imm w;
  b_imm : at.b_imm ≡ b_imm w;
  j_imm : at.j_imm ≡ j_imm w;
}

-- an instruction is the decoded word, and its fields are in range
abbrev pub IsRead : ℕ → Ins → Type 0
IsRead w ins = record { row : Some ins ≡ ins_of_word w; in_range : HasFieldsInRange ins }

is_read : (w : ℕ) (ins : Ins) → Some ins ≡ ins_of_word w → IsRead w ins
is_read w ins found = record { row = found; in_range = row_in_range w ins found }

-- the instruction of a row, with the fields that the code reads
pub r_row : (w : ℕ) (at : Fields) (make : ℕ → ℕ → ℕ → Ins) → ins_of_word w ≡ Some (r_form make w)
    → AreFieldsOf w at → IsRead w (make at.rd at.rs1 at.rs2)
r_row w at make found h = is_read _ _ (rw (h.rd, h.rs1, h.rs2) (sym found))

pub i_row : (w : ℕ) (at : Fields) (make : ℕ → ℕ → ℤ → Ins) → ins_of_word w ≡ Some (i_form make w)
    → AreFieldsOf w at → SFits w32 at.i_imm
    → IsRead w (make at.rd at.rs1 (to_z w32 (of_z w32 at.i_imm)))
i_row w at make found h within =
    is_read _ _ (rw (to_z-of_z w32 _ within, h.rd, h.rs1, h.i_imm) (sym found))

pub s_row : (w : ℕ) (at : Fields) (make : ℕ → ℕ → ℤ → Ins) → ins_of_word w ≡ Some (s_form make w)
    → AreFieldsOf w at → SFits w32 at.s_imm
    → IsRead w (make at.rs1 at.rs2 (to_z w32 (of_z w32 at.s_imm)))
s_row w at make found h within =
    is_read _ _ (rw (to_z-of_z w32 _ within, h.rs1, h.rs2, h.s_imm) (sym found))

pub b_row : (w : ℕ) (at : Fields) (make : ℕ → ℕ → ℤ → Ins) → ins_of_word w ≡ Some (b_form make w)
    → AreFieldsOf w at → SFits w32 at.b_imm
    → IsRead w (make at.rs1 at.rs2 (to_z w32 (of_z w32 at.b_imm)))
b_row w at make found h within =
    is_read _ _ (rw (to_z-of_z w32 _ within, h.rs1, h.rs2, h.b_imm) (sym found))

pub u_row : (w : ℕ) (at : Fields) (make : ℕ → ℕ → Ins) → ins_of_word w ≡ Some (u_form make w)
    → AreFieldsOf w at → IsRead w (make at.rd at.upper)
u_row w at make found h = is_read _ _ (rw (h.rd, h.upper) (sym found))

pub j_row : (w : ℕ) (at : Fields) (make : ℕ → ℤ → Ins) → ins_of_word w ≡ Some (j_form make w)
    → AreFieldsOf w at → SFits w32 at.j_imm
    → IsRead w (make at.rd (to_z w32 (of_z w32 at.j_imm)))
j_row w at make found h within =
    is_read _ _ (rw (to_z-of_z w32 _ within, h.rd, h.j_imm) (sym found))

pub fence_row : (w : ℕ) (at : Fields) (make : ℕ → ℕ → ℕ → Ins)
    → ins_of_word w ≡ Some (fence_form make w) → AreFieldsOf w at
    → IsRead w (make at.rd at.rs1 at.bits)
fence_row w at make found h = is_read _ _ (rw (h.rd, h.rs1, h.bits) (sym found))

-- a word fits none of these rows
abbrev pub FitsNone : List (Key × (ℕ → Ins)) → ℕ → Type 0
FitsNone [] w = Unit {0}
FitsNone (r ∷ rows) w = (false ≡ fits_key r.0 w) × FitsNone rows w

none_of : (rows : List (Key × (ℕ → Ins))) (w : ℕ) → FitsNone rows w → row_of rows w ≡ None
none_of [] w h = refl
none_of (r ∷ rows) w h = rw (← h.0) (none_of rows w h.1)

pub no_row : (w : ℕ) → FitsNone table w → None ≡ ins_of_word w
unfolding ins_of_word
no_row w h = sym (none_of table w h)

pub whole_row : (make : Ins) (w v : ℕ) → ins_of_word v ≡ Some make → w ≡ v → IsRead w make
whole_row make w v found e = is_read _ _ (sym (ap ins_of_word e ∙ found))

pub not_whole : (w v : ℕ) → (w ≡ v → ⊥) → false ≡ fits_key (Whole v) w
not_whole w v h = grind arith

pub opcode_is : (w o : ℕ) → fits_key (Opcode o) w ≡ true → bits 0 7 w ≡ o
opcode_is w o h = grind arith

pub funct3_is : (w o f : ℕ) → fits_key (Funct3 o f) w ≡ true → (bits 0 7 w ≡ o) × (bits 12 3 w ≡ f)
funct3_is w o f h = grind arith

pub funct7_is : (w o f g : ℕ) → fits_key (Funct7 o f g) w ≡ true
    → (bits 0 7 w ≡ o) × (bits 12 3 w ≡ f) × (bits 25 7 w ≡ g)
funct7_is w o f g h = grind arith
