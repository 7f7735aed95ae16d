-- The fields of a decoded instruction are in range.
use Rattle.std.proofs.Common.{◌≡◌, ℕ, ◌+◌, ◌*◌, ◌%◌, ◌^◌, ◌<◌, nat_lt, List, [], ◌∷◌, Some, arith}
use Rattle.std.proofs.Common.{sym, inl, inr, lit≤, subst}
use Rattle.std.proofs.lemmas.Bool.{cases_Bool}
use Rattle.crpd_base.proofs.Options.{some_injective, none_some}
use Rattle.rv_decode.specs.declared.Ins.{Ins}
use Rattle.rv_decode.specs.Table.{Key, bits, rd, rs1, rs2, i_imm, s_imm, b_imm, j_imm, signed}
use Rattle.rv_decode.specs.Table.{fits_key, table, row_of, ins_of_word}
use Rattle.rv_decode.specs.Range.{HasFieldsInRange, IsEven, AreRFields, AreIFields, AreBFields}
use Rattle.rv_decode.specs.Range.{AreUFields, AreJFields}
use Rattle.rv_decode.proofs.Pieces.{signed_within}

register_below : (low w : ℕ) → bits low 5 w < 32
register_below low w = omega arith

r_in : (w : ℕ) → AreRFields (rd w) (rs1 w) (rs2 w)
r_in w = (register_below 7 w, register_below 15 w, register_below 20 w)

i_in : (w : ℕ) → AreIFields (rd w) (rs1 w) (i_imm w)
i_in w = (
  register_below 7 w,
  register_below 15 w,
  signed_within 12 (bits 20 12 w) (lit≤ tt) (omega arith),
)

fence_in : (w : ℕ) → (rd w < 32) × (rs1 w < 32) × (bits 20 12 w < 2 ^ 12)
fence_in w = (register_below 7 w, register_below 15 w, omega arith)

s_in : (w : ℕ) → AreIFields (rs1 w) (rs2 w) (s_imm w)
s_in w = (
  register_below 15 w,
  register_below 20 w,
  signed_within 12 (bits 25 7 w * 2 ^ 5 + bits 7 5 w) (lit≤ tt) (omega arith),
)

u_in : (w : ℕ) → AreUFields (rd w) (bits 12 20 w)
u_in w = (register_below 7 w, omega arith)

signed_even_13 : (m : ℕ) → m < 2 ^ 13 → m % 2 ≡ 0 → IsEven (signed 13 m)
signed_even_13 m h even = elim (cases_Bool (nat_lt m (2 ^ 12))) [
  | inl e ↦ rw e even
  | inr e ↦ rw e (omega arith)
]

signed_even_21 : (m : ℕ) → m < 2 ^ 21 → m % 2 ≡ 0 → IsEven (signed 21 m)
signed_even_21 m h even = elim (cases_Bool (nat_lt m (2 ^ 20))) [
  | inl e ↦ rw e even
  | inr e ↦ rw e (omega arith)
]

b_in : (w : ℕ) → AreBFields (rs1 w) (rs2 w) (b_imm w)
b_in w =
    let m : ℕ = bits 31 1 w * 2 ^ 12 + bits 7 1 w * 2 ^ 11 + bits 25 6 w * 2 ^ 5 + bits 8 4 w * 2 in
    let small : m < 2 ^ 13 = omega arith in (
      register_below 15 w,
      register_below 20 w,
      signed_within 13 m (lit≤ tt) small,
      signed_even_13 m small (omega arith),
    )

j_in : (w : ℕ) → AreJFields (rd w) (j_imm w)
j_in w =
    let m : ℕ = bits 31 1 w * 2 ^ 20 + bits 12 8 w * 2 ^ 12 + bits 20 1 w * 2 ^ 11
    + bits 21 10 w * 2 in
    let small : m < 2 ^ 21 = omega arith in
    (register_below 7 w, signed_within 21 m (lit≤ tt) small, signed_even_21 m small (omega arith))

abbrev pub AreInRange : List (Key × (ℕ → Ins)) → Type 0
AreInRange [] = Unit {0}
AreInRange (r ∷ rows) = ((w : ℕ) → HasFieldsInRange (r.1 w)) × AreInRange rows

each_in_range : AreInRange table
unfolding table HasFieldsInRange
each_in_range =
    (u_in, (u_in, (j_in, (i_in, (b_in, (b_in, (b_in, (b_in, (b_in, (b_in, (i_in, (i_in, (i_in, (i_in, (i_in, (s_in, (s_in, (s_in, (i_in, (i_in, (i_in, (i_in, (i_in, (i_in, (r_in, (r_in, (r_in, (r_in, (r_in, (r_in, (r_in, (r_in, (r_in, (r_in, (r_in, (r_in, (r_in, (r_in, (r_in, (r_in, (r_in, (r_in, (r_in, (r_in, (r_in, (fence_in, ((λ w. tt), ((λ w. tt), tt))))))))))))))))))))))))))))))))))))))))))))))))

in_range_by : (rows : List (Key × (ℕ → Ins))) (w : ℕ) (ins : Ins) → AreInRange rows
    → row_of rows w ≡ Some ins → HasFieldsInRange ins
in_range_by [] w ins h found = absurd (none_some found)
in_range_by (r ∷ rows) w ins h found = elim (cases_Bool (fits_key r.0 w)) [
  | inl e ↦ let g = rw e at found in subst HasFieldsInRange (some_injective g) (h.0 w)
  | inr e ↦ let g = rw e at found in in_range_by rows w ins h.1 g
]

pub row_in_range : (w : ℕ) (ins : Ins) → Some ins ≡ ins_of_word w → HasFieldsInRange ins
unfolding ins_of_word
row_in_range w ins found = in_range_by table w ins each_in_range (sym found)
