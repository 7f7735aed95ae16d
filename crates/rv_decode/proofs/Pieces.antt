-- Words taken apart into fields and assembled again.
use Rattle.std.proofs.Common.{◌≡◌, ℕ, ◌+◌, ◌*◌, ◌-◌, ◌/◌, ◌%◌, ◌^◌, ◌<◌, ◌≤◌, ℤ, pos, negsuc, ◌+ℤ◌}
use Rattle.std.proofs.Common.{◌≤ℤ◌, ◌<ℤ◌, arith, refl, false, nat_lt, inl, inr, lt-ltb, ltb-true}
use Rattle.std.proofs.Common.{ltb-false}
use Rattle.std.proofs.lemmas.Bool.{cases_Bool, le-ltb}
use Rattle.std.proofs.lemmas.Int.{ints}
use Rattle.rv_decode.proofs.Bits.{power_twice}
use Rattle.rv_decode.specs.Table.{bits, signed}
use Rattle.rv_decode.specs.Range.{IsSigned, IsEven}
use Rattle.rv_decode.specs.Encoding.{word_of_fields, signed_bits, u_word}

-- the six fields of an assembled word
pub record Pieces (w o d f a b g : ℕ) : Type 0 where
  pub opcode : bits 0 7 w ≡ o
  pub rd : bits 7 5 w ≡ d
  pub funct3 : bits 12 3 w ≡ f
  pub rs1 : bits 15 5 w ≡ a
  pub rs2 : bits 20 5 w ≡ b
  pub funct7 : bits 25 7 w ≡ g

pub pieces : (o d f a b g : ℕ) → o < 2 ^ 7 → d < 2 ^ 5 → f < 2 ^ 3 → a < 2 ^ 5 → b < 2 ^ 5
    → g < 2 ^ 7 → Pieces (word_of_fields o d f a b g) o d f a b g
pieces o d f a b g ho hd hf ha hb hg = record {
  opcode = omega arith;
  rd = omega arith;
  funct3 = omega arith;
  rs1 = omega arith;
  rs2 = omega arith;
  funct7 = omega arith;
}

-- a word is assembled from its six fields
pub whole : (w : ℕ) → w < 2 ^ 32
    → word_of_fields (bits 0 7 w) (bits 7 5 w) (bits 12 3 w) (bits 15 5 w) (bits 20 5 w)
    (bits 25 7 w) ≡ w
whole w h = omega arith

-- bits 31 to 20 from two fields
pub high_bits : (w : ℕ) → bits 20 12 w ≡ bits 20 5 w + bits 25 7 w * 2 ^ 5
high_bits w = omega arith

pub bit_31 : (w : ℕ) → bits 31 1 w ≡ bits 25 7 w / 2 ^ 6
bit_31 w = omega arith

pub bits_30_25 : (w : ℕ) → bits 25 6 w ≡ bits 25 7 w % 2 ^ 6
bits_30_25 w = omega arith

pub bit_7 : (w : ℕ) → bits 7 1 w ≡ bits 7 5 w % 2
bit_7 w = omega arith

pub bits_11_8 : (w : ℕ) → bits 8 4 w ≡ bits 7 5 w / 2
bits_11_8 w = omega arith

-- a signed number and its bits
pub signed_low : (n : ℕ) (imm : ℤ) → IsSigned n imm → pos 0 ≤ℤ (imm +ℤ pos (2 ^ (n - 1)))
signed_low n (pos k) h = omega (arith, ints)
signed_low n (negsuc k) h = omega (arith, ints)

pub negative_bits : (n : ℕ) (imm : ℤ) → 1 ≤ n → IsSigned n imm → imm <ℤ pos 0
    → pos (signed_bits n imm) ≡ (imm +ℤ pos (2 ^ n))
negative_bits n (pos k) low h neg = absurd (omega (arith, ints))
negative_bits n (negsuc k) low h neg = let twice = power_twice n low in omega (arith, ints)

pub bits_small : (n : ℕ) (imm : ℤ) → 1 ≤ n → IsSigned n imm → signed_bits n imm < 2 ^ n
bits_small n (pos k) low h = let twice = power_twice n low in omega arith
bits_small n (negsuc k) low h = let twice = power_twice n low in omega arith

-- the bits of a signed number read back as the number
pub bits_again : (n : ℕ) (imm : ℤ) → 1 ≤ n → IsSigned n imm → signed n (signed_bits n imm) ≡ imm
bits_again n (pos k) low h = rw (lt-ltb _ _ h) refl
bits_again n (negsuc k) low h =
    let twice = power_twice n low in
    let big : nat_lt (2 ^ n - 1 - k) (2 ^ (n - 1)) ≡ false = le-ltb _ _ (omega arith) in
    let back : 2 ^ n - 1 - (2 ^ n - 1 - k) ≡ k = omega arith in
    rw (big, back) refl

pub signed_again : (n m : ℕ) → 1 ≤ n → m < 2 ^ n → signed_bits n (signed n m) ≡ m
signed_again n m low h = elim (cases_Bool (nat_lt m (2 ^ (n - 1)))) [
  | inl e ↦ rw e refl
  | inr e ↦ rw e (omega arith)
]

pub signed_within : (n m : ℕ) → 1 ≤ n → m < 2 ^ n → IsSigned n (signed n m)
signed_within n m low h =
    let twice = power_twice n low in
    elim (cases_Bool (nat_lt m (2 ^ (n - 1)))) [
      | inl e ↦ let f = ltb-true _ _ e in rw e f
      | inr e ↦ let f = ltb-false _ _ e in rw e (omega arith)
    ]

-- the fields of a word with an upper immediate
pub record UpperPieces (w o d u : ℕ) : Type 0 where
  pub opcode : bits 0 7 w ≡ o
  pub rd : bits 7 5 w ≡ d
  pub upper : bits 12 20 w ≡ u

pub upper_pieces : (o d upper : ℕ) → o < 2 ^ 7 → d < 2 ^ 5 → upper < 2 ^ 20
    → UpperPieces (u_word o d upper) o d upper
upper_pieces o d upper ho hd hu = record {
  opcode = omega arith;
  rd = omega arith;
  upper = omega arith;
}

pub upper_whole : (w : ℕ) → w < 2 ^ 32 → u_word (bits 0 7 w) (bits 7 5 w) (bits 12 20 w) ≡ w
upper_whole w h = omega arith

pub top_of_upper : (w : ℕ) → bits 31 1 w ≡ bits 12 20 w / 2 ^ 19
top_of_upper w = omega arith

pub low_of_upper : (w : ℕ) → bits 12 8 w ≡ bits 12 20 w % 2 ^ 8
low_of_upper w = omega arith

pub bit_20 : (w : ℕ) → bits 20 1 w ≡ bits 12 20 w / 2 ^ 8 % 2
bit_20 w = omega arith

pub bits_30_21 : (w : ℕ) → bits 21 10 w ≡ bits 12 20 w / 2 ^ 9 % 2 ^ 10
bits_30_21 w = omega arith

-- immediates joined from their pieces
pub high_joined : (m x y q : ℕ) → q ≡ x + y * 2 ^ 5 → x ≡ m % 2 ^ 5 → y ≡ m / 2 ^ 5 → q ≡ m
high_joined m x y q e p r = omega arith

pub rs2_of_high : (w : ℕ) → bits 20 12 w % 2 ^ 5 ≡ bits 20 5 w
rs2_of_high w = omega arith

pub funct7_of_high : (w : ℕ) → bits 20 12 w / 2 ^ 5 ≡ bits 25 7 w
funct7_of_high w = omega arith

pub s_joined : (m x y : ℕ) → x ≡ m / 2 ^ 5 → y ≡ m % 2 ^ 5 → x * 2 ^ 5 + y ≡ m
s_joined m x y p q = omega arith

pub s_low : (x y : ℕ) → y < 2 ^ 5 → (x * 2 ^ 5 + y) % 2 ^ 5 ≡ y
s_low x y h = omega arith

pub s_high : (x y : ℕ) → y < 2 ^ 5 → (x * 2 ^ 5 + y) / 2 ^ 5 ≡ x
s_high x y h = omega arith

pub b_joined : (m d g top high low7 low : ℕ) → m < 2 ^ 13 → m % 2 ≡ 0 → top ≡ g / 2 ^ 6
    → high ≡ g % 2 ^ 6 → low7 ≡ d % 2 → low ≡ d / 2 → g ≡ m / 2 ^ 5 % 2 ^ 6 + m / 2 ^ 12 * 2 ^ 6
    → d ≡ m / 2 ^ 11 % 2 + m / 2 % 2 ^ 4 * 2
    → top * 2 ^ 12 + low7 * 2 ^ 11 + high * 2 ^ 5 + low * 2 ≡ m
b_joined m d g top high low7 low h even p q r s e f = omega arith

pub record BranchParts (m d g : ℕ) : Type 0 where
  pub small : m < 2 ^ 13
  pub low : m / 2 ^ 11 % 2 + m / 2 % 2 ^ 4 * 2 ≡ d
  pub high : m / 2 ^ 5 % 2 ^ 6 + m / 2 ^ 12 * 2 ^ 6 ≡ g

pub branch_parts : (d g top high low7 low : ℕ) → d < 2 ^ 5 → g < 2 ^ 7 → top ≡ g / 2 ^ 6
    → high ≡ g % 2 ^ 6 → low7 ≡ d % 2 → low ≡ d / 2
    → BranchParts (top * 2 ^ 12 + low7 * 2 ^ 11 + high * 2 ^ 5 + low * 2) d g
branch_parts d g top high low7 low hd hg p q r s = record {
  small = omega arith;
  low = omega arith;
  high = omega arith;
}

pub j_joined : (m u top low bit mid : ℕ) → m < 2 ^ 21 → m % 2 ≡ 0 → top ≡ u / 2 ^ 19
    → low ≡ u % 2 ^ 8 → bit ≡ u / 2 ^ 8 % 2 → mid ≡ u / 2 ^ 9 % 2 ^ 10
    → u ≡ m / 2 ^ 12 % 2 ^ 8 + m / 2 ^ 11 % 2 * 2 ^ 8 + m / 2 % 2 ^ 10 * 2 ^ 9 + m / 2 ^ 20 * 2 ^ 19
    → top * 2 ^ 20 + low * 2 ^ 12 + bit * 2 ^ 11 + mid * 2 ≡ m
j_joined m u top low bit mid h even p q r s e = omega arith

pub record JumpParts (m u : ℕ) : Type 0 where
  pub small : m < 2 ^ 21
  pub upper : m / 2 ^ 12 % 2 ^ 8 + m / 2 ^ 11 % 2 * 2 ^ 8 + m / 2 % 2 ^ 10 * 2 ^ 9
      + m / 2 ^ 20 * 2 ^ 19 ≡ u

pub jump_parts : (u top low bit mid : ℕ) → u < 2 ^ 20 → top ≡ u / 2 ^ 19 → low ≡ u % 2 ^ 8
    → bit ≡ u / 2 ^ 8 % 2 → mid ≡ u / 2 ^ 9 % 2 ^ 10
    → JumpParts (top * 2 ^ 20 + low * 2 ^ 12 + bit * 2 ^ 11 + mid * 2) u
jump_parts u top low bit mid hu p q r s = record { small = omega arith; upper = omega arith }

pub even_bits_13 : (imm : ℤ) → IsSigned 13 imm → IsEven imm → signed_bits 13 imm % 2 ≡ 0
even_bits_13 (pos k) h e = e
even_bits_13 (negsuc k) h e = omega arith

pub even_bits_21 : (imm : ℤ) → IsSigned 21 imm → IsEven imm → signed_bits 21 imm % 2 ≡ 0
even_bits_21 (pos k) h e = e
even_bits_21 (negsuc k) h e = omega arith
