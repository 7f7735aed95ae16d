-- The numbers of a set, in order.
use Rattle.std.proofs.Common.{◌≡◌, ◌≢◌, ℕ, zero, suc, ◌+◌, ◌-◌, ◌*◌, ◌/◌, ◌%◌, ◌^◌, ◌<◌, ◌≤◌, List}
use Rattle.std.proofs.Common.{[], ◌∷◌, ◌++◌, append-nil, get_or, refl, ap, sym, ◌∙◌, arith, inl, inr}
use Rattle.std.proofs.Common.{◌==◌, if◌then◌else◌}
use Rattle.std.specs.Int.{bit_at, trailing_zeros}
use Rattle.std.proofs.Math.Nat.{div-div-eq-div-mul, div-le_self}
use Rattle.std.proofs.lemmas.Nat.{pow-add}
use Rattle.std.proofs.lemmas.Nat.Bits.{bit_at-trailing_zeros, bit_at-zero, bit_at_above}
use Rattle.std.proofs.lemmas.Bool.{cases_lt}
use mir.Syntax.{w64}
use Rattle.crpd_base.specs.Sets.{member, has, numbers_below}
use Rattle.crpd_base.specs.Inner.NumbersLeft.{IsLeastFrom, members_from}
use Rattle.crpd_base.proofs.Bits.{zero_or_one, member_le_one}

pub below_none : (words : List ℕ) → numbers_below words 0 ≡ []
unfolding numbers_below
below_none words = refl

pub below_more : (words : List ℕ) (n : ℕ) → member words n ≡ 1
    → numbers_below words (suc n) ≡ numbers_below words n ++ n ∷ []
unfolding numbers_below
below_more words n e = rw e

pub below_same : (words : List ℕ) (n : ℕ) → member words n ≡ 0
    → numbers_below words (suc n) ≡ numbers_below words n
unfolding numbers_below
below_same words n e = rw e

-- ---- the numbers that are left

from_more : (words : List ℕ) (from n : ℕ) → member words from ≡ 1
    → members_from words from (suc n) ≡ from ∷ members_from words (from + 1) n
from_more words from n e = rw e

from_same : (words : List ℕ) (from n : ℕ) → member words from ≡ 0
    → members_from words from (suc n) ≡ members_from words (from + 1) n
from_same words from n e = rw e

-- one more number at the end
from_last : (words : List ℕ) (from n : ℕ)
    → members_from words from (suc n)
    ≡ members_from words from n ++ (if has words (from + n) then (from + n) ∷ [] else [])
from_last words from zero =
    ap (λ k. if has words k then k ∷ [] else []) (let e : from ≡ from + 0 = omega arith in e)
from_last words from (suc n) =
    let next : from + 1 + n ≡ from + suc n = omega arith in
    let last = from_last words (from + 1) n
    ∙ ap (λ k. members_from words (from + 1) n ++ (if has words k then k ∷ [] else [])) next in
    elim (zero_or_one (member words from) (member_le_one words from)) [
      | inl off ↦
          from_same words from (suc n) off ∙ last
          ∙ ap (λ l. l ++ (if has words (from + suc n) then (from + suc n) ∷ [] else []))
          (sym (from_same words from n off))
      | inr on ↦
          from_more words from (suc n) on ∙ ap (λ l. from ∷ l) last
          ∙ ap (λ l. l ++ (if has words (from + suc n) then (from + suc n) ∷ [] else []))
          (sym (from_more words from n on))
    ]

-- all numbers are left at the start
pub all_left : (words : List ℕ) (n : ℕ) → members_from words 0 n ≡ numbers_below words n
all_left words zero = sym (below_none words)
all_left words (suc n) =
    let same : 0 + n ≡ n = omega arith in
    let all = members_from words 0 n in
    let last = from_last words 0 n ∙ ap (λ k. all ++ (if has words k then k ∷ [] else [])) same in
    elim (zero_or_one (member words n) (member_le_one words n)) [
      | inl off ↦
          last ∙ ap (λ m. all ++ (if m == 1 then n ∷ [] else [])) off ∙ append-nil all
          ∙ all_left words n ∙ sym (below_same words n off)
      | inr on ↦
          last ∙ ap (λ m. all ++ (if m == 1 then n ∷ [] else [])) on
          ∙ ap (λ l. l ++ n ∷ []) (all_left words n) ∙ sym (below_more words n on)
    ]

-- if none of the numbers in between is in the set
from_far : (words : List ℕ) (from d n : ℕ)
    → ((t : ℕ) → from ≤ t → t < from + d → member words t ≡ 0)
    → members_from words from (d + n) ≡ members_from words (from + d) n
from_far words from zero n none =
    ap (λ (p : ℕ × ℕ). members_from words p.0 p.1) (pair_is (omega arith) (omega arith))
  where
    pair_is : {a b c d : ℕ} → a ≡ c → b ≡ d → let p : ℕ × ℕ = (a, b) in p ≡ (c, d)
    pair_is e f = λ i. (e i, f i)
from_far words from (suc d) n none =
    let count : suc d + n ≡ suc (d + n) = omega arith in
    let end : from + 1 + d ≡ from + suc d = omega arith in
    ap (members_from words from) count
    ∙ from_same words from (d + n) (none from (omega arith) (omega arith))
    ∙ from_far words (from + 1) d n (λ t a b. none t (omega arith) (omega arith))
    ∙ ap (λ k. members_from words k n) end

-- none is left
pub none_left : (words : List ℕ) (from n : ℕ)
    → ((t : ℕ) → from ≤ t → t < n → member words t ≡ 0)
    → members_from words from (n - from) ≡ []
none_left words from n none =
    ap (members_from words from) (let e : n - from ≡ n - from + 0 = omega arith in e)
    ∙ from_far words from (n - from) 0 (λ t a b. none t a (omega arith))

-- the smallest number comes first
pub first_left : (words : List ℕ) (from n s : ℕ) → IsLeastFrom words from n s
    → members_from words from (n - from) ≡ s ∷ members_from words (s + 1) (n - (s + 1))
first_left words from n s is =
    let room : n - from ≡ s - from + suc (n - (s + 1)) = omega (arith, is.above, is.below) in
    let here : from + (s - from) ≡ s = omega (arith, is.above) in
    ap (members_from words from) room
    ∙ from_far words from (s - from) (suc (n - (s + 1)))
    (λ t a b. is.least t a (omega (arith, is.above)))
    ∙ ap (λ k. members_from words k (suc (n - (s + 1)))) here
    ∙ from_more words s (n - (s + 1)) is.there

-- ---- the next number

shifted : (n k j : ℕ) → bit_at (n / 2 ^ k) j ≡ bit_at n (k + j)
shifted n k j =
    ap (λ m. m % 2) (div-div-eq-div-mul n (2 ^ k) (2 ^ j) ∙ ap (λ p. n / p) (sym (pow-add 2 k j)))

-- a number in the same word
in_word : (words : List ℕ) (from t : ℕ) → from ≤ t → t < (from / 64 + 1) * 64
    → member words t ≡ bit_at (get_or words (from / 64) 0 / 2 ^ (from % 64)) (t - from)
in_word words from t le lt =
    let word : t / 64 ≡ from / 64 = omega arith in
    let bit : t % 64 ≡ from % 64 + (t - from) = omega arith in
    ap (λ k. bit_at (get_or words k 0) (t % 64)) word ∙ ap (bit_at (get_or words (from / 64) 0)) bit
    ∙ sym (shifted (get_or words (from / 64) 0) (from % 64) (t - from))

-- no number from one on is in the set, up to the end of its word
pub none_in_word : (words : List ℕ) (from word : ℕ) → word ≡ get_or words (from / 64) 0
    → word / 2 ^ (from % 64) ≡ 0 → (t : ℕ) → from ≤ t → t < (from / 64 + 1) * 64
    → member words t ≡ 0
none_in_word words from word is off t le lt =
    in_word words from t le lt ∙ ap (λ n. bit_at (n / 2 ^ (from % 64)) (t - from)) (sym is)
    ∙ ap (λ n. bit_at n (t - from)) off ∙ bit_at-zero (t - from)

-- the remaining bits of a word end where the word ends
high : (n k : ℕ) → n < 2 ^ 64 → (j : ℕ) → 64 ≤ k + j → bit_at (n / 2 ^ k) j ≡ 0
high n k fits j le = shifted n k j ∙ bit_at_above n 64 (k + j) fits le

-- the smallest number of the remaining bits of a word
pub least_in_word : (words : List ℕ) (from n word : ℕ) → from < 64 * n → word < 2 ^ 64
    → word ≡ get_or words (from / 64) 0 → word / 2 ^ (from % 64) ≢ 0
    → IsLeastFrom words from (64 * n) (from + trailing_zeros w64 (word / 2 ^ (from % 64)))
least_in_word words from n word lt fits is some =
    let left = word / 2 ^ (from % 64) in
    let k = trailing_zeros w64 left in
    let narrow : left < 2 ^ 64 = omega (arith, div-le_self word (2 ^ (from % 64))) in
    let low : (k < 64) × (bit_at left k ≡ 1) × ((i : ℕ) → i < k → bit_at left i ≡ 0) =
    bit_at-trailing_zeros w64 left (omega arith) narrow in
    let inside : from % 64 + k < 64 =
    elim (cases_lt (from % 64 + k) 64) [
      | inl h ↦ h
      | inr h ↦ absurd (omega (arith, high word (from % 64) fits k h, low.1))
    ] in
    let place : (t : ℕ) → from ≤ t → t < (from / 64 + 1) * 64
    → member words t ≡ bit_at left (t - from) = λ t a b.
    in_word words from t a b ∙ ap (λ n. bit_at (n / 2 ^ (from % 64)) (t - from)) (sym is) in
    record {
      above = omega arith;
      below = omega arith;
      there = place (from + k) (omega arith) (omega arith) ∙ ap (bit_at left) (omega arith) ∙ low.1;
      least = λ t a b. place t a (omega arith) ∙ low.2 (t - from) (omega arith);
    }

-- none before the smallest number from a later one on
pub least_before : (words : List ℕ) (start from n s : ℕ) → start ≤ from
    → ((t : ℕ) → start ≤ t → t < from → member words t ≡ 0)
    → IsLeastFrom words from n s → IsLeastFrom words start n s
least_before words start from n s le none is = record {
  above = omega (arith, is.above);
  below = is.below;
  there = is.there;
  least = λ t a b. elim (cases_lt t from) [
    | inl before ↦ none t a before
    | inr after ↦ is.least t after b
  ];
}
