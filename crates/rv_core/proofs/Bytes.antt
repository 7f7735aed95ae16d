-- Bytes as one number, in pages and in memories.
use Rattle.std.proofs.Common.{◌≡◌, ℕ, suc, ◌+◌, ◌*◌, ◌/◌, ◌%◌, ◌^◌, ◌<◌, ◌≤◌, List, [], ◌∷◌, ◌++◌}
use Rattle.std.proofs.Common.{length, take, drop, refl, sym, ◌∙◌, ap, arith, take-append-drop}
use Rattle.std.proofs.Common.{append_assoc, Fits, w8, slice_index, slice_range, slice_set}
use Rattle.std.proofs.lemmas.Slice.{between_is}
use Rattle.std.proofs.lemmas.List.{drop-drop, drop-set-lt, length-set, length-take-le, take-take}
use Rattle.std.proofs.lemmas.List.{take_more_set}
use borrow.Rule.Slice.PartMut.{put_mid}
use Rattle.rv_core.specs.Memory.{Memory, next_byte, put_all, put_byte}
use Rattle.rv_core.specs.Inner.Memory.{put_bytes}
use Rattle.rv_core.specs.Inner.Pages.{little_endian_number, page_with_value}

-- all are below 256
abbrev pub AreBytes : List ℕ → Type 0
AreBytes bytes = (i : ℕ) → slice_index bytes i < 2 ^ 8

pub fits_byte : {b : ℕ} → Fits w8 b → b < 2 ^ 8
fits_byte h = omega (arith, h)

pub rest_are : (b : ℕ) (bytes : List ℕ) → AreBytes (b ∷ bytes) → AreBytes bytes
rest_are b bytes h = λ i. h (suc i)

first_byte : (b n : ℕ) → b < 2 ^ 8 → (b + 2 ^ 8 * n) % 2 ^ 8 ≡ b
first_byte b n h = omega arith

other_bytes : (b n : ℕ) → b < 2 ^ 8 → (b + 2 ^ 8 * n) / 2 ^ 8 ≡ n
other_bytes b n h = omega arith

-- copying bytes to a page is writing their number to it
pub copied : (bytes page : List ℕ) (at : ℕ) → AreBytes bytes → at + length bytes ≤ length page
    → put_mid at (length bytes) page bytes
    ≡ page_with_value (length bytes) page at (little_endian_number bytes)
copied [] page at h fits = take-append-drop at page
copied (b ∷ bytes) page at h fits =
    let low = first_byte b (little_endian_number bytes) (h 0) in
    let high = other_bytes b (little_endian_number bytes) (h 0) in
    let n = length bytes in
    let one = slice_set page at b in
    let past : drop (suc n) (drop at page) ≡ drop n (drop (at + 1) page) =
    drop-drop (suc n) at page ∙ ap (λ k. drop k page) (omega arith)
    ∙ sym (drop-drop n (at + 1) page) in
    let beside : drop (at + 1) one ≡ drop (at + 1) page =
    drop-set-lt (at + 1) page at b (omega arith) in
    let front : take (at + 1) one ≡ take at page ++ b ∷ [] =
    take_more_set page at b (omega arith) in
    ap (λ l. take at page ++ (b ∷ (bytes ++ l))) (past ∙ ap (drop n) (sym beside))
    ∙ sym (append_assoc (take at page) (b ∷ []) (bytes ++ drop n (drop (at + 1) one)))
    ∙ ap (λ l. l ++ (bytes ++ drop n (drop (at + 1) one))) (sym front)
    ∙ copied bytes one (at + 1) (rest_are b bytes h) (omega (arith, length-set page at b))
    ∙ ap (λ x. page_with_value n (slice_set page at x) (at + 1) (little_endian_number bytes))
    (sym low)
    ∙ ap (page_with_value n (slice_set page at ((b + 2 ^ 8 * little_endian_number bytes) % 2 ^ 8))
    (at + 1)) (sym high)

-- storing bytes is storing their number
pub stored_all : (bytes : List ℕ) (memory : Memory) (a : ℕ) → AreBytes bytes
    → a + length bytes ≤ 2 ^ 32
    → put_bytes (length bytes) memory a (little_endian_number bytes) ≡ put_all memory a bytes
stored_all [] memory a h fits = refl
stored_all (b ∷ []) memory a h fits = ap (put_byte memory a) (first_byte b 0 (h 0))
stored_all (b ∷ (c ∷ bytes)) memory a h fits =
    let low = first_byte b (little_endian_number (c ∷ bytes)) (h 0) in
    let high = other_bytes b (little_endian_number (c ∷ bytes)) (h 0) in
    let next : next_byte a ≡ a + 1 = omega arith in
    let n = length (c ∷ bytes) in
    ap (λ x. put_bytes n (put_byte memory a x) (next_byte a)
    ((b + 2 ^ 8 * little_endian_number (c ∷ bytes)) / 2 ^ 8)) low
    ∙ ap (λ x. put_bytes n (put_byte memory a b) x
    ((b + 2 ^ 8 * little_endian_number (c ∷ bytes)) / 2 ^ 8)) next
    ∙ ap (put_bytes n (put_byte memory a b) (a + 1)) high
    ∙ stored_all (c ∷ bytes) (put_byte memory a b) (a + 1) (rest_are b (c ∷ bytes) h) (omega arith)

-- bytes in two parts
pub all_more : (front back : List ℕ) (memory : Memory) (a : ℕ)
    → put_all (put_all memory a front) (a + length front) back ≡ put_all memory a (front ++ back)
all_more [] back memory a =
    let same : a + 0 ≡ a = omega arith in ap (λ x. put_all memory x back) same
all_more (b ∷ front) back memory a =
    let same : a + suc (length front) ≡ a + 1 + length front = omega arith in
    ap (λ x. put_all (put_all (put_byte memory a b) (a + 1) front) x back) same
    ∙ all_more front back (put_byte memory a b) (a + 1)

-- the bytes up to a place, and those from it up to another
pub all_to : (bytes : List ℕ) (i j : ℕ) (memory : Memory) (a : ℕ) → i ≤ j → j ≤ length bytes
    → put_all (put_all memory a (take i bytes)) (a + i) (slice_range bytes i j)
    ≡ put_all memory a (take j bytes)
all_to bytes i j memory a le within =
    let long : length (take i bytes) ≡ i = length-take-le i bytes (omega arith) in
    let both : take i bytes ++ slice_range bytes i j ≡ take j bytes =
    ap (λ l. take i bytes ++ l) (between_is bytes i j)
    ∙ ap (λ l. l ++ drop i (take j bytes)) (sym (take-take i j bytes le))
    ∙ take-append-drop i (take j bytes) in
    ap (λ n. put_all (put_all memory a (take i bytes)) (a + n) (slice_range bytes i j)) (sym long)
    ∙ all_more (take i bytes) (slice_range bytes i j) memory a
    ∙ ap (put_all memory a) both

-- bytes that are all 0
pub zero_number : (bytes : List ℕ) → ((i : ℕ) → i < length bytes → slice_index bytes i ≡ 0)
    → little_endian_number bytes ≡ 0
zero_number [] h = refl
zero_number (b ∷ bytes) h =
    let first : b ≡ 0 = h 0 (omega arith) in
    let rest = zero_number bytes (λ i l. h (suc i) (omega arith)) in
    omega (arith, first, rest)
