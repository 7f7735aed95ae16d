-- How the data memory is stored: pages of 64 bytes, each with its number.
use Rattle.std.specs.Prelude.{ℕ, zero, suc, ◌≡◌, ◌+◌, ◌*◌, ◌/◌, ◌%◌, ◌^◌, ◌<◌, ◌≤◌, ◌||◌, nat_le}
use Rattle.std.specs.Prelude.{nat_lt, Bool, List, [], ◌∷◌, length, slice_index, slice_set}
use Rattle.std.specs.Prelude.{unwrap_or}
use Rattle.std.specs.BTreeMap.{is_at}
use Rattle.std.specs.Map.{lookup}
use Rattle.std.specs.Ordering.{nat_cmp}
use Rattle.rv_core.specs.Memory.{Memory, prepend_byte}

-- the stored pages, each with its number
abbrev pub Pages : Type 0
Pages = List (ℕ × List ℕ)

-- bytes from an address on, before the entries of a memory
abbrev pub bytes_before : ℕ → List ℕ → Memory → Memory
bytes_before a [] memory = memory
bytes_before a (b ∷ bytes) memory = prepend_byte a b (bytes_before (a + 1) bytes memory)

-- the bytes of pages that are not 0
abbrev pub memory_of : Pages → Memory
memory_of [] = []
memory_of (p ∷ pages) = bytes_before (64 * p.0) p.1 (memory_of pages)

-- 64 bytes, each below 256
pub record IsPage (page : List ℕ) : Type 0 where
  pub long : length page ≡ 64
  pub small : (i : ℕ) → slice_index page i < 2 ^ 8

-- a page with a number of at least low, below 2^26
pub record IsNumbered (low : ℕ) (p : ℕ × List ℕ) : Type 0 where
  pub above : low ≤ p.0
  pub below : p.0 < 2 ^ 26
  pub page : IsPage p.1

-- pages with strictly increasing numbers of at least low
abbrev pub ArePages : ℕ → Pages → Type 0
ArePages low [] = Unit {0}
ArePages low (p ∷ pages) = IsNumbered low p × ArePages (p.0 + 1) pages

-- the page with a number, empty if none is stored; all bytes of a stored one may be 0
abbrev pub page_at : Pages → ℕ → List ℕ
page_at pages k = unwrap_or (lookup (is_at (nat_cmp k)) pages) []

-- whether a number is outside a range
abbrev pub is_not_between : ℕ → ℕ → ℕ → Bool
is_not_between first last k = nat_lt k first || nat_le last k

-- the byte of an address in the page of its number
abbrev pub byte_in : List ℕ → ℕ → ℕ
byte_in page c = slice_index page (c % 64)

-- a page with the low n bytes of a value from a place on
abbrev pub page_with_value : ℕ → List ℕ → ℕ → ℕ → List ℕ
page_with_value zero page at value = page
page_with_value (suc n) page at value =
    page_with_value n (slice_set page at (value % 2 ^ 8)) (at + 1) (value / 2 ^ 8)

-- the little-endian number in four bytes of a page
abbrev pub page_word : List ℕ → ℕ → ℕ
page_word page at =
    slice_index page at + 2 ^ 8 * slice_index page (at + 1)
    + 2 ^ 16 * (slice_index page (at + 2) + 2 ^ 8 * slice_index page (at + 3))

-- the little-endian number in bytes
abbrev pub little_endian_number : List ℕ → ℕ
little_endian_number [] = 0
little_endian_number (b ∷ bytes) = b + 2 ^ 8 * little_endian_number bytes
