-- The kinds of a task set's values: what a value means, or None if it is of a different kind or
-- outside its range.
use Rattle.std.specs.Prelude.{ℕ, ◌+◌, ◌*◌, ◌-◌, ◌^◌, pos, List, [], ◌∷◌, length, drop, Bool}
use Rattle.std.specs.Prelude.{false, ◌&&◌, ◌==◌, nat_lt, Option, Some, None}
use Rattle.std.specs.Prelude.{option_map, option_and_then, if◌then◌else◌}
use Rattle.std.specs.List.{position_or_len, before_first, after_first}
use Rattle.toml.specs.Data.{Data, string, integer, Items, no_items, item, as_str, as_array}
use Rattle.crpd_base.specs.Names.{is_between, is_line_length, is_name, is_file}
use Rattle.crpd_base.specs.declared.data.Place.{Place}
use Rattle.crpd_base.specs.declared.data.Place.TheVariants.{Number, Symbol}
use Rattle.crpd_base.specs.declared.data.Switching.{Switching}
use Rattle.text_keys.specs.Named.{only, switching_named}
use Rattle.text_keys.specs.TomlKeys.{whole}

-- ---- the platform

-- the length of a cache line in bytes
unfoldable pub line_bytes : Data → Option ℕ
line_bytes d = only is_line_length (whole 4 64 d)

-- where a switch may happen, by its name
unfoldable pub switching : Data → Option Switching
switching d = option_and_then switching_named (as_str d)

-- ---- texts

-- a text that may name a task
unfoldable pub name : Data → Option (List ℕ)
name d = only is_name (as_str d)

-- a text that may name a file
unfoldable pub file : Data → Option (List ℕ)
file d = only is_file (as_str d)

-- ---- places

-- the value of a digit
abbrev pub digit : ℕ → ℕ → Option ℕ
digit radix c =
    if is_between 48 57 c then Some (c - 48)
    else if radix == 16 && is_between 97 102 c then Some (c - 87)
    else if radix == 16 && is_between 65 70 c then Some (c - 55)
    else None

-- the number of more digits after those of n, if it is below 2 ^ 32
unfoldable pub digits : ℕ → ℕ → List ℕ → Option ℕ
digits radix n [] = Some n
digits radix n (c ∷ cs) =
    option_and_then (λ d. if nat_lt (n * radix + d) (2 ^ 32) then digits radix (n * radix + d) cs
    else None) (digit radix c)

-- at least one digit, and at most that many
abbrev pub digits_number : ℕ → ℕ → List ℕ → Option ℕ
digits_number radix most cs = if is_between 1 most (length cs) then digits radix 0 cs else None

-- whether a text begins with `0x`
abbrev pub starts_with_0x : List ℕ → Bool
starts_with_0x (a ∷ b ∷ cs) = a == 48 && b == 120
starts_with_0x _ = false

-- 1 to 8 hexadecimal digits after `0x`, otherwise 1 to 10 decimal digits
unfoldable pub offset : List ℕ → Option ℕ
offset cs = if starts_with_0x cs then digits_number 16 8 (drop 2 cs) else digits_number 10 10 cs

-- the byte `+`
abbrev pub is_plus : ℕ → Bool
is_plus b = b == 43

-- a symbol is not empty
abbrev pub symbol : List ℕ → ℕ → Option Place
symbol [] n = None
symbol (c ∷ cs) n = Some (Symbol (c ∷ cs) n)

-- a symbol, or a symbol and its offset, split at the first `+`
unfoldable pub place_named : List ℕ → Option Place
place_named s =
    if nat_lt (position_or_len is_plus s) (length s)
    then option_and_then (symbol (before_first is_plus s)) (offset (after_first is_plus s))
    else symbol s 0

-- a place: a number below 2^32, or a text that names a symbol, with or without an offset
unfoldable pub place : Data → Option Place
place (integer (pos n)) = if nat_lt n (2 ^ 32) then Some (Number n) else None
place (string s) = place_named s
place _ = None

-- two values as a pair of places
abbrev pub place_pair : Data → Data → Option (Place × Place)
place_pair from to = option_and_then (λ a. option_map (λ b. (a, b)) (place to)) (place from)

-- a pair of places, of exactly two items
unfoldable pub two_places : Items → Option (Place × Place)
two_places (item from (item to no_items)) = place_pair from to
two_places _ = None

-- a list of two places
unfoldable pub range : Data → Option (Place × Place)
range d = option_and_then two_places (as_array d)
