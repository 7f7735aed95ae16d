-- A command word that is a number.
use Rattle.std.specs.Prelude.{ℕ, Bool, ◌+◌, ◌-◌, ◌*◌, ◌^◌, ◌&&◌, ◌||◌, not, nat_eq, nat_lt, List}
use Rattle.std.specs.Prelude.{[], ◌∷◌, length, slice_index, Option, Some, None, if◌then◌else◌}
use Rattle.std.specs.List.{list_all}
use Rattle.crpd_base.specs.Names.{is_between}

-- an ASCII digit
abbrev pub is_digit : ℕ → Bool
is_digit b = is_between 48 57 b

-- 1 to 10 bytes
abbrev pub is_short : List ℕ → Bool
is_short word = is_between 1 10 (length word)

-- there is no leading 0 if there are several digits
abbrev pub has_no_leading_zero : List ℕ → Bool
has_no_leading_zero word = nat_eq (length word) 1 || not (nat_eq (slice_index word 0) 48)

-- 1 to 10 digits, without a leading 0 if there are several
abbrev pub is_number : List ℕ → Bool
is_number word = is_short word && has_no_leading_zero word && list_all is_digit word

-- the number that digits write, given the number that the digits before them write
unfoldable pub value_after : ℕ → List ℕ → ℕ
value_after n [] = n
value_after n (digit ∷ digits) = value_after (10 * n + (digit - 48)) digits

-- the number that a word writes: 0, or 1 to 10 decimal digits without a leading 0; below 2^31
abbrev pub command_number : List ℕ → Option ℕ
command_number word =
    if is_number word && nat_lt (value_after 0 word) (2 ^ 31) then Some (value_after 0 word)
    else None
