-- The lengths that a cache line may have, the names that tasks and files may have, and the names of
-- the methods.
use Rattle.std.specs.Prelude.{ℕ, List, length, codes, Bool, ◌||◌, ◌&&◌, ◌==◌, nat_le, nat_lt}
use Rattle.std.specs.List.{list_all}
use Rattle.crpd_base.specs.declared.data.DelayMethod.{DelayMethod}
use Rattle.crpd_base.specs.declared.data.DelayMethod.TheVariants as delay
use Rattle.crpd_base.specs.declared.data.Method.{Method}
use Rattle.crpd_base.specs.declared.data.Method.TheVariants.{Ucb, Ecb}

-- a number from low to high
abbrev pub is_between : ℕ → ℕ → ℕ → Bool
is_between low high n = nat_le low n && nat_le n high

-- the length of a cache line in bytes: 4, 8, 16, 32 or 64
abbrev pub is_line_length : ℕ → Bool
is_line_length n = n == 4 || n == 8 || n == 16 || n == 32 || n == 64

-- a letter, a digit, or one of `_`, `.` and `-`
abbrev pub is_name_byte : ℕ → Bool
is_name_byte b =
    is_between 48 57 b || is_between 65 90 b || is_between 97 122 b || b == 95 || b == 46 || b == 45

-- a task's name: 1 to 32 such bytes
abbrev pub is_name : List ℕ → Bool
is_name s = is_between 1 32 (length s) && list_all is_name_byte s

-- no byte below 0x21, and not 0x7F
abbrev pub is_file_byte : ℕ → Bool
is_file_byte b = nat_le 33 b && (nat_lt b 127 || nat_lt 127 b)

-- the name of a file: 1 to 255 such bytes
abbrev pub is_file : List ℕ → Bool
is_file s = is_between 1 255 (length s) && list_all is_file_byte s

-- the name of the delay by which a refined window holds
abbrev pub delay_method_name : DelayMethod → List ℕ
delay_method_name delay.Ucb = codes "ucb"
delay_method_name delay.Ecb = codes "ecb"
delay_method_name delay.Point = codes "point"

-- the name of a method
abbrev pub method_name : Method → List ℕ
method_name Ucb = codes "ucb"
method_name Ecb = codes "ecb"
