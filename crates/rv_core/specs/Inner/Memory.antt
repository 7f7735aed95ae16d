-- Inner definitions: the data memory after a store of several bytes.
use Rattle.std.specs.Prelude.{ℕ, zero, suc, ◌/◌, ◌%◌, ◌^◌}
use Rattle.rv_core.specs.Memory.{Memory, put_byte, next_byte}

-- the memory after a store of the low n bytes of a value, in order
abbrev pub put_bytes : ℕ → Memory → ℕ → ℕ → Memory
put_bytes zero memory a value = memory
put_bytes (suc n) memory a value =
    put_bytes n (put_byte memory a (value % 2 ^ 8)) (next_byte a) (value / 2 ^ 8)
