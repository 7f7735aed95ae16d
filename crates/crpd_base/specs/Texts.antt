-- The text of an address or a word.
use Rattle.std.specs.Prelude.{ℕ, ◌-◌, List, ◌++◌, length, false, replicate}
use Rattle.std.specs.Fmt.{digits}

-- its hexadecimal digits in lower case, padded with zeros to 8
abbrev pub hexadecimal : ℕ → List ℕ
hexadecimal n = replicate (8 - length (digits 16 false n)) 48 ++ digits 16 false n
