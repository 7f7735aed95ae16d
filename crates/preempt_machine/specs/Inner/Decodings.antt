-- The table of decoded words.
use Rattle.std.specs.Prelude.{◌≡◌, ◌<◌, List, length, All}
use Rattle.rv_decode.specs.Table.{ins_of_word}
use Rattle.preempt_machine.specs.declared.decoded.Decoding.{Decoding}

-- what contracts see of it
abbrev pub Nothing : Type 0
Nothing = Unit {0}

-- the one such value
abbrev pub nothing : Nothing
nothing = tt

-- there is at least one place, and each has a word with the instruction that it encodes
pub record AreDecoded (places : List Decoding) : Type 0 where
  pub some : 0 < length places
  pub each : All (λ (d : Decoding). d.meaning ≡ ins_of_word d.word) places
