-- The list of a task's own words: a line for each address at which its own file has a whole word,
-- in increasing order.
use Rattle.std.specs.Prelude.{ℕ, zero, suc, ◌^◌, Bool, List, [], ◌∷◌, ◌++◌, codes, slice_get}
use Rattle.std.specs.Prelude.{Option, Some, None, if◌then◌else◌}
use Rattle.std.specs.List.{flat_map}
use Rattle.std.specs.Option.{option_map_or}
use Rattle.crpd_base.specs.declared.data.Task.{Task}
use Rattle.crpd_base.specs.declared.data.Image.{Image}
use Rattle.rv_decode.specs.declared.Ins.{Ins}
use Rattle.rv_decode.specs.Table.{ins_of_word}
use Rattle.rv_decode.specs.Text.{text}
use Rattle.code_map.specs.Words.{Code, word_at, owns}
use Rattle.crpd_base.specs.Texts.{hexadecimal}

-- the numbers below n that pass a test, in increasing order
unfoldable pub those_below : ℕ → (ℕ → Bool) → List ℕ
those_below zero p = []
those_below (suc n) p = those_below n p ++ (if p n then n ∷ [] else [])

-- the addresses at which a file holds a whole word
unfoldable pub own_addresses : Image → List ℕ
own_addresses image = those_below (2 ^ 32) (owns image)

-- the text of a word: that of its instruction, or `.word` if it is none
abbrev pub word_text : Option Ins → List ℕ
word_text (Some ins) = text ins
word_text None = codes ".word"

-- the line of a word: its address, the word, and its text
abbrev pub word_line : ℕ → ℕ → List ℕ
word_line address word =
    hexadecimal address ++ codes " " ++ hexadecimal word ++ codes " "
    ++ word_text (ins_of_word word) ++ 10 ∷ []

-- the line of the word at an address, if there is one
abbrev pub line_of : ℕ → Option ℕ → List ℕ
line_of address word = option_map_or (word_line address) word []

-- the lines of these addresses
abbrev pub word_lines : Code → List ℕ → List ℕ
word_lines code addresses = flat_map (λ a. line_of a (word_at code.images a)) addresses

-- the lines of the words that the task's own file has, in the order of addresses
unfoldable pub list_text : Code → Task → List ℕ
list_text code task =
    word_lines code (option_map_or own_addresses (slice_get code.images task.0) [])
