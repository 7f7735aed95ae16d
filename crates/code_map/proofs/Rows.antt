-- Worked examples of the definitions.
use Rattle.std.proofs.Common.{◌≡◌, true, false, [], ◌∷◌, Some, None, Ok, Err, refl}
use Rattle.crpd_base.specs.declared.data.Image.{Image}
use Rattle.crpd_base.specs.declared.data.Place.TheVariants.{Symbol as Named}
use Rattle.code_map.specs.declared.error.MapError.TheVariants.{UnknownSymbol}
use Rattle.code_map.specs.Conflicts.{is_conflict}
use Rattle.code_map.specs.Places.{address_of, place_text}
use Rattle.code_map.specs.Values.{value_of}
use Rattle.code_map.specs.Words.{owns, word_at}

-- `addi x5,x0,1` and `ecall` at 0x1000, followed by four bytes that are not in the file
abbrev one : Image
one = record {
  entry = 0x1000;
  segments =
      record {
        address = 0x1000;
        size = 12;
        bytes = 0x93 ∷ 2 ∷ 0x10 ∷ 0 ∷ 0x73 ∷ 0 ∷ 0 ∷ 0 ∷ [];
        executable = true;
      } ∷ [];
  symbols =
      record { name = 97 ∷ []; value = 0x1000 } ∷ record { name = 97 ∷ []; value = 0x1004 } ∷ [];
}

-- the same in two adjacent segments, with a different third byte
abbrev two : Image
two = record {
  entry = 0x1000;
  segments =
      record {
        address = 0x1000;
        size = 6;
        bytes = 0x93 ∷ 2 ∷ 0x20 ∷ 0 ∷ 0x73 ∷ 0 ∷ [];
        executable = true;
      } ∷ record { address = 0x1006; size = 2; bytes = 0 ∷ 0 ∷ []; executable = true } ∷ [];
  symbols = [];
}

word_one : word_at (one ∷ []) 0x1000 ≡ Some 0x00100293
unfolding word_at
word_one = refl

word_past : word_at (one ∷ []) 0x1008 ≡ None
unfolding word_at
word_past = refl

word_unaligned : word_at (one ∷ []) 0x1002 ≡ None
unfolding word_at
word_unaligned = refl

own_word : owns two 0x1004 ≡ true
unfolding owns
own_word = refl

conflict_at : is_conflict (one ∷ two ∷ []) 0x1002 ≡ true
conflict_at = refl

no_conflict_at : is_conflict (one ∷ two ∷ []) 0x1001 ≡ false
no_conflict_at = refl

first_value : value_of one.symbols (97 ∷ []) ≡ Some 0x1000
unfolding value_of
first_value = refl

address_with_offset : address_of (record { 0 = 1 }) one.symbols (Named (97 ∷ []) 4) ≡ Ok 0x1004
unfolding address_of value_of
address_with_offset = refl

unknown_symbol : address_of (record { 0 = 1 }) one.symbols (Named (99 ∷ []) 0)
    ≡ Err (UnknownSymbol (record { 0 = 1 }) (99 ∷ []))
unfolding address_of value_of place_text
unknown_symbol = refl
