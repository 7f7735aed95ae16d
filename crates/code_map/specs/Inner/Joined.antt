-- How pieces are joined.
use Rattle.std.specs.Prelude.{◌≡◌, ◌≢◌, ℕ, ◌-◌, ◌<◌, ◌≤◌, List, length, slice_index, drop}
use Rattle.std.specs.Prelude.{min, max, Option, Some, None}
use Rattle.code_map.specs.declared.pieces.Piece.{Piece}
use Rattle.code_map.specs.Inner.Pieces.{piece_end}

-- the lists differ at i, and at no earlier place
pub record IsFirstDifference (bytes others : List ℕ) (i : ℕ) : Type 0 where
  pub one : i < length bytes
  pub other : i < length others
  pub differs : slice_index bytes i ≢ slice_index others i
  pub before : (k : ℕ) → k < i → slice_index bytes k ≡ slice_index others k

-- the smaller of two numbers, either of which may be absent
abbrev pub lesser : Option ℕ → Option ℕ → Option ℕ
lesser None b = b
lesser (Some x) None = Some x
lesser (Some x) (Some y) = Some (min x y)

-- the first of two pieces ends where the other starts, or before
abbrev pub IsPieceBefore : Piece → Piece → Type 0
IsPieceBefore p q = piece_end p ≤ q.start

-- the bytes of a piece from an address on
pub record IsRestFrom (from : ℕ) (p rest : Piece) : Type 0 where
  pub some : from - p.start < length p.bytes.now
  pub start : rest.start ≡ max p.start from
  pub bytes : rest.bytes.now ≡ drop (from - p.start) p.bytes.now
  pub file : rest.file ≡ p.file
  pub segment : rest.segment ≡ p.segment
