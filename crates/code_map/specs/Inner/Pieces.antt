-- The code bytes of files in pieces, one for each executable segment.
use Rattle.std.specs.Prelude.{◌≡◌, ℕ, ◌+◌, ◌-◌, ◌≤◌, List, [], ◌∷◌, ◌++◌, length, drop, Option}
use Rattle.std.specs.Prelude.{Some, map, filter, All, ◌<◌, slice_get, option_and_then}
use Rattle.crpd_base.specs.declared.data.Image.{Image}
use Rattle.crpd_base.specs.declared.data.Segment.{Segment}
use Rattle.code_map.specs.declared.pieces.Piece.{Piece}
use Rattle.code_map.specs.Words.{byte_from}

-- the start of a piece, and its bytes
abbrev pub piece_of : Segment → ℕ × List ℕ
piece_of s = (s.address, s.bytes)

-- the pieces of a file
abbrev pub pieces_of : Image → List (ℕ × List ℕ)
pieces_of image = map piece_of (filter (λ s. s.executable) image.segments)

-- the pieces of files, in order
abbrev pub all_pieces : List Image → List (ℕ × List ℕ)
all_pieces [] = []
all_pieces (i ∷ is) = pieces_of i ++ all_pieces is

-- the start and the bytes of a piece of the program
abbrev pub piece_content : Piece → ℕ × List ℕ
piece_content p = (p.start, p.bytes.now)

-- the byte of a piece at an address
abbrev pub piece_byte : Piece → ℕ → Option ℕ
piece_byte p a = byte_from p.start p.bytes.now a

-- the address after a piece's last byte
abbrev pub piece_end : Piece → ℕ
piece_end p = p.start + length p.bytes.now

-- each byte of a piece is below 256
abbrev pub HasBytes : Piece → Type 0
HasBytes p = All (λ b. b < 256) p.bytes.now

-- the segment at a place of the file at a place
abbrev pub segment_at : List Image → ℕ → ℕ → Option Segment
segment_at images file place =
    option_and_then (λ (i : Image). slice_get i.segments place) (slice_get images file)

-- the bytes of a piece are those of its segment from its start on
pub record IsAt (images : List Image) (p : Piece) : Type 0 where
  pub at : Segment
  pub is : segment_at images p.file p.segment ≡ Some at
  pub from : at.address ≤ p.start
  pub bytes : p.bytes.now ≡ drop (p.start - at.address) at.bytes
