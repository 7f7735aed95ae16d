-- Code bytes stored as runs: those of segments from an address on.
use Rattle.std.specs.Prelude.{◌≡◌, ℕ, ◌+◌, ◌-◌, ◌<◌, ◌≤◌, Bool, List, [], ◌∷◌, length, drop, map}
use Rattle.std.specs.Prelude.{AllPairs, Option, None, is_some, slice_get, option_and_then}
use Rattle.std.specs.Option.{option_map_or}
use Rattle.crpd_base.specs.declared.data.Image.{Image}
use Rattle.crpd_base.specs.declared.data.Segment.{Segment}
use Rattle.code_map.specs.declared.pieces.Piece.{Piece}
use Rattle.code_map.specs.declared.runs.Run.{Run}
use Rattle.code_map.specs.Words.{byte_from, find_map, image_byte, word_by}
use Rattle.code_map.specs.Inner.Pieces.{segment_at}

-- the bytes of a run: those of its segment from its start on
unfoldable pub run_bytes : List Image → Run → List ℕ
run_bytes images r =
    option_map_or (λ (s : Segment). drop (r.start - s.address) s.bytes)
    (segment_at images r.file r.segment) []

-- the byte of a run at an address
abbrev pub run_byte : List Image → Run → ℕ → Option ℕ
run_byte images r a = byte_from r.start (run_bytes images r) a

-- the byte of the first run that has one
abbrev pub runs_byte : List Image → List Run → ℕ → Option ℕ
runs_byte images rs a = find_map (λ r. run_byte images r a) rs

-- whether some runs together have a whole word at an address
abbrev pub have_word : List Image → List Run → ℕ → Bool
have_word images rs a = is_some (word_by (runs_byte images rs) a)

-- the address after a run's last byte
abbrev pub run_end : List Image → Run → ℕ
run_end images r = r.start + length (run_bytes images r)

-- the first of two runs ends where the other starts, or before
abbrev pub IsRunBefore : List Image → Run → Run → Type 0
IsRunBefore images r s = run_end images r ≤ s.start

-- runs in increasing order, without a common address, that have these bytes
pub record IsByteIndex (images : List Image) (runs : List Run) (byte : ℕ → Option ℕ)
    : Type 0 where
  pub apart : AllPairs (IsRunBefore images) runs
  pub is : (a : ℕ) → runs_byte images runs a ≡ byte a

-- the runs of one file
abbrev pub IsOwnIndex : List Run → Image → Type 0
IsOwnIndex runs image = IsByteIndex (image ∷ []) runs (image_byte image)

-- the first bytes from an address on, at least one if there is one
pub record AreBytesFrom (images : List Image) (runs : List Run) (address : ℕ) (bytes : List ℕ)
    : Type 0 where
  pub each : (k : ℕ) → k < length bytes
      → runs_byte images runs (address + k) ≡ slice_get bytes k
  pub none : length bytes ≡ 0 → runs_byte images runs address ≡ None

-- the run of a piece
abbrev pub run_of : Piece → Run
run_of p = record { start = p.start; file = p.file; segment = p.segment }
