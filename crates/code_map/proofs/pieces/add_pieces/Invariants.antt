use Rattle.std.proofs.Common.{◌≡◌, ◌++◌, List, map, take, All, filter, Some, slice_get}
use Rattle.crpd_base.specs.declared.data.Image.{Image}
use Rattle.code_map.specs.Inner.Pieces.{HasBytes, IsAt, piece_of, piece_content}
use Rattle.code_map.proofs.pieces.add_pieces.Given as goal

abbrev pub invariant-loop-place : goal.invariant-loop-place
invariant-loop-place l =
    (map piece_content l.pieces.items
    ≡ map piece_content l.initial.pieces.items
    ++ map piece_of (filter (λ s. s.executable) (take l.place l.segments)))
    × All HasBytes l.pieces.items
    × ((images : List Image) → slice_get images l.file ≡ Some l.image
    → All (IsAt images) l.initial.pieces.items → All (IsAt images) l.pieces.items)
