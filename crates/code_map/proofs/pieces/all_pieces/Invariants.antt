use Rattle.std.proofs.Common.{◌≡◌, map, take, All}
use Rattle.code_map.specs.Inner.Pieces.{HasBytes, IsAt, all_pieces, piece_content}
use Rattle.code_map.proofs.pieces.all_pieces.Given as goal

abbrev pub invariant-loop-file : goal.invariant-loop-file
invariant-loop-file l =
    (map piece_content l.pieces.items ≡ all_pieces (take l.file l.images))
    × All HasBytes l.pieces.items × All (IsAt l.images) l.pieces.items
