use Rattle.std.proofs.Common.{List, ℕ, map, rules, subst}
use Rattle.std.specs.List.Sorted.{IsPermutation}
use Rattle.std.proofs.lemmas.List.Sorted.{All-permutation, IsPermutation-map}
use Rattle.std.proofs.lemmas.List.Sorted.{IsNonDecreasingBy-from_sort_by_key}
use Rattle.code_map.specs.declared.pieces.Piece.{Piece}
use Rattle.code_map.specs.Inner.Pieces.{HasBytes, piece_content}
use Rattle.code_map.proofs.pieces.pieces.Goals as goal

pub returns-clause-same : goal.returns-clause-same
returns-clause-same c =
    subst (λ (xs : List (ℕ × List ℕ)).
    IsPermutation xs (map piece_content c.sort_by_key.new.self.items)) c.in_ok-pieces.ensures.same
    (IsPermutation-map piece_content _ _ c.in_ok-sort_by_key.ensures.permutation)

pub returns-clause-bytes : goal.returns-clause-bytes
returns-clause-bytes c =
    All-permutation HasBytes _ _ c.in_ok-sort_by_key.ensures.permutation
    c.in_ok-pieces.ensures.bytes

pub returns-clause-ascending : goal.returns-clause-ascending
returns-clause-ascending c =
    IsNonDecreasingBy-from_sort_by_key (λ (p : Piece). p.start) _ c.in_ok-sort_by_key.ensures.sorted
    (λ a r q k. search rules)
