-- The pieces of files.
use Rattle.std.proofs.Common.{◌≡◌, ℕ, ◌+◌, ◌-◌, ◌<◌, List, [], ◌∷◌, ◌++◌, length, get_or, take, drop}
use Rattle.std.proofs.Common.{◌∙◌, append_assoc, Bool, true, false, cond, map, refl, filter, ap, sym}
use Rattle.std.proofs.Common.{Some, slice_get, arith}
use Rattle.std.proofs.lemmas.Option.{slice_get-get_or}
use Rattle.std.proofs.lemmas.List.{append-nil, map_push, take_more}
use Rattle.std.proofs.lemmas.List.Elements.{filter_more}
use Rattle.crpd_base.specs.declared.data.Image.{Image}
use Rattle.crpd_base.specs.declared.data.Segment.{Segment}
use Rattle.code_map.specs.declared.pieces.Piece.{Piece}
use Rattle.code_map.specs.Inner.Pieces.{all_pieces, piece_content, piece_of, pieces_of}
use Rattle.code_map.specs.Inner.Pieces.{IsAt}

-- the segments with code
abbrev code : List Segment → List Segment
code ss = filter (λ s. s.executable) ss

code_more : (ss : List Segment) (i : ℕ) (s : Segment) (b : Bool) → i < length ss
    → s ≡ get_or ss i s → s.executable ≡ b
    → code (take (i + 1) ss) ≡ code (take i ss) ++ cond b (s ∷ []) []
code_more ss i s b lt item e =
    filter_more (λ s. s.executable) ss i s lt ∙ rw (← item, e) refl

pub piece_passed : (ss : List Segment) (i : ℕ) (s : Segment) (before now : List (ℕ × List ℕ))
    → i < length ss → s ≡ get_or ss i s → s.executable ≡ false
    → now ≡ before ++ map piece_of (code (take i ss))
    → now ≡ before ++ map piece_of (code (take (i + 1) ss))
piece_passed ss i s before now lt item e is =
    is ∙ ap (λ xs. before ++ map piece_of xs)
    (sym (append-nil (code (take i ss))) ∙ sym (code_more ss i s false lt item e))

pub piece_taken : (ss : List Segment) (i : ℕ) (s : Segment) (ps : List Piece) (p : Piece)
    (before : List (ℕ × List ℕ)) → i < length ss → s ≡ get_or ss i s → s.executable ≡ true
    → piece_content p ≡ piece_of s
    → map piece_content ps ≡ before ++ map piece_of (code (take i ss))
    → map piece_content (ps ++ p ∷ []) ≡ before ++ map piece_of (code (take (i + 1) ss))
piece_taken ss i s ps p before lt item e one is =
    map_push piece_content ps p
    ∙ (rw (is, one) (append_assoc before (map piece_of (code (take i ss))) (piece_of s ∷ []))
    ∙ ap (λ xs. before ++ xs) (sym (map_push piece_of (code (take i ss)) s))
    ∙ ap (λ xs. before ++ map piece_of xs) (sym (code_more ss i s true lt item e)))

pieces_more : (is : List Image) (i : Image)
    → all_pieces (is ++ i ∷ []) ≡ all_pieces is ++ pieces_of i
pieces_more [] i = append-nil (pieces_of i)
pieces_more (j ∷ is) i =
    ap (λ xs. pieces_of j ++ xs) (pieces_more is i)
    ∙ sym (append_assoc (pieces_of j) (all_pieces is) (pieces_of i))

-- the pieces of one more file
pub pieces_taken : (is : List Image) (n : ℕ) (i : Image) (old new : List (ℕ × List ℕ))
    → n < length is → i ≡ get_or is n i
    → old ≡ all_pieces (take n is) → new ≡ old ++ pieces_of i → new ≡ all_pieces (take (n + 1) is)
pieces_taken is n i old new lt item before after =
    after ∙ (ap (λ xs. xs ++ pieces_of i) before
    ∙ (sym (pieces_more (take n is) i)
    ∙ ap all_pieces (ap (λ x. take n is ++ x ∷ []) item ∙ sym (take_more is n i lt))))

-- the piece of a segment is that of the places of the segment
pub piece_at : (images : List Image) (i : Image) (file place : ℕ) (s : Segment) (p : Piece)
    → slice_get images file ≡ Some i → place < length i.segments → s ≡ get_or i.segments place s
    → piece_content p ≡ piece_of s → p.file ≡ file → p.segment ≡ place → IsAt images p
piece_at images i file place s p there lt item same is_file is_place =
    let start : p.start ≡ s.address = ap (λ (c : ℕ × List ℕ). c.0) same in
    let bytes : p.bytes.now ≡ s.bytes = ap (λ (c : ℕ × List ℕ). c.1) same in
    let none : 0 ≡ p.start - s.address = omega (arith, start) in
    record {
      at = s;
      is =
          rw (is_file, is_place, there) (slice_get-get_or i.segments place s lt
          ∙ ap Some (sym item));
      from = omega (arith, start);
      bytes = bytes ∙ ap (λ n. drop n s.bytes) none;
    }
