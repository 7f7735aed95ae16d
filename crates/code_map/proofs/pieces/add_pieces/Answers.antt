use Rattle.std.proofs.Common.{◌≡◌, ◌<◌, List, get_or, length, subst}
use Rattle.std.proofs.lemmas.List.Elements.{All-push}
use Rattle.crpd_base.specs.declared.data.Segment.{Segment}
use Rattle.code_map.specs.Inner.Pieces.{HasBytes, IsAt}
use Rattle.code_map.proofs.Gathered.{piece_at, piece_passed, piece_taken}
use Rattle.code_map.proofs.pieces.add_pieces.Goals as goal
use Rattle.code_map.proofs.pieces.add_pieces.Goals.{then-segment+in_ok-push, else-segment}

pub loop-place-preserved : goal.loop-place-preserved
loop-place-preserved c =
    let ss = c.as_slice-segments.result.now in
    let i = c.loop-place.place in
    let s = c.index-segments-place.result in
    let is = c.index-segments-place.is in
    elim c.if-segment.branch [
      | then-segment+in_ok-push w ↦ rw (w.pieces-is, w.in_ok-push.ensures.items) (
        piece_taken ss i s c.loop-place.pieces.items _ _ c.loop-place-test.true is
            w.if-segment.true w.piece_of.ensures.is c.loop-place.invariant.0,
        All-push HasBytes _ _ c.loop-place.invariant.1 w.piece_of.ensures.bytes,
        λ images there all.
            All-push (IsAt images) _ _ (c.loop-place.invariant.2 images there all)
            (piece_at images c.args.image.now c.args.file i s w.piece_of.result there
            (subst (λ (xs : List Segment). i < length xs) c.as_slice-segments.ensures
            c.loop-place-test.true)
            (subst (λ (xs : List Segment). s ≡ get_or xs i s) c.as_slice-segments.ensures is)
            w.piece_of.ensures.is w.piece_of.ensures.file w.piece_of.ensures.segment),
      )
      | else-segment w ↦ rw w.pieces-is (
        piece_passed ss i s _ _ c.loop-place-test.true is w.if-segment.false
            c.loop-place.invariant.0,
        c.loop-place.invariant.1,
        c.loop-place.invariant.2,
      )
    ]
