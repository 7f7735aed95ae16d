use Rattle.std.proofs.Common.{ap, Some, ◌∙◌, sym}
use Rattle.std.proofs.lemmas.Option.{slice_get-get_or}
use Rattle.code_map.proofs.Gathered.{pieces_taken}
use Rattle.code_map.proofs.pieces.all_pieces.Goals as goal

pub loop-file-preserved : goal.loop-file-preserved
loop-file-preserved c =
    let i = c.index-images-file.result in (
      pieces_taken c.args.images.now c.loop-file.file i _ _ c.loop-file-test.true
          c.index-images-file.is c.loop-file.invariant.0 c.in_ok-add_pieces.ensures.same,
      c.in_ok-add_pieces.ensures.bytes,
      c.in_ok-add_pieces.ensures.at c.args.images.now
          (slice_get-get_or c.args.images.now c.loop-file.file i c.loop-file-test.true
          ∙ ap Some (sym c.index-images-file.is)) c.loop-file.invariant.2,
    )
