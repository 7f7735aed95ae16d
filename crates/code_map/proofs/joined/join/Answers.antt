use Rattle.std.proofs.Common.{arith, get_or, subst, refl, rules, ap, ◌∙◌}
use Rattle.std.proofs.lemmas.List.{take_all}
use Rattle.code_map.specs.declared.pieces.Piece.{Piece}
use Rattle.code_map.specs.Conflicts.{disagree}
use Rattle.code_map.specs.Inner.Conflicts.{IsFirstPassing}
use Rattle.code_map.specs.Inner.Joined.{IsRestFrom}
use Rattle.code_map.specs.Inner.Pieces.{piece_byte}
use Rattle.code_map.specs.Words.{find_map}
use Rattle.code_map.proofs.Sweep.{no_piece, piece_same, swept_none, swept_rest, swept_same}
use Rattle.code_map.proofs.joined.join.Goals as goal
use Rattle.code_map.proofs.joined.join.Goals.{in-Some+in_ok-push, in_default}

pub loop-piece-init : goal.loop-piece-init
loop-piece-init c =
    rw c.new-parts.ensures.items (swept_none c.args.pieces.now _ refl (search rules))

pub loop-piece-preserved : goal.loop-piece-preserved
loop-piece-preserved c =
    let p : Piece = get_or c.args.pieces.now c.loop-piece.piece-index no_piece in
    let item = piece_same c.args.pieces.now c.loop-piece.piece-index no_piece p
    c.loop-piece-test.true in
    elim c.match-rest_from.branch [
      | in-Some+in_ok-push w ↦
          rw (c.lesser-conflict.ensures, w.parts-is, w.last-is, w.in_ok-push.ensures.items)
          (swept_rest c.args.pieces.now c.loop-piece.piece-index p c.loop-piece.parts.items
          c.loop-piece.last c.loop-piece.conflict _ c.requires.ascending c.loop-piece-test.true item
          c.loop-piece.invariant c.conflict_with.ensures w.in-Some.rest
          (subst (λ n. IsRestFrom n p w.in-Some.rest) c.end_of.ensures w.in-Some.ensures)
          c.requires.below)
      | in_default w ↦
          rw (c.lesser-conflict.ensures, w.parts-is, w.last-is)
          (swept_same c.args.pieces.now c.loop-piece.piece-index p c.loop-piece.parts.items
          c.loop-piece.last c.loop-piece.conflict _ c.requires.ascending c.loop-piece-test.true item
          c.loop-piece.invariant c.conflict_with.ensures
          (omega (arith, c.end_of.ensures, w.in_default.ensures)))
    ]

pub returns-clause-bytes : goal.returns-clause-bytes
returns-clause-bytes c a =
    c.loop-piece.invariant.joined.bytes a
    ∙ ap (find_map (λ p. piece_byte p a))
    (take_all c.loop-piece.piece-index c.args.pieces.now (omega arith))

pub returns-clause-conflict : goal.returns-clause-conflict
returns-clause-conflict c =
    subst (λ ps. IsFirstPassing (λ a. disagree (λ p. piece_byte p a) ps) c.loop-piece.conflict)
    (take_all c.loop-piece.piece-index c.args.pieces.now (omega arith))
    c.loop-piece.invariant.joined.conflict
