use Rattle.std.proofs.Common.{◌↔◌, ◌<◌, ◌∙◌, IsTrue, sym, subst, arith}
use Rattle.loop_regions.specs.CodeNest.{has, row}
use Rattle.loop_regions.specs.Inner.Heads.{nodes_of, bounds_of}
use Rattle.loop_regions.proofs.Rounds.{all_round, round_like, round_more}
use Rattle.loop_regions.proofs.around.regions_around.Goals as goal

pub returns : goal.returns
returns c =
    all_round (nodes_of c.args.regions.now.heads) (bounds_of c.args.regions.now.heads) c.args.regions.now.holders
    c.loop-y.rows.items c.loop-y.y c.args.regions.now.sound (omega arith) c.loop-y.invariant.0
    c.loop-y.invariant.1

pub loop-y-preserved-then-is_like_before : goal.loop-y-preserved-then-is_like_before
loop-y-preserved-then-is_like_before c =
    let like = c.is_like_before.ensures c.if-is_like_before.true in (
      c.loop-y.invariant.0,
      λ r s lt.
          round_like (nodes_of c.args.regions.now.heads) c.args.regions.now.holders c.loop-y.rows.items
          c.loop-y.y like.0 r s like.1 like.2 (c.loop-y.invariant.1 r s lt),
    )

pub narrow_rows-requires : goal.narrow_rows-requires
narrow_rows-requires c r t =
    subst (λ n. r < n) (sym c.loop-y.invariant.0)
    (c.args.regions.now.sound.within c.loop-y.y r
    (subst (λ xs. IsTrue (has xs r)) c.holders.ensures t))

pub loop-y-preserved : goal.loop-y-preserved
loop-y-preserved c =
    let old = c.loop-y.rows.items in
    let new = c.narrow_rows.new.rows.items in (
      c.narrow_rows.ensures.regions ∙ c.loop-y.invariant.0,
      λ r s lt.
          round_more (nodes_of c.args.regions.now.heads) c.args.regions.now.holders old new c.loop-y.y r s
          (subst (λ xs. IsTrue (has (row new r) s)
          ↔ (IsTrue (has (row old r) s) × (IsTrue (has xs r) → IsTrue (has xs s))))
          c.holders.ensures
          (c.narrow_rows.ensures.narrowed r s (subst (λ n. r < n) (sym c.loop-y.invariant.0) lt)))
          (c.loop-y.invariant.1 r s lt),
    )
