use Rattle.std.proofs.Common.{[], ◌∙◌, ◌<◌, ap, arith, length, get_or, set}
use Rattle.std.proofs.lemmas.List.{length-set, get_or_default}
use Rattle.loop_regions.proofs.Has.{has_at}
use Rattle.loop_regions.proofs.Rounds.{narrow_more}
use Rattle.loop_regions.proofs.around.narrow_rows.Goals as goal

pub index_mut-around-requires : goal.index_mut-around-requires
index_mut-around-requires c =
    let lt = c.requires (get_or c.args.holders.now c.loop-r.r-index 0)
    (has_at c.args.holders.now c.loop-r.r-index (omega arith)) in
    omega (arith, c.loop-r.invariant.0)

pub loop-r-preserved : goal.loop-r-preserved
loop-r-preserved c =
    let q = get_or c.args.holders.now c.loop-r.r-index 0 in
    let i_lt : c.loop-r.r-index < length c.args.holders.now = omega arith in
    let lt = c.requires q (has_at c.args.holders.now c.loop-r.r-index i_lt) in
    let here : q < length c.loop-r.rows.items = omega (arith, c.loop-r.invariant.0) in (
      length-set c.loop-r.rows.items q c.keep.new.self ∙ c.loop-r.invariant.0,
      λ r s. narrow_more c.args.rows.now.items c.loop-r.rows.items
          (set c.loop-r.rows.items q c.keep.new.self) c.args.holders.now
          c.index_mut-around.result.now c.loop-r.r-index r s i_lt here
          (c.index_mut-around.ensures.value
          ∙ get_or_default c.loop-r.rows.items q c.index_mut-around.result.now [] here)
          (ap (set c.loop-r.rows.items q) c.keep.ensures) (c.loop-r.invariant.1 r s),
    )
