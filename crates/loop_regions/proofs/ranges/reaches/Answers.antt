use Rattle.std.proofs.Common.{◌+◌, refl, sym, subst, slice_index_or}
use Rattle.loop_regions.specs.Inner.Ranges.{IsReach, AreReaches}
use Rattle.loop_regions.proofs.InRanges.{reach_more, reaches_more}
use Rattle.loop_regions.proofs.ranges.reaches.Goals as goal

pub loop-range-preserved : goal.loop-range-preserved
loop-range-preserved c =
    let ranges = c.args.ranges.now in
    let count = c.loop-range.range-index in
    let reach : IsReach ranges (count + 1) c.max-greatest.result =
    subst (IsReach ranges (count + 1)) (sym c.max-greatest.ensures)
    (reach_more ranges count c.loop-range.greatest (slice_index_or ranges count (0, 0))
    c.loop-range.invariant.reach refl) in
    record {
      reach = reach;
      reaches = subst (λ l. AreReaches ranges l (count + 1)) (sym c.in_ok-push.ensures.items)
          (reaches_more ranges c.loop-range.reaches.items count c.max-greatest.result
          c.loop-range.invariant.reaches reach);
    }
