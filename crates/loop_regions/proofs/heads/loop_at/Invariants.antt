use Rattle.std.proofs.Common.{◌≢◌, ◌<◌, ℕ, slice_index_or}
use Rattle.crpd_base.specs.declared.data.LoopAt.{LoopAt}
use Rattle.loop_regions.proofs.heads.loop_at.Given as goal

abbrev pub invariant-loop-number : goal.invariant-loop-number
invariant-loop-number l =
    (k : ℕ) (d : LoopAt) → k < l.number → l.address ≢ (slice_index_or l.loops k d).head
