-- The regions that the first nodes head.
use Rattle.std.proofs.Common.{◌≡◌, ℕ, ◌<◌, length}
use Rattle.loop_regions.specs.CodeNest.{nest_of}
use Rattle.loop_regions.specs.EdgeKinds.{item_by}
use Rattle.loop_regions.specs.Nest.{IsItem}
use Rattle.persistent_blocks.specs.Inner.Brought.{headed}
use Rattle.persistent_blocks.proofs.region_heads.region_heads.Given as goal

abbrev pub invariant-loop-node : goal.invariant-loop-node
invariant-loop-node l = record {
  count : length l.heads.items ≡ l.node;
  each : (y : ℕ) → y < l.node → IsItem (nest_of l.nest) y (item_by (headed l.heads.items y) y);
}
