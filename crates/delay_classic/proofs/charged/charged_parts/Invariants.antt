use Rattle.std.proofs.Common.{◌≡◌, ℕ, ◌<◌, length}
use Rattle.delay_count.specs.Gamma.{part_at}
use Rattle.delay_classic.specs.Inner.Charged.{IsCharged}
use Rattle.delay_classic.proofs.charged.charged_parts.Given as goal

abbrev pub invariant-loop-j : goal.invariant-loop-j
invariant-loop-j l = record {
  room : length l.charged ≡ 32;
  done : (j : ℕ) → j < l.j
      → IsCharged l.miss (part_at l.parts) l.method l.i j (part_at l.charged j);
}
