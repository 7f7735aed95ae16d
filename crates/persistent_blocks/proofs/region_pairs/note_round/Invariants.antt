-- The block is noted in the first regions.
use Rattle.std.proofs.Common.{◌≡◌, ℕ, Bool, take}
use Rattle.icache.specs.Accesses.{Accesses}
use Rattle.persistent_blocks.specs.Inner.Noted.{AreNoted, with_round}
use Rattle.persistent_blocks.proofs.region_pairs.note_round.Given as goal

abbrev pub invariant-loop-r : goal.invariant-loop-r
invariant-loop-r l =
    (a : Accesses) (noted : ℕ → ℕ → Bool) (y : ℕ) → a.set y ≡ l.set → a.block y ≡ l.block
    → AreNoted a noted l.initial.first l.initial.mixed
    → AreNoted a (with_round noted (take l.r-index l.regions) y) l.first l.mixed
