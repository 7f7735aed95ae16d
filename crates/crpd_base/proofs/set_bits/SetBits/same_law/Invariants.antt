use Rattle.std.proofs.Common.{◌≡◌, ℕ, ◌*◌, ◌<◌, get_or}
use Rattle.crpd_base.specs.Sets.{member}
use Rattle.crpd_base.proofs.set_bits.SetBits.same_law.Given as goal

abbrev pub invariant-loop-i : goal.invariant-loop-i
invariant-loop-i g l =
    ((t : ℕ) → t < 64 * g.row.W → member l.self-inside.words t ≡ member l.other-inside.words t)
    → (k : ℕ) → k < l.i → get_or l.self-inside.words k 0 ≡ get_or l.other-inside.words k 0
