use Rattle.std.proofs.Common.{◌≡◌, ℕ, ◌-◌, ◌<◌, ◌≤◌, ◌^◌, get_or, bit_and}
use Rattle.crpd_base.proofs.set_bits.SetBits.minus.Given as goal

abbrev pub invariant-loop-i : goal.invariant-loop-i
invariant-loop-i g l = record {
  done : (k : ℕ) → k < l.i
      → get_or l.self-inside.words k 0
      ≡ bit_and (get_or l.initial.self-inside.words k 0)
      (2 ^ 64 - 1 - get_or l.other-inside.words k 0);
  words : (k : ℕ) → k < l.i → get_or l.other-inside.words k 0 < 2 ^ 64;
  others : (k : ℕ) → l.i ≤ k
      → get_or l.self-inside.words k 0 ≡ get_or l.initial.self-inside.words k 0;
}
