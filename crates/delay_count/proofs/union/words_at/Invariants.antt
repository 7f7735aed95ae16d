use Rattle.std.proofs.Common.{◌≡◌, ℕ, ◌<◌, get_or, length}
use Rattle.delay_count.specs.Inner.Words.{useful_words}
use Rattle.delay_count.proofs.union.words_at.Given as goal

abbrev pub invariant-loop-k : goal.invariant-loop-k
invariant-loop-k g l = record {
  room : length l.words ≡ 32;
  done : (k : ℕ) → k < l.k → get_or l.words k 0 ≡ useful_words l.lower l.place k;
}
