-- The UCB-union count of one word of sets.
use Rattle.std.specs.Prelude.{ℕ, ◌+◌, ◌*◌, ◌==◌, min, if◌then◌else◌, List, [], map, slice_index}
use Rattle.std.specs.Prelude.{slice_index_or}
use Rattle.std.specs.Int.{bit_at}
use Rattle.crpd_base.specs.Sum.{sum_below}
use Rattle.delay_count.specs.declared.share.Share.{Share}

-- the sum of f over the bits of a word
unfoldable pub word_sum : ℕ → (ℕ → ℕ) → ℕ
word_sum word f = sum_below (λ b. bit_at word b * f b) 64

-- the shares of the sets of a word: for each the smaller of the jobs and of what is counted already
-- and by the first tasks
unfoldable pub word_share : ℕ → ℕ → (ℕ → ℕ) → (ℕ → ℕ) → ℕ → ℕ → ℕ
word_share jobs word useful count tasks counted =
    word_sum word
    (λ b. min jobs
    (counted + sum_below (λ k. if bit_at (useful k) b == 1 then count k else 0) tasks))

-- the useful sets of a share in one word
abbrev pub useful_words : {W : ℕ} → List (Share W) → ℕ → ℕ → ℕ
useful_words {W = W} lower place k =
    slice_index (slice_index_or (map (λ (s : Share W). s.useful) lower) k []) place
