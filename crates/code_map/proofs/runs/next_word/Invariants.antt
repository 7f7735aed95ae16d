use Rattle.std.proofs.Common.{ℕ, ◌<◌}
use Rattle.code_map.specs.Inner.NextPassing.{HasNoNext}
use Rattle.code_map.proofs.runs.next_word.Given as goal

abbrev pub invariant-loop-place : goal.invariant-loop-place
invariant-loop-place l = (k : ℕ) → k < l.place → HasNoNext l.images l.runs k l.from
