use Rattle.std.proofs.Common.{◌≡◌, drop, length}
use Rattle.crpd_base.proofs.Results.{with_front}
use Rattle.code_map.specs.Places.{plans_of}
use Rattle.code_map.specs.Words.{word_at}
use Rattle.code_map.proofs.plans.plans_of.Given as goal

abbrev pub invariant-loop-i : goal.invariant-loop-i
invariant-loop-i l =
    (with_front l.plans.items (plans_of (word_at l.files) l.i (drop l.i l.tasks) (drop l.i l.files))
    ≡ plans_of (word_at l.files) 0 l.tasks l.files) × (length l.plans.items ≡ l.i)
