use Rattle.std.specs.Prelude.{slice_index}
use Rattle.delay_count.specs.Inner.Filling.{IsNextValue}
use Rattle.delay_count.proofs.choice.next_value.Given as goal

abbrev pub invariant-loop-k : goal.invariant-loop-k
invariant-loop-k l = IsNextValue (slice_index l.values) l.k l.level l.next
