use Rattle.std.proofs.Common.{◌≡◌, take}
use Rattle.preempt_machine.specs.Starts.{with_segments}
use Rattle.preempt_machine.proofs.start.put_segments.Given as goal

abbrev pub invariant-loop-segment : goal.invariant-loop-segment
invariant-loop-segment l =
    l.memory ≡ with_segments l.initial.memory (take l.segment-index l.segments)
