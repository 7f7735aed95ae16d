use Rattle.std.proofs.Common.{◌≡◌, [], take}
use Rattle.preempt_machine.specs.Starts.{with_images}
use Rattle.preempt_machine.proofs.start.start_memory.Given as goal

abbrev pub invariant-loop-image : goal.invariant-loop-image
invariant-loop-image l =
    record {
      memory : l.memory
          ≡ with_images [] (take l.image-index l.code.images);
      items : l.image-items ≡ l.code.images;
    }
