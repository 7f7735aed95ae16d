use Rattle.std.proofs.Common.{◌≡◌, ◌-◌, ◌≤◌, length, take}
use Rattle.rv_core.specs.Memory.{put_all}
use Rattle.rv_core.proofs.memory.DataMemory.put_all.Given as goal

abbrev pub invariant-loop-from : goal.invariant-loop-from
invariant-loop-from l =
    record {
      within : l.from ≤ length l.bytes;
      memory : l.self ≡ put_all l.initial.self l.address (take l.from l.bytes);
    }

abbrev pub decreases-loop-from : goal.decreases-loop-from
decreases-loop-from l = length l.bytes - l.from
