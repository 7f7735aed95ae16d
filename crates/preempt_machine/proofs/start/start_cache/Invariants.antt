use Rattle.std.proofs.Common.{◌≡◌, take, length}
use Rattle.preempt_machine.specs.Starts.{with_blocks}
use Rattle.preempt_machine.proofs.start.start_cache.Given as goal

abbrev pub invariant-loop-block : goal.invariant-loop-block
invariant-loop-block l =
    record {
      cache : l.cache ≡ with_blocks l.set.platform l.initial.cache
          (take l.block-index l.script.cache);
      items : l.block-items ≡ l.script.cache;
      room : length l.cache ≡ 512;
      geometry : l.geometry.platform ≡ l.set.platform;
    }
