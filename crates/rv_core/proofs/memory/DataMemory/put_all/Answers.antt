use Rattle.std.proofs.Common.{◌+◌, ◌∙◌, ap, arith, slice_range}
use Rattle.rv_core.specs.Memory.{Memory, put_all}
use Rattle.rv_core.proofs.Bytes.{all_to}
use Rattle.rv_core.proofs.memory.DataMemory.put_all.Goals as goal

pub loop-from-preserved : goal.loop-from-preserved
loop-from-preserved c =
    let bytes = c.args.bytes.now in
    let from = c.loop-from.from in
    let to = c.min-to.result in
    record {
      within = omega arith;
      memory = c.in_ok-put_within.ensures.ok
          ∙ ap (λ (m : Memory). put_all m (c.args.address + from) (slice_range bytes from to))
          c.loop-from.invariant.memory
          ∙ all_to bytes from to c.args.self.now c.args.address (omega arith) (omega arith);
    }
