use Rattle.std.proofs.Common.{◌^◌, ◌%◌, ap, ◌∙◌, arith}
use Rattle.std.proofs.lemmas.Result.{on_ok_weaker}
use Rattle.rv_core.specs.Memory.{Memory, put_byte}
use Rattle.rv_core.proofs.Memories.{store_zero, put_undone}
use Rattle.rv_core.proofs.memory.DataMemory.+store_across.Goals as goal

pub returns-then-low-eq0-clause-ok : goal.returns-then-low-eq0-clause-ok
returns-then-low-eq0-clause-ok t c =
    on_ok_weaker c.put.result
    (λ e. e ∙ ap (λ (m : Memory). put_byte m c.args.address 0) c.in_ok-store_across.ensures.ok
    ∙ store_zero c.args.count c.args.self.now c.args.address c.args.value
    c.byte-before.ensures.memory (omega arith) c.requires c.if-count-eq0.false (omega arith))
    c.put.ensures.ok

pub returns-in-Err-clause-err : goal.returns-in-Err-clause-err
returns-in-Err-clause-err t c =
    put_undone _ c.args.self.now c.store_across-2.new.self c.put-in-Err.new.self c.args.address
    (c.args.value % 2 ^ 8) _ c.byte-before.ensures.memory (omega arith) (omega arith) (omega arith)
    (c.in-Err.ensures.err ∙ c.in_ok-put.ensures.ok) c.byte-before.ensures.value
    c.put-in-Err.ensures.ok c.put-in-Err.ensures.stored
