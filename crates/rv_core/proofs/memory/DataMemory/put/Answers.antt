use Rattle.std.proofs.Common.{◌≡◌, ◌%◌, ◌^◌, ap, ◌∙◌, arith}
use Rattle.std.proofs.lemmas.Result.{on_ok_weaker}
use Rattle.rv_core.specs.Memory.{put_byte}
use Rattle.rv_core.proofs.memory.DataMemory.put.Goals as goal

pub returns-clause-ok : goal.returns-clause-ok
returns-clause-ok c =
    let low : c.args.byte % 2 ^ 8 ≡ c.args.byte = omega arith in
    on_ok_weaker c.store_within.result (λ e. e ∙ ap (put_byte c.args.self.now c.args.address) low)
    c.store_within.ensures.ok
