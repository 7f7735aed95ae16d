use Rattle.std.proofs.Common.{ℕ, List, ◌∙◌, ap}
use Rattle.std.proofs.lemmas.Result.{on_ok_weaker}
use Rattle.rv_core.specs.Memory.{Memory, clear_bytes, put_all}
use Rattle.preempt_machine.proofs.start.put_segment.Goals as goal

pub returns : goal.returns
returns c =
    let a = c.args.segment.now.address in
    let cleared = clear_bytes c.args.memory.now a c.args.segment.now.size in
    on_ok_weaker c.put_all.result
    (λ e. e
    ∙ ap (λ (m : Memory). put_all m a c.as_slice.result.now) c.clear.ensures
    ∙ ap (λ (bytes : List ℕ). put_all cleared a bytes) c.as_slice.ensures)
    c.put_all.ensures.ok
