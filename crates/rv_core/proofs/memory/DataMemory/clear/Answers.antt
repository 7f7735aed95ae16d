use Rattle.std.proofs.Common.{◌≡◌, ◌+◌, ◌*◌, ◌/◌, ◌-◌, sym, ◌∙◌, ap, arith}
use Rattle.rv_core.specs.Memory.{Memory, clear_bytes}
use Rattle.rv_core.proofs.Clearing.{none_clear, parts_clear}
use Rattle.rv_core.proofs.memory.DataMemory.clear.Goals as goal

pub returns-then-end-last : goal.returns-then-end-last
returns-then-end-last c =
    let a = c.args.address in
    let n = c.args.length in
    let first = 64 * ((a + 63) / 64) in
    let last = 64 * ((a + n) / 64) in
    c.zero-then-end-last.ensures
    ∙ ap (λ (m : Memory). clear_bytes m last (a + n - last))
    (c.zero-2.ensures ∙ ap (λ (m : Memory). clear_bytes m a (first - a)) c.clear_pages.ensures)
    ∙ parts_clear c.args.self.now a first last n (omega arith) (omega arith) (omega arith)

pub returns-else-end-last : goal.returns-else-end-last
returns-else-end-last c =
    let a = c.args.address in
    let n = c.args.length in
    let first = 64 * ((a + 63) / 64) in
    let last = 64 * ((a + n) / 64) in
    let none : 0 ≡ a + n - last = omega arith in
    c.zero-2.ensures
    ∙ ap (λ (m : Memory). clear_bytes m a (first - a)) c.clear_pages.ensures
    ∙ sym (none_clear _ last)
    ∙ ap (clear_bytes _ last) none
    ∙ parts_clear c.args.self.now a first last n (omega arith) (omega arith) (omega arith)
