use Rattle.std.proofs.Common.{◌/◌, ap, sym, ◌∙◌, arith}
use Rattle.rv_core.specs.Memory.{Memory, memory_word}
use Rattle.rv_core.specs.Inner.Pages.{memory_of}
use Rattle.rv_core.proofs.Pages.{none_shows, page_shows, whole_none, whole_read}
use Rattle.rv_core.proofs.memory.DataMemory.whole.Goals as goal

pub returns-in-Some : goal.returns-in-Some
returns-in-Some c =
    let pages = c.self.inside.pages.entries in
    let a = c.args.address in
    c.word_of.ensures
    ∙ sym (whole_read (memory_of pages) c.in-Some.page.now a
    (page_shows pages (a / 64) c.in-Some.page.now c.self.invariant (sym c.in-Some.ensures.value))
    (omega arith) (omega arith))
    ∙ ap (λ (m : Memory). memory_word m a) c.self.view_is

pub returns-in-None : goal.returns-in-None
returns-in-None c =
    let pages = c.self.inside.pages.entries in
    let a = c.args.address in
    sym (whole_none (memory_of pages) a (omega arith) (omega arith)
    (none_shows pages (a / 64) c.self.invariant (sym c.in-None.ensures.value)))
    ∙ ap (λ (m : Memory). memory_word m a) c.self.view_is
