use Rattle.std.proofs.Common.{ap, sym, ◌∙◌, subst}
use Rattle.rv_core.specs.Memory.{Memory, IsMemory, byte}
use Rattle.rv_core.proofs.Pages.{byte_none, byte_read, pages_from}
use Rattle.rv_core.proofs.memory.DataMemory.byte.Goals as goal

pub returns-in-Some-clause-value : goal.returns-in-Some-clause-value
returns-in-Some-clause-value c =
    sym (byte_read c.self.inside.pages.entries c.args.address c.in-Some.page.now c.self.invariant
    (sym c.in-Some.ensures.value)) ∙ ap (λ (m : Memory). byte m c.args.address) c.self.view_is

pub returns-in-None-clause-value : goal.returns-in-None-clause-value
returns-in-None-clause-value c =
    sym (byte_none c.self.inside.pages.entries c.args.address c.self.invariant
    (sym c.in-None.ensures.value)) ∙ ap (λ (m : Memory). byte m c.args.address) c.self.view_is

pub returns-in-Some-clause-memory : goal.returns-in-Some-clause-memory
returns-in-Some-clause-memory c =
    subst IsMemory c.self.view_is (pages_from 0 c.self.inside.pages.entries c.self.invariant)

pub returns-in-None-clause-memory : goal.returns-in-None-clause-memory
returns-in-None-clause-memory c =
    subst IsMemory c.self.view_is (pages_from 0 c.self.inside.pages.entries c.self.invariant)
