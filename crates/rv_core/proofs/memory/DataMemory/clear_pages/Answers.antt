use Rattle.std.proofs.Common.{◌*◌, ◌-◌, ap, sym, ◌∙◌, subst}
use Rattle.rv_core.specs.Memory.{Memory, clear_bytes}
use Rattle.rv_core.specs.Inner.Pages.{memory_of, ArePages}
use Rattle.rv_core.proofs.Clearing.{outside_pages, outside_clear}
use Rattle.rv_core.proofs.memory.DataMemory.clear_pages.Goals as goal

pub returns : goal.returns
returns c =
    ap memory_of c.remove_pages.ensures
    ∙ outside_clear c.self.inside.pages.entries c.args.first c.args.last c.self.invariant c.requires
    ∙ ap (λ (m : Memory). clear_bytes m (64 * c.args.first) (64 * c.args.last - 64 * c.args.first))
    c.self.view_is

pub invariant_of-self : goal.invariant_of-self
invariant_of-self c =
    subst (ArePages 0) (sym c.remove_pages.ensures)
    (outside_pages 0 c.self.inside.pages.entries c.args.first c.args.last c.self.invariant)
