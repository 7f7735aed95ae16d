use Rattle.std.proofs.Common.{ℕ, List, sym, ◌∙◌, ap, subst, arith, BTreeMap}
use Rattle.rv_core.specs.Memory.{Memory, clear_bytes}
use Rattle.rv_core.specs.Inner.Pages.{memory_of, ArePages}
use Rattle.rv_core.proofs.Pages.{found_put, found_stored, pages_from, stored_none}
use Rattle.rv_core.proofs.Clearing.{zeros_clear}
use Rattle.rv_core.proofs.memory.DataMemory.zero.Goals as goal
use Rattle.rv_core.proofs.memory.DataMemory.zero.Goals.{in-Some, in_default}

pub invariant_of-self : goal.invariant_of-self
invariant_of-self c =
    let pages = c.self.inside.pages.entries in
    elim c.match-get_mut.branch [
      | in-Some w ↦
          rw w.self-inside-is
          ((found_put c.args.count pages _ c.args.address 0 w.in-Some.page.now w.write.new.page
          c.self.invariant c.requires w.in-Some.ensures.value w.write.ensures
          (c.get_mut.follows.holds w.write.new.page).0).pages)
      | in_default w ↦
          rw w.self-inside-is
          (subst (λ (m : BTreeMap ℕ (List ℕ)). ArePages 0 m.entries)
          (sym c.get_mut.follows.holds-at-none) c.self.invariant)
    ]

pub returns : goal.returns
returns c =
    let pages = c.self.inside.pages.entries in
    let clears = zeros_clear c.args.count (memory_of pages) c.args.address
    (pages_from 0 pages c.self.invariant) (omega arith) (omega arith) in
    let view = ap (λ (m : Memory). clear_bytes m c.args.address c.args.count) c.self.view_is in
    elim c.match-get_mut.branch [
      | in-Some w ↦
          rw w.self-inside-is
          (found_stored c.args.count pages _ c.args.address 0 w.in-Some.page.now w.write.new.page
          c.self.invariant (omega arith) c.requires w.in-Some.ensures.value w.write.ensures
          (c.get_mut.follows.holds w.write.new.page).0 ∙ clears ∙ view)
      | in_default w ↦
          rw w.self-inside-is
          (ap (λ (m : BTreeMap ℕ (List ℕ)). memory_of m.entries) c.get_mut.follows.holds-at-none
          ∙ stored_none c.args.count pages c.args.address c.self.invariant
          (sym w.in_default.ensures.value) (omega arith) c.requires ∙ clears ∙ view)
    ]
