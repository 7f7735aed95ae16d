use Rattle.std.proofs.Common.{◌≡◌, ◌/◌, ℕ, List, None, length, sym, ◌∙◌, ap, subst, arith, BTreeMap}
use Rattle.std.specs.BTreeMap.{is_at}
use Rattle.std.specs.Map.{lookup}
use Rattle.std.specs.Ordering.{nat_cmp}
use Rattle.rv_core.specs.Memory.{Memory}
use Rattle.rv_core.specs.Inner.Memory.{put_bytes}
use Rattle.rv_core.specs.Inner.Pages.{memory_of, little_endian_number, ArePages}
use Rattle.rv_core.proofs.Bytes.{fits_byte, stored_all, zero_number}
use Rattle.rv_core.proofs.Pages.{found_put, found_stored, made_put, made_stored, stored_none}
use Rattle.rv_core.proofs.memory.DataMemory.put_within.Goals as goal
use Rattle.rv_core.proofs.memory.DataMemory.put_within.Goals.{in-Ok, in-Err}

pub invariant_of-self : goal.invariant_of-self
invariant_of-self c =
    let bytes = c.args.bytes.now in
    (found_put (length bytes) c.self.inside.pages.entries _ c.args.address
    (little_endian_number bytes) c.in-Some.page.now c.copy.new.page c.self.invariant c.requires
    c.in-Some.ensures.value c.copy.ensures (c.get_mut.follows.holds c.copy.new.page).0).pages

pub returns-in-Some-clause-ok : goal.returns-in-Some-clause-ok
returns-in-Some-clause-ok c =
    let bytes = c.args.bytes.now in
    found_stored (length bytes) c.self.inside.pages.entries _ c.args.address
    (little_endian_number bytes) c.in-Some.page.now c.copy.new.page c.self.invariant
    (omega arith) c.requires c.in-Some.ensures.value c.copy.ensures
    (c.get_mut.follows.holds c.copy.new.page).0
    ∙ ap (λ (m : Memory). put_bytes (length bytes) m c.args.address (little_endian_number bytes))
    c.self.view_is
    ∙ stored_all bytes c.args.self.now c.args.address (λ i. fits_byte (c.type_inv.bytes i))
    (omega arith)

pub returns-then-are_zero-clause-ok : goal.returns-then-are_zero-clause-ok
returns-then-are_zero-clause-ok c =
    let bytes = c.args.bytes.now in
    let same = ap (λ (m : BTreeMap ℕ (List ℕ)). memory_of m.entries)
    c.get_mut.follows.holds-at-none in
    let none : little_endian_number bytes ≡ 0 =
    zero_number bytes (c.are_zero.ensures.0 c.if-are_zero.true) in
    same
    ∙ stored_none (length bytes) c.self.inside.pages.entries c.args.address c.self.invariant
    (sym c.in_default.ensures.value) (omega arith) c.requires
    ∙ ap (λ (m : Memory). put_bytes (length bytes) m c.args.address 0) c.self.view_is
    ∙ ap (put_bytes (length bytes) c.args.self.now c.args.address) (sym none)
    ∙ stored_all bytes c.args.self.now c.args.address (λ i. fits_byte (c.type_inv.bytes i))
    (omega arith)

pub invariant_of-self-2 : goal.invariant_of-self-2
invariant_of-self-2 c =
    let bytes = c.args.bytes.now in
    let same = ap (λ (m : BTreeMap ℕ (List ℕ)). m.entries) c.get_mut.follows.holds-at-none in
    let pages : ArePages 0 c.get_mut.follows.lender-at-none.entries =
    subst (ArePages 0) (sym same) c.self.invariant in
    elim c.match-insert.branch [
      | in-Ok w ↦
          made_put (length bytes) c.get_mut.follows.lender-at-none.entries _ c.args.address
          (little_endian_number bytes) c.copy-2.new.page pages (omega arith) c.requires
          c.copy-2.ensures w.in-Ok.ensures.entries
      | in-Err w ↦ subst (ArePages 0) (sym w.in-Err.ensures.err) pages
    ]

pub returns-clause-ok : goal.returns-clause-ok
returns-clause-ok c =
    let bytes = c.args.bytes.now in
    let same = ap (λ (m : BTreeMap ℕ (List ℕ)). m.entries) c.get_mut.follows.holds-at-none in
    let pages : ArePages 0 c.get_mut.follows.lender-at-none.entries =
    subst (ArePages 0) (sym same) c.self.invariant in
    let none : None ≡ lookup (is_at (nat_cmp (c.args.address / 64)))
    c.get_mut.follows.lender-at-none.entries =
    c.in_default.ensures.value ∙ ap (lookup (is_at (nat_cmp (c.args.address / 64)))) (sym same) in
    elim c.match-insert.branch [
      | in-Ok w ↦
          rw w.result-is
          (made_stored (length bytes) c.get_mut.follows.lender-at-none.entries _ c.args.address
          (little_endian_number bytes) c.copy-2.new.page pages (omega arith) c.requires none
          c.copy-2.ensures w.in-Ok.ensures.entries w.in-Ok.ensures.updates.0
          ∙ ap (λ (m : Memory). put_bytes (length bytes) m c.args.address
          (little_endian_number bytes)) (ap memory_of same ∙ c.self.view_is)
          ∙ stored_all bytes c.args.self.now c.args.address (λ i. fits_byte (c.type_inv.bytes i))
          (omega arith))
      | in-Err w ↦ rw w.result-is tt
    ]
