use Rattle.std.proofs.Common.{◌≡◌, ◌/◌, ℕ, List, None, sym, ◌∙◌, ap, subst, arith, BTreeMap}
use Rattle.std.specs.BTreeMap.{is_at}
use Rattle.std.specs.Map.{lookup}
use Rattle.std.specs.Ordering.{nat_cmp}
use Rattle.rv_core.specs.Memory.{Memory, byte}
use Rattle.rv_core.specs.Inner.Memory.{put_bytes}
use Rattle.rv_core.specs.Inner.Pages.{memory_of, ArePages}
use Rattle.rv_core.proofs.Pages.{byte_none, found_put, found_stored, made_put, made_stored}
use Rattle.rv_core.proofs.Pages.{stored_none}
use Rattle.rv_core.proofs.memory.DataMemory.store_within.Goals as goal
use Rattle.rv_core.proofs.memory.DataMemory.store_within.Goals.{in-Ok, in-Err}

pub invariant_of-self : goal.invariant_of-self
invariant_of-self c =
    (found_put c.args.count c.self.inside.pages.entries _ c.args.address c.args.value
    c.in-Some.page.now c.write.new.page c.self.invariant c.requires c.in-Some.ensures.value
    c.write.ensures (c.get_mut.follows.holds c.write.new.page).0).pages

pub returns-in-Some-clause-ok : goal.returns-in-Some-clause-ok
returns-in-Some-clause-ok c =
    found_stored c.args.count c.self.inside.pages.entries _ c.args.address c.args.value
    c.in-Some.page.now c.write.new.page c.self.invariant (omega arith) c.requires
    c.in-Some.ensures.value c.write.ensures (c.get_mut.follows.holds c.write.new.page).0
    ∙ ap (λ (m : Memory). put_bytes c.args.count m c.args.address c.args.value) c.self.view_is

pub returns-then-value-eq0-clause-ok : goal.returns-then-value-eq0-clause-ok
returns-then-value-eq0-clause-ok c =
    let same = ap (λ (m : BTreeMap ℕ (List ℕ)). memory_of m.entries)
    c.get_mut.follows.holds-at-none in
    same
    ∙ stored_none c.args.count c.self.inside.pages.entries c.args.address c.self.invariant
    (sym c.in_default.ensures.value) (omega arith) c.requires
    ∙ ap (λ (m : Memory). put_bytes c.args.count m c.args.address 0) c.self.view_is
    ∙ ap (put_bytes c.args.count c.args.self.now c.args.address) (sym c.if-value-eq0.true)

pub invariant_of-self-2 : goal.invariant_of-self-2
invariant_of-self-2 c =
    let same = ap (λ (m : BTreeMap ℕ (List ℕ)). m.entries) c.get_mut.follows.holds-at-none in
    let pages : ArePages 0 c.get_mut.follows.lender-at-none.entries =
    subst (ArePages 0) (sym same) c.self.invariant in
    elim c.match-insert.branch [
      | in-Ok w ↦
          made_put c.args.count c.get_mut.follows.lender-at-none.entries _ c.args.address
          c.args.value c.write-2.new.page pages (omega arith) c.requires c.write-2.ensures
          w.in-Ok.ensures.entries
      | in-Err w ↦ subst (ArePages 0) (sym w.in-Err.ensures.err) pages
    ]

pub returns-clause-ok : goal.returns-clause-ok
returns-clause-ok c =
    let same = ap (λ (m : BTreeMap ℕ (List ℕ)). m.entries) c.get_mut.follows.holds-at-none in
    let pages : ArePages 0 c.get_mut.follows.lender-at-none.entries =
    subst (ArePages 0) (sym same) c.self.invariant in
    let none : None ≡ lookup (is_at (nat_cmp (c.args.address / 64)))
    c.get_mut.follows.lender-at-none.entries =
    c.in_default.ensures.value ∙ ap (lookup (is_at (nat_cmp (c.args.address / 64)))) (sym same) in
    elim c.match-insert.branch [
      | in-Ok w ↦
          rw w.result-is
          (made_stored c.args.count c.get_mut.follows.lender-at-none.entries _ c.args.address
          c.args.value c.write-2.new.page pages (omega arith) c.requires none c.write-2.ensures
          w.in-Ok.ensures.entries w.in-Ok.ensures.updates.0
          ∙ ap (λ (m : Memory). put_bytes c.args.count m c.args.address c.args.value)
          (ap memory_of same ∙ c.self.view_is))
      | in-Err w ↦ rw w.result-is tt
    ]

pub returns-clause-stored : goal.returns-clause-stored
returns-clause-stored c = elim c.match-insert.branch [
  | in-Ok w ↦ rw w.result-is tt
  | in-Err w ↦
      rw w.result-is (
        ap (λ (m : Memory). byte m c.args.address) (sym c.self.view_is)
            ∙ byte_none c.self.inside.pages.entries c.args.address c.self.invariant
            (sym c.in_default.ensures.value),
        omega arith,
      )
]
