use Rattle.std.proofs.Common.{◌∙◌, sym}
use Rattle.std.proofs.lemmas.Result.{err_from_is_err_and}
use Rattle.code_map.proofs.KeptWords.{conflict_refused, is_kept, no_conflict}
use Rattle.code_map.proofs.files.Files.new.Goals as goal

pub invariant_of-result : goal.invariant_of-result
invariant_of-result c =
    is_kept (record { images = c.new.result; runs = c.new-2.result; own = c.new-3.result })
    c.deref.result.now c.deref-2.result.now c.in_ok-indexed.indexed.runs.items c.in_ok-own.own.items
    (c.deref.ensures.value ∙ sym c.new.ensures) (c.deref-2.ensures.value ∙ sym c.new.ensures)
    c.new-2.ensures c.new-3.ensures
    (c.in_ok-indexed.ensures.is (no_conflict _ _ c.in_ok-refuse_conflict.ensures))
    c.in_ok-own.ensures.each c.in_ok-own.ensures.count
    (rw c.deref.ensures.value c.requires) c.in_ok-indexed.ensures.bytes

pub returns-in_err-refuse_conflict-clause-is : goal.returns-in_err-refuse_conflict-clause-is
returns-in_err-refuse_conflict-clause-is c =
    let p = err_from_is_err_and c.from_residual-in_err-refuse_conflict.result
    c.from_residual-in_err-refuse_conflict.ensures.1 in
    rw (p.1, p.2) (λ ne. conflict_refused c.args.images.items c.deref.result.now
    c.in_ok-indexed.indexed.conflict c.in_err-refuse_conflict.field-0.0 c.deref.ensures.value
    c.in_ok-indexed.ensures.conflict c.in_err-refuse_conflict.ensures)

pub index-requires : goal.index-requires
index-requires c = rw c.deref.ensures.value c.requires

pub own_indexes-requires : goal.own_indexes-requires
own_indexes-requires c = rw c.deref-2.ensures.value c.requires
