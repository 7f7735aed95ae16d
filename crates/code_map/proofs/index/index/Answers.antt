use Rattle.std.proofs.Common.{ap, map, ◌∙◌}
use Rattle.code_map.specs.Inner.Runs.{run_of}
use Rattle.code_map.proofs.Indexed.{all_below, code_bytes, conflict_is, index_is}
use Rattle.code_map.proofs.index.index.Goals as goal

pub join-requires-clause-below : goal.join-requires-clause-below
join-requires-clause-below c =
    all_below c.args.images.now _ c.requires (rw c.deref.ensures.value c.in_ok-pieces.ensures.same)

pub returns-clause-conflict : goal.returns-clause-conflict
returns-clause-conflict c =
    conflict_is c.args.images.now c.deref.result.now c.requires
    (rw c.deref.ensures.value c.in_ok-pieces.ensures.same) _ c.in_ok-joined.ensures.conflict

pub returns-clause-is : goal.returns-clause-is
returns-clause-is c = λ e.
    index_is c.args.images.now c.deref.result.now c.requires
    (rw c.deref.ensures.value c.in_ok-pieces.ensures.same) c.in_ok-runs.runs.items
    c.in_ok-joined.joined.parts.items c.in_ok-joined.joined.conflict
    (c.in_ok-runs.ensures ∙ ap (map run_of) c.deref-2.ensures.value)
    (c.in_ok-joined.ensures.at c.args.images.now
    (rw c.deref.ensures.value c.in_ok-pieces.ensures.at))
    c.in_ok-joined.ensures.apart c.in_ok-joined.ensures.bytes c.in_ok-joined.ensures.conflict e

pub returns-clause-bytes : goal.returns-clause-bytes
returns-clause-bytes c =
    code_bytes c.args.images.now c.deref.result.now c.requires
    (rw c.deref.ensures.value c.in_ok-pieces.ensures.same)
    (rw c.deref.ensures.value c.in_ok-pieces.ensures.bytes)
