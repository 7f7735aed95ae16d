use Rattle.std.proofs.Common.{◌∙◌, refl, ap, arith, length, get_or}
use Rattle.std.proofs.lemmas.Option.{slice_get_within, slice_get-get_or, slice_get_read}
use Rattle.flat_graph.specs.CodeGraph.{places_of}
use Rattle.loop_regions.specs.CodeNest.{row}
use Rattle.loop_regions.specs.declared.heads.Head.{Head}
use Rattle.loop_regions.proofs.HeadsFound.{placed}
use Rattle.loop_regions.proofs.holding.holders.Goals as goal

pub loop-r-preserved : goal.loop-r-preserved
loop-r-preserved c =
    let heads = c.args.heads.now in
    let loops = c.args.loops.now in
    let k = c.loop-r.r in
    let none : Head = record { node = 0; stated = 0; bound = 0 } in
    let h = get_or heads k none in
    let eh = slice_get-get_or heads k none (omega arith) in
    let s = c.requires.stated k h eh in
    let stated = c.index.result.now in
    let el = slice_get_read loops (length loops) h.stated stated refl
    (slice_get_within loops h.stated s.0 s.1)
    (c.index.ensures ∙ ap (λ l. get_or l h.stated stated) c.in_ok-ranged.ensures) in (
      c.in_ok-place.ensures.nodes,
      λ y r lt. placed (places_of c.args.graph.now) loops heads y k h stated
          (row c.loop-r.holders.items y) (row c.place.new.holders.items y) eh el
          (c.in_ok-place.ensures.placed y lt) (λ q. c.loop-r.invariant.1 y q lt) r,
    )

pub returns-clause-held : goal.returns-clause-held
returns-clause-held c y r lt =
    let i = c.loop-r.invariant.1 y r lt in (
      λ t. (i.0 t).1,
      λ b. i.1 (let w = slice_get_within c.args.heads.now r b.0 b.2 in omega arith, b),
    )

pub index-requires : goal.index-requires
index-requires c =
    let none : Head = record { node = 0; stated = 0; bound = 0 } in
    let h = get_or c.args.heads.now c.loop-r.r none in
    let eh = slice_get-get_or c.args.heads.now c.loop-r.r none (omega arith) in
    let s = c.requires.stated c.loop-r.r h eh in
    omega (
      arith,
      slice_get_within c.args.loops.now h.stated s.0 s.1,
      c.in_ok-ranged.ranged.ok,
      ap length c.in_ok-ranged.ensures,
    )

pub place-requires-clause-head : goal.place-requires-clause-head
place-requires-clause-head c =
    let none : Head = record { node = 0; stated = 0; bound = 0 } in
    c.requires.node c.loop-r.r (get_or c.args.heads.now c.loop-r.r none)
    (slice_get-get_or c.args.heads.now c.loop-r.r none (omega arith))
