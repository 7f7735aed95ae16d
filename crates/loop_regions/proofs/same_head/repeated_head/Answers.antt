use Rattle.std.proofs.Common.{◌∙◌, sym, get_or}
use Rattle.std.proofs.lemmas.Option.{slice_get-get_or}
use Rattle.loop_regions.proofs.SameHeads.{repeated_here, repeated_not}
use Rattle.loop_regions.proofs.same_head.repeated_head.Goals as goal

pub returns-then-is_some : goal.returns-then-is_some
returns-then-is_some c =
    let m = get_or c.args.loops.now c.args.j c.index-loops-j.result in
    repeated_here c.args.loops.now c.args.j m c.loop_at.result
    (slice_get-get_or c.args.loops.now c.args.j c.index-loops-j.result c.requires)
    c.loop_at.ensures (sym c.is_some.ensures ∙ c.if-is_some.true)

pub returns-else-is_some : goal.returns-else-is_some
returns-else-is_some c =
    let m = get_or c.args.loops.now c.args.j c.index-loops-j.result in
    repeated_not c.args.loops.now c.args.j m c.loop_at.result
    (slice_get-get_or c.args.loops.now c.args.j c.index-loops-j.result c.requires)
    c.loop_at.ensures (sym c.is_some.ensures ∙ c.if-is_some.false)
