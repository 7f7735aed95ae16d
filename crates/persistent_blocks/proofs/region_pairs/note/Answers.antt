use Rattle.std.proofs.Common.{Some, sym, ap, ◌∙◌}
use Rattle.persistent_blocks.proofs.Noting.{note_first, note_same, note_other}
use Rattle.persistent_blocks.proofs.region_pairs.note.Goals as goal

pub returns-in-None : goal.returns-in-None
returns-in-None c a noted y here is H =
    note_first a noted y c.args.set c.args.block c.args.first.now c.args.mixed.now here is H
    c.hold.new.self (sym c.at.ensures ∙ c.in-None.is) c.hold.ensures

pub returns-then-is_other : goal.returns-then-is_other
returns-then-is_other c a noted y here is H =
    note_other a noted y c.args.set c.args.block c.args.first.now c.args.mixed.now here is H
    c.in-Some.held c.insert.new.self (sym c.at.ensures ∙ c.in-Some.is) c.if-is_other.true
    c.insert.ensures

pub returns-else-is_other : goal.returns-else-is_other
returns-else-is_other c a noted y here is H =
    note_same a noted y c.args.set c.args.block c.args.first.now c.args.mixed.now here is H
    (sym c.at.ensures ∙ c.in-Some.is ∙ ap Some c.if-is_other.false)
