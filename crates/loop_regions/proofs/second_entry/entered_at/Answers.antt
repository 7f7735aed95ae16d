use Rattle.std.proofs.Common.{◌∙◌, sym}
use Rattle.loop_regions.proofs.SecondEntries.{entered_here, not_entered}
use Rattle.loop_regions.specs.Inner.Heads.{nodes_of, bounds_of}
use Rattle.loop_regions.proofs.second_entry.entered_at.Goals as goal

pub returns-then-enters : goal.returns-then-enters
returns-then-enters c =
    entered_here (nodes_of c.args.regions.now.heads) (bounds_of c.args.regions.now.heads) c.args.regions.now.holders
    c.args.regions.now.sound c.args.u c.args.v (sym c.enters.ensures ∙ c.if-enters.true)

pub returns-else-enters : goal.returns-else-enters
returns-else-enters c =
    not_entered (nodes_of c.args.regions.now.heads) (bounds_of c.args.regions.now.heads) c.args.regions.now.holders
    c.args.regions.now.sound c.args.u c.args.v (sym c.enters.ensures ∙ c.if-enters.false)
