use Rattle.std.proofs.Common.{None, sym, subst}
use Rattle.loop_regions.specs.Inner.FoundRegions.{nest_in, AreInLine, IsInnermost}
use Rattle.loop_regions.specs.Levels.{IsLevel}
use Rattle.loop_regions.specs.Inner.Heads.{nodes_of, bounds_of}
use Rattle.loop_regions.proofs.Lines.{at_node, level_of, answer_more}
use Rattle.loop_regions.proofs.nested.levels.Goals as goal

pub innermost-requires : goal.innermost-requires
innermost-requires c =
    subst (λ xs. AreInLine c.args.around.now xs) (sym c.holders.ensures)
    (at_node (nodes_of c.args.regions.now.heads) (bounds_of c.args.regions.now.heads) c.args.regions.now.holders
    c.args.around.now c.args.regions.now.sound c.requires.around c.requires.nested c.loop-y.y)

pub loop-y-preserved : goal.loop-y-preserved
loop-y-preserved c =
    answer_more (IsLevel (nest_in c.args.regions.now)) c.loop-y.levels.items c.push.new.self.items
    c.innermost.result c.loop-y.y c.in_ok-push.ensures.items c.loop-y.invariant.0
    (level_of (nodes_of c.args.regions.now.heads) (bounds_of c.args.regions.now.heads) c.args.regions.now.holders
    c.args.around.now c.args.regions.now.sound c.requires.around c.loop-y.y c.innermost.result
    (subst (λ xs. IsInnermost c.args.around.now xs None c.innermost.result) c.holders.ensures
    c.innermost.ensures))
    c.loop-y.invariant.1
