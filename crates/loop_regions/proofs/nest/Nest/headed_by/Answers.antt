use Rattle.std.proofs.Common.{◌∙◌, sym}
use Rattle.flat_graph.specs.CodeGraph.{graph_of}
use Rattle.loop_regions.specs.CodeNest.{nest_of}
use Rattle.loop_regions.proofs.Beside.{nested, heads_none, heads_other}
use Rattle.loop_regions.proofs.nest.Nest.headed_by.Goals as goal

pub returns-then-is_head : goal.returns-then-is_head
returns-then-is_head c = (c.in-Some.ensures.0, sym c.if-is_head.true ∙ c.head.ensures)

pub returns-else-is_head : goal.returns-else-is_head
returns-else-is_head c =
    heads_other (nest_of c.args.self.now) (graph_of c.args.graph.now) c.args.node.0 c.in-Some.region
    c.graph_law.ensures.graph (nested c.args.graph.now c.args.self.now c.requires.nest)
    c.in-Some.ensures
    (λ e. c.if-is_head.false (c.head.ensures ∙ e))

pub returns-in-None : goal.returns-in-None
returns-in-None c =
    heads_none (nest_of c.args.self.now) (graph_of c.args.graph.now) c.args.node.0
    (nested c.args.graph.now c.args.self.now c.requires.nest) c.in-None.ensures
