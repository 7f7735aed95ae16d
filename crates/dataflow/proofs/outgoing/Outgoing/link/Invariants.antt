-- The edges so far are chained.
use Rattle.dataflow.specs.Inner.Search.{IsChained}
use Rattle.dataflow.proofs.outgoing.Outgoing.link.Given as goal

abbrev pub invariant-loop-k : goal.invariant-loop-k
invariant-loop-k g l =
    IsChained (g.G.Flow.node_count l.flow) l.k (g.G.Flow.ends l.flow) l.self.last.items
    l.self.before.items
