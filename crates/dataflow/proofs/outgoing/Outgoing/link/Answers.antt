use Rattle.std.proofs.Common.{◌≡◌, ap, sym, subst, arith}
use Rattle.dataflow.proofs.Chain.{chain_step}
use Rattle.dataflow.specs.Inner.Search.{IsChained}
use Rattle.dataflow.proofs.outgoing.Outgoing.link.Goals as goal

pub loop-k-preserved : goal.loop-k-preserved
loop-k-preserved g c =
    chain_step _ _ _ _ _ _ _ _ c.loop-k.invariant (ap (λ e. e.0) (sym c.edge-source.ensures.ends))
    c.edge-source.ensures.source c.index.ensures c.in_ok-push.ensures.items

pub returns : goal.returns
returns g c =
    subst (λ k. IsChained (g.G.Flow.node_count c.args.flow.now) k (g.G.Flow.ends c.args.flow.now)
    c.loop-k.self.last.items c.loop-k.self.before.items)
    (let e : c.loop-k.k ≡ g.G.Flow.edge_count c.args.flow.now = omega arith in e) c.loop-k.invariant
