use Rattle.std.proofs.Common.{arith, subst, sym}
use Rattle.dataflow.specs.Inner.Search.{IsVisitOrder}
use Rattle.dataflow.proofs.Depth.{none_found, backwards}
use Rattle.dataflow.proofs.order.depth_order.Goals as goal

pub run_all-requires : goal.run_all-requires
run_all-requires g c =
    let a = c.in_ok-search.search.seen.ok in
    let b = c.args.outgoing.now.last.ok in
    record {
      edges = c.requires;
      search =
          none_found _ _ (g.G.Flow.ends c.args.flow.now) _ _ _ _ _ _ c.requires
          c.in_ok-search.ensures.edges
          (omega (arith, c.in_ok-search.ensures.seen)) c.in_ok-search.ensures.none
          c.in_ok-search.ensures.path c.in_ok-search.ensures.left;
      path = c.in_ok-search.ensures.path;
    }

pub returns : goal.returns
returns g c =
    subst (λ xs. IsVisitOrder (g.G.Flow.node_count c.args.flow.now) xs)
    (sym c.reverse.ensures.items) (backwards _ _ c.in_ok-run_all.ensures)
