use Rattle.std.proofs.Common.{ap, subst, refl, length, arith}
use Rattle.flat_graph.specs.Inner.Reach.{ArePlaced}
use Rattle.flat_graph.proofs.Found.{distinct_points}
use Rattle.flat_graph.proofs.reach.Found.ordered.Goals as goal

pub placed-requires : goal.placed-requires
placed-requires c = omega (arith, ap length c.as_slice.ensures.keys, c.requires)

pub returns-clause-distinct : goal.returns-clause-distinct
returns-clause-distinct c =
    distinct_points _ (λ s t. refl) c.args.self.points.keys c.as_slice.ensures.unique

pub returns-clause-same : goal.returns-clause-same
returns-clause-same c = (
  c.in_ok-points.points.items,
  subst (λ l. ArePlaced l c.in_ok-points.points.items) c.as_slice.ensures.keys
      c.in_ok-points.ensures,
  c.sort.ensures.same,
)
