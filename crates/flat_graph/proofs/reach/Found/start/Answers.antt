use Rattle.std.proofs.Common.{◌≡◌, ◌∙◌, ap, subst, [], ◌∷◌, length, arith}
use Rattle.rv_decode.specs.Flow.{flows}
use Rattle.flat_graph.specs.Inner.Reach.{AreAdded, nodes_found}
use Rattle.flat_graph.specs.Inner.Points.{point_nodes}
use Rattle.flat_graph.proofs.Explored.{explored_first, no_bodies}
use Rattle.flat_graph.proofs.reach.Found.start.Goals as goal

pub returns-clause-followed : goal.returns-clause-followed
returns-clause-followed c words =
    let nodes = nodes_found c.add_away.new.self in
    let none : c.add_away.new.self.bodies.items ≡ [] =
    ap (λ b. b.items) c.in_ok-add_away.ensures.bodies ∙ c.new-found.ensures.no_bodies in
    record {
      numbered = c.in_ok-add_away.ensures.numbered;
      inside = c.in_ok-add_away.ensures.inside;
      explored = explored_first (flows words) c.args.entry nodes
          (subst (λ l. AreAdded (point_nodes c.new-found.result.contexts.lists.items l)
          (record { context = []; address = c.args.entry } ∷ []) nodes) c.new-found.ensures.none
          (subst (λ k.
          AreAdded
          (point_nodes c.new-found.result.contexts.lists.items c.new-found.result.points.keys)
          (record { context = k; address = c.args.entry } ∷ []) nodes) c.new-calls.ensures.items
          c.in_ok-add_away.ensures.added));
      lists = omega (arith, c.in_ok-add_away.ensures.lists, ap length c.new-found.ensures.no_lists);
      bodies = no_bodies words c.args.entry nodes c.add_away.new.self.bodies.items none;
      count = ap length none;
    }

pub returns-clause-few : goal.returns-clause-few
returns-clause-few c =
    omega (arith, c.in_ok-add_away.ensures.count, ap length c.new-found.ensures.none)
