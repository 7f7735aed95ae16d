use Rattle.std.proofs.Common.{◌≡◌, ◌≤◌, ◌+◌, sym, subst, refl, length, Some, slice_get, [], ◌∷◌}
use Rattle.flat_graph.specs.Inner.Reach.{HaveLists, AreAdded}
use Rattle.flat_graph.specs.Inner.Points.{point_node, point_nodes}
use Rattle.flat_graph.proofs.Found.{added_point, inside_inserted, count_inserted, same_point}
use Rattle.flat_graph.proofs.reach.Found.add.Goals as goal

pub returns-clause-inside : goal.returns-clause-inside
returns-clause-inside c =
    subst (HaveLists c.args.self.now.contexts.lists.items) (sym c.in_ok-found.ensures.keys)
    (inside_inserted _ (λ s t. refl) c.args.self.now.contexts.lists.items
    c.args.self.now.points.keys c.args.point c.requires.inside c.requires.list)

pub returns-clause-added : goal.returns-clause-added
returns-clause-added c =
    let lists = c.args.self.now.contexts.lists.items in
    let keys = c.args.self.now.points.keys in
    subst (λ ks. AreAdded (point_nodes lists keys) (point_node lists c.args.point ∷ [])
    (point_nodes lists ks)) (sym c.in_ok-found.ensures.keys)
    (added_point _ (λ s t. refl) lists keys c.args.point)

pub returns-clause-place : goal.returns-clause-place
returns-clause-place c =
    let s = c.in_ok-found.ensures.stored in
    subst (λ k. slice_get c.insert_full.new.self.keys c.in_ok-found.found.0 ≡ Some k)
    (sym (same_point _ (λ s t. refl) c.args.point s.0 s.2)) s.1

pub returns-clause-count : goal.returns-clause-count
returns-clause-count c =
    subst (λ ks. length ks ≤ length c.args.self.now.points.keys + 1)
    (sym c.in_ok-found.ensures.keys)
    (count_inserted _ (λ s t. refl) c.args.self.now.points.keys c.args.point)
