use Rattle.std.proofs.Common.{◌≡◌, ◌∙◌, ap, sym, subst, [], ◌∷◌, Some, slice_get}
use Rattle.std.proofs.lemmas.Option.{slice_get_within}
use Rattle.flat_graph.specs.Inner.Reach.{AreNumbered, AreAdded}
use Rattle.flat_graph.specs.Inner.Points.{point_node, point_nodes}
use Rattle.flat_graph.specs.declared.contexts.Contexts.{Contexts}
use Rattle.flat_graph.specs.declared.points.ProgramPoint.{ProgramPoint}
use Rattle.flat_graph.proofs.Explored.{node_of_point}
use Rattle.flat_graph.proofs.Listed.{flats_more, flat_listed, inside_more}
use Rattle.flat_graph.proofs.reach.Found.add_away.Goals as goal

pub add-requires-clause-inside : goal.add-requires-clause-inside
add-requires-clause-inside c =
    inside_more _ _ c.in_ok-context.ensures.more _ c.requires.inside

pub add-requires-clause-list : goal.add-requires-clause-list
add-requires-clause-list c =
    slice_get_within _ c.in_ok-context.context c.args.calls c.in_ok-context.ensures.number

pub returns-clause-numbered : goal.returns-clause-numbered
returns-clause-numbered c =
    subst (λ (x : Contexts). AreNumbered x.numbers x.lists.items)
    (sym c.in_ok-place.ensures.contexts)
    c.in_ok-context.ensures.numbered

pub returns-clause-added : goal.returns-clause-added
returns-clause-added c =
    let old = c.args.self.now.contexts.lists.items in
    let new = c.number.new.self.lists.items in
    let list = c.args.self.now.points.keys in
    subst (λ (x : Contexts).
    AreAdded (point_nodes old list)
    (record { context = c.args.calls; address = c.args.address } ∷ [])
    (point_nodes x.lists.items c.add.new.self.points.keys)) (sym c.in_ok-place.ensures.contexts)
    (subst (λ n. AreAdded (point_nodes old list) (n ∷ [])
    (point_nodes new c.add.new.self.points.keys))
    (flat_listed new c.in_ok-context.context c.args.address c.args.calls
    c.in_ok-context.ensures.number)
    (subst (λ l.
    AreAdded l
    (point_node new (record { context = c.in_ok-context.context; address = c.args.address }) ∷ [])
    (point_nodes new c.add.new.self.points.keys))
    (flats_more old new c.in_ok-context.ensures.more list c.requires.inside)
    c.in_ok-place.ensures.added))

pub returns-clause-place : goal.returns-clause-place
returns-clause-place c =
    let new = c.number.new.self.lists.items in
    let point : ProgramPoint =
    record { context = c.in_ok-context.context; address = c.args.address } in
    subst (λ (x : Contexts).
    slice_get (point_nodes x.lists.items c.add.new.self.points.keys) c.in_ok-place.place
    ≡ Some (record { context = c.args.calls; address = c.args.address }))
    (sym c.in_ok-place.ensures.contexts)
    (node_of_point new c.add.new.self.points.keys c.in_ok-place.place point
    c.in_ok-place.ensures.place
    ∙ ap Some (flat_listed new c.in_ok-context.context c.args.address c.args.calls
    c.in_ok-context.ensures.number))
