use Rattle.std.proofs.Common.{◌∙◌, sym, subst, [], ◌∷◌, slice_index_or}
use Rattle.flat_graph.specs.Inner.GraphParts.{AreNumbers}
use Rattle.flat_graph.specs.Inner.Reach.{AreAdded}
use Rattle.flat_graph.specs.Inner.Points.{point_node, point_nodes, flat_steps}
use Rattle.flat_graph.specs.declared.contexts.Contexts.{Contexts}
use Rattle.flat_graph.specs.declared.points.ProgramPoint.{ProgramPoint}
use Rattle.flat_graph.specs.declared.points.Steps.{Steps}
use Rattle.flat_graph.proofs.Explored.{node_of_point}
use Rattle.flat_graph.proofs.Found.{added_then, two_numbers, stays}
use Rattle.flat_graph.proofs.reach.Found.add_steps.Goals as goal

pub returns-in_ok-second-in-Either-clause-added : goal.returns-in_ok-second-in-Either-clause-added
returns-in_ok-second-in-Either-clause-added c =
    let lists = c.args.self.now.contexts.lists.items in
    let old = c.args.self.now.points.keys in
    let mid = c.add-in-Either.new.self.points.keys in
    let new = c.add-in-Either-2.new.self.points.keys in
    let calls = slice_index_or lists c.args.from [] in
    let s : ProgramPoint = record { context = c.args.from; address = c.in-Either.address } in
    let t : ProgramPoint = record { context = c.args.from; address = c.in-Either.other } in
    subst (λ (w : Steps). AreAdded (point_nodes lists old) (flat_steps calls w)
    (point_nodes c.add-in-Either-2.new.self.contexts.lists.items new)) (sym c.in-Either.is)
    (subst (λ (x : Contexts).
    AreAdded (point_nodes lists old) (point_node lists s ∷ point_node lists t ∷ [])
    (point_nodes x.lists.items new))
    (sym (c.in_ok-second-in-Either.ensures.contexts ∙ c.in_ok-first-in-Either.ensures.contexts))
    (added_then (point_nodes lists old) (point_nodes lists mid) (point_nodes lists new)
    (point_node lists s) (point_node lists t) c.in_ok-first-in-Either.ensures.added
    (subst (λ (x : Contexts).
    AreAdded (point_nodes x.lists.items mid) (point_node x.lists.items t ∷ [])
    (point_nodes x.lists.items new)) c.in_ok-first-in-Either.ensures.contexts
    c.in_ok-second-in-Either.ensures.added)))

pub returns-in_ok-second-in-Either-clause-numbers : goal.returns-in_ok-second-in-Either-clause-numbers
returns-in_ok-second-in-Either-clause-numbers c =
    let lists = c.args.self.now.contexts.lists.items in
    let mid = c.add-in-Either.new.self.points.keys in
    let new = c.add-in-Either-2.new.self.points.keys in
    let calls = slice_index_or lists c.args.from [] in
    let s : ProgramPoint = record { context = c.args.from; address = c.in-Either.address } in
    let t : ProgramPoint = record { context = c.args.from; address = c.in-Either.other } in
    let v = c.in_ok-first-in-Either.first in
    let w = c.in_ok-second-in-Either.second in
    subst (λ (x : Steps).
    AreNumbers (point_nodes c.add-in-Either-2.new.self.contexts.lists.items new) (v ∷ w ∷ [])
    (flat_steps calls x)) (sym c.in-Either.is)
    (subst (λ (x : Contexts). AreNumbers (point_nodes x.lists.items new) (v ∷ w ∷ [])
    (point_node lists s ∷ point_node lists t ∷ []))
    (sym (c.in_ok-second-in-Either.ensures.contexts ∙ c.in_ok-first-in-Either.ensures.contexts))
    (two_numbers (point_nodes lists new) v w (point_node lists s) (point_node lists t)
    (stays (point_nodes lists mid) (point_node lists t ∷ []) (point_nodes lists new)
    (subst (λ (x : Contexts).
    AreAdded (point_nodes x.lists.items mid) (point_node x.lists.items t ∷ [])
    (point_nodes x.lists.items new)) c.in_ok-first-in-Either.ensures.contexts
    c.in_ok-second-in-Either.ensures.added)
    v (point_node lists s) (node_of_point lists mid v s c.in_ok-first-in-Either.ensures.place))
    (node_of_point lists new w t c.in_ok-second-in-Either.ensures.place)))
