use Rattle.std.proofs.Common.{◌≡◌, ◌<◌, ◌++◌, ◌∷◌, ap, ◌∙◌, sym, subst}
use Rattle.std.proofs.Common.{[], length, arith, Some, None}
use Rattle.std.proofs.lemmas.Option.{get_or_from_slice_get}
use Rattle.std.proofs.lemmas.Option.{MatchOption-at_some, MatchOption-at_none}
use Rattle.crpd_base.proofs.Elements.{at_contains, in_none}
use Rattle.code_map.specs.Words.{word_at}
use Rattle.rv_decode.specs.Flow.{flows}
use Rattle.flat_graph.specs.FlatGraph.{FlatNode, IsNode, error_of}
use Rattle.flat_graph.specs.Inner.GraphParts.{AreNumbers, IsNodeBody}
use Rattle.flat_graph.specs.Inner.Reach.{AreAdded, AreNodeSteps, nodes_found}
use Rattle.flat_graph.specs.Inner.Points.{point_node, point_nodes}
use Rattle.flat_graph.specs.Inner.StoredGraph.{next_nodes}
use Rattle.flat_graph.specs.declared.graph.NodeBody.{NodeBody}
use Rattle.flat_graph.specs.declared.points.ProgramPoint.{ProgramPoint}
use Rattle.flat_graph.proofs.Explored.{followed_more, node_of_point, no_steps}
use Rattle.flat_graph.proofs.Found.{added_none}
use Rattle.flat_graph.proofs.reach.Found.follow.Goals as goal

pub steps_from-requires : goal.steps_from-requires
steps_from-requires c =
    let lists = c.args.self.now.contexts.lists.items in
    let items = c.args.self.now.points.keys in
    let point = c.point_at-point.result in
    let at = node_of_point lists items c.args.place point c.point_at-point.ensures in
    subst (λ k. IsNode (flows (word_at c.args.code.now.images)) c.args.entry
    (record { context = k; address = point.address })) (sym c.calls_of-calls.ensures)
    (c.requires.before.explored.all (point_node lists point)
    (at_contains (point_nodes lists items) c.args.place (point_node lists point) at))

pub add_steps-requires-clause-few_lists : goal.add_steps-requires-clause-few_lists
add_steps-requires-clause-few_lists c = omega (arith, c.requires.before.lists)

pub add_steps-requires-clause-from : goal.add_steps-requires-clause-from
add_steps-requires-clause-from c =
    let lists = c.args.self.now.contexts.lists.items in
    let items = c.args.self.now.points.keys in
    let point = c.point_at-point.result in
    subst (λ (s : ProgramPoint). s.context < length lists)
    (get_or_from_slice_get items c.args.place point point c.point_at-point.ensures)
    (c.requires.before.inside c.args.place point c.requires.there)

pub returns-in_ok-push-in-Some-clause-followed : goal.returns-in_ok-push-in-Some-clause-followed
returns-in_ok-push-in-Some-clause-followed c =
    let words = word_at c.args.code.now.images in
    let lists = c.args.self.now.contexts.lists.items in
    let items = c.args.self.now.points.keys in
    let point = c.point_at-point.result in
    let n : FlatNode = point_node lists point in
    let at = node_of_point lists items c.args.place point c.point_at-point.ensures in
    let own : FlatNode =
    record { context = c.calls_of-calls.result.now; address = point.address } in
    let steps : AreNodeSteps words c.args.entry n c.in-Some.known =
    subst (λ k. AreNodeSteps words c.args.entry (record { context = k; address = point.address })
    c.in-Some.known) c.calls_of-calls.ensures
    (MatchOption-at_some _ (AreNodeSteps words c.args.entry own) c.in-Some.known c.in-Some.is
    c.in_ok-found.ensures) in
    let new = nodes_found c.add_steps.new.self in
    let body : NodeBody = record { ins = c.in-Some.known.ins; next = c.in_ok-next-in-Some.next } in
    let known : IsNodeBody words c.args.entry new n body = record {
      no_error = steps.no_error;
      stands = steps.stands;
      next = subst (λ l. AreNumbers new (next_nodes body.next) l) steps.leads
          c.in_ok-next-in-Some.ensures.numbers;
    } in
    followed_more words c.args.entry c.args.place c.args.self.now _ n (Some body)
    c.requires.before at
    c.in_ok-next-in-Some.ensures.numbered c.in_ok-next-in-Some.ensures.inside
    (subst (λ l. AreAdded (point_nodes lists items) l new) steps.leads
    c.in_ok-next-in-Some.ensures.added)
    c.in_ok-next-in-Some.ensures.lists
    (c.in_ok-push-in-Some.ensures.items
    ∙ ap (λ b. b.items ++ Some body ∷ []) c.in_ok-next-in-Some.ensures.bodies)
    known

pub returns-in_ok-push-in-None-clause-followed : goal.returns-in_ok-push-in-None-clause-followed
returns-in_ok-push-in-None-clause-followed c =
    let words = word_at c.args.code.now.images in
    let lists = c.args.self.now.contexts.lists.items in
    let items = c.args.self.now.points.keys in
    let point = c.point_at-point.result in
    let n : FlatNode = point_node lists point in
    let nodes = point_nodes lists items in
    let at = node_of_point lists items c.args.place point c.point_at-point.ensures in
    let own : FlatNode =
    record { context = c.calls_of-calls.result.now; address = point.address } in
    let error =
    subst (λ k. error_of (flows words) c.args.entry
    (record { context = k; address = point.address })
    ≡ None → ⊥) c.calls_of-calls.ensures
    (MatchOption-at_none _ (AreNodeSteps words c.args.entry own) c.in-None.is
    c.in_ok-found.ensures) in
    followed_more words c.args.entry c.args.place c.args.self.now _ n None c.requires.before at
    c.requires.before.numbered c.requires.before.inside
    (subst (λ l. AreAdded nodes l nodes) (sym (no_steps (flows words) c.args.entry n error))
    (added_none nodes [] (λ m d. absurd (in_none m d))))
    (omega arith) c.in_ok-push-in-None.ensures.items error
