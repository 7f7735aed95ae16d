use Rattle.std.proofs.Common.{◌∙◌, ap, subst, arith, lit<}
use Rattle.icache.specs.Accesses.{accesses}
use Rattle.flat_graph.specs.CodeGraph.{graph_of, places_of}
use Rattle.must_cache.specs.Events.{events}
use Rattle.must_cache.specs.Inner.FirstWalks.{HasWalkSearch, held_in}
use Rattle.must_cache.proofs.WalkSteps.{all_done, pushed_held, held_length}
use Rattle.must_cache.proofs.first_walks.FirstWalks.walk_rest.Goals as goal

pub walk_on-requires : goal.walk_on-requires
walk_on-requires g c =
    let w = c.loop-next.self in
    let under_way = subst
    (HasWalkSearch (graph_of c.args.graph.now)
    (events (accesses c.args.geometry.now.platform (places_of c.args.graph.now).address)
    (g.B.Brings.brings c.args.brings.now) (g.B.Brings.at_start c.args.brings.now)) w.met.items
    w.states.items w.hits.items w.apart.items)
    (ap held_in c.in-Some.ensures.items ∙ pushed_held _ _ _) c.loop-next.invariant in (
      lit< tt,
      (
        omega (arith, c.requires.words),
        (
          c.requires.room,
          (
            c.requires.few,
            (c.requires.words, (c.requires.room_for_sets, (c.requires.own, under_way))),
          ),
        ),
      ),
    )

pub returns : goal.returns
returns g c =
    all_done _ _ c.loop-next.self.met.items c.loop-next.self.states.items _ _
    (held_in c.loop-next.self.todo.items)
    (omega (arith, held_length c.loop-next.self.todo.items, c.in_default.ensures.cases.0))
    c.loop-next.invariant
