use Rattle.std.proofs.Common.{inr, refl, arith}
use Rattle.code_map.specs.Words.{word_at}
use Rattle.flat_graph.proofs.Placed.{are_ordered, more_found}
use Rattle.flat_graph.proofs.reach.reach.Goals as goal

pub follow_all-requires-clause-start : goal.follow_all-requires-clause-start
follow_all-requires-clause-start c =
    c.in_ok-found.ensures.followed (word_at c.args.code.now.images)

pub ordered-requires : goal.ordered-requires
ordered-requires c = omega (arith, c.in_ok-follow_all.ensures.few, c.requires)

pub returns-then-len-most-clause-too_many : goal.returns-then-len-most-clause-too_many
returns-then-len-most-clause-too_many c =
    let made = c.in_ok-ordered.ensures in
    inr (
      refl,
      more_found (word_at c.args.code.now.images) c.args.entry c.args.most c.follow_all.new.self
          c.in_ok-ordered.ordered made.same.0 c.in_ok-follow_all.ensures made.lists made.bodies
          made.distinct made.same.1 made.same.2 made.sorted (omega arith),
    )

pub returns-clause-reached : goal.returns-clause-reached
returns-clause-reached c =
    let made = c.in_ok-ordered.ensures in
    are_ordered (word_at c.args.code.now.images) c.args.entry c.args.most c.follow_all.new.self
    c.in_ok-ordered.ordered made.same.0 c.in_ok-follow_all.ensures made.lists made.bodies
    made.distinct made.same.1 made.same.2 made.sorted (omega arith)
