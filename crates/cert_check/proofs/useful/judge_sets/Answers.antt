use Rattle.std.proofs.Common.{◌-◌, length, refl, arith}
use Rattle.cert_check.proofs.Judging.{useful_follows, useful_step, useful_least}
use Rattle.cert_check.proofs.useful.judge_sets.Goals as goal

pub useful_behind-behind-requires-clause-follower :
    goal.useful_behind-behind-requires-clause-follower
useful_behind-behind-requires-clause-follower c =
    useful_follows _ _ _ _ _ _ _ (length c.args.order.now - c.loop-done.done)
    (length c.args.order.now - 1 - c.loop-done.done) _ c.requires.order
    (omega (arith, c.loop-done-test.true)) refl c.loop-done.invariant

pub loop-done-preserved : goal.loop-done-preserved
loop-done-preserved c =
    useful_step _ _ _ _ _ _ _ _ _ c.sets_hold.result c.loop-done.done c.requires.order
    c.loop-done-test.true c.useful_at-useful.ensures c.sets_hold.ensures
    c.least_failing-least.ensures c.loop-done.invariant

pub returns : goal.returns
returns c =
    useful_least _ _ _ _ _ _ _ (length c.args.order.now - c.loop-done.done) c.requires.order
    (omega (arith, c.loop-done-test.false)) c.loop-done.invariant

pub useful_at-useful-requires-clause-hit : goal.useful_at-useful-requires-clause-hit
useful_at-useful-requires-clause-hit c =
    c.requires.hits _ (c.requires.order.nodes (length c.args.order.now - 1 - c.loop-done.done)
    (omega (arith, c.loop-done-test.true, c.requires.order.count)))

pub loop-done-init : goal.loop-done-init
loop-done-init c = record {
  within = omega (arith, c.requires.order.count);
  here = λ below. absurd (omega (arith, below, c.requires.order.count));
  seen = λ u s. absurd (omega (arith, s.1, s.2, c.requires.order.count));
}

pub useful_behind-behind-requires-clause-node : goal.useful_behind-behind-requires-clause-node
useful_behind-behind-requires-clause-node c =
    c.requires.order.nodes (length c.args.order.now - 1 - c.loop-done.done)
    (omega (arith, c.loop-done-test.true, c.requires.order.count))

pub useful_at-useful-requires-clause-node : goal.useful_at-useful-requires-clause-node
useful_at-useful-requires-clause-node c =
    c.requires.order.nodes (length c.args.order.now - 1 - c.loop-done.done)
    (omega (arith, c.loop-done-test.true, c.requires.order.count))

pub useful_at-useful-requires-clause-behind : goal.useful_at-useful-requires-clause-behind
useful_at-useful-requires-clause-behind c = c.useful_behind-behind.ensures

pub sets_hold-requires-clause-node : goal.sets_hold-requires-clause-node
sets_hold-requires-clause-node c =
    c.requires.order.nodes (length c.args.order.now - 1 - c.loop-done.done)
    (omega (arith, c.loop-done-test.true, c.requires.order.count))

pub sets_hold-requires-clause-useful : goal.sets_hold-requires-clause-useful
sets_hold-requires-clause-useful c = c.useful_at-useful.ensures
