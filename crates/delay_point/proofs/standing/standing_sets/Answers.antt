use Rattle.std.proofs.Common.{◌==◌, ◌∙◌, ap, arith, length}
use Rattle.crpd_base.specs.Sets.{has}
use Rattle.useful_sets.specs.Sets.{sets_at}
use Rattle.delay_count.specs.Gamma.{part_at}
use Rattle.delay_point.proofs.Stands.{stands_first, known_in, fewer, enough, stands_more}
use Rattle.delay_point.proofs.standing.standing_sets.Goals as goal

pub loop-j-init : goal.loop-j-init
loop-j-init c =
    stands_first (part_at c.args.higher.now) (λ y. has (sets_at c.args.useful.now y))
    (length c.args.useful.now) (has c.new-known.result) (has c.new-standing.result)
    (λ s. ap (λ z. z == 1) (c.new-known.ensures s))
    (λ s. ap (λ z. z == 1) (c.new-standing.ensures s))

pub with_further-standing-requires-clause-standing : goal.with_further-standing-requires-clause-standing
with_further-standing-requires-clause-standing c = c.loop-j.invariant.inside

pub with_further-standing-requires-clause-known : goal.with_further-standing-requires-clause-known
with_further-standing-requires-clause-known c =
    known_in (part_at c.args.higher.now) (λ y. has (sets_at c.args.useful.now y))
    (length c.args.useful.now) c.loop-j.j (has c.loop-j.known) (has c.loop-j.standing)
    (has c.evicted_up-evicted.result) c.evicted_up-evicted.ensures c.loop-j.invariant

pub with_further-standing-requires-clause-fewer : goal.with_further-standing-requires-clause-fewer
with_further-standing-requires-clause-fewer c =
    let few = fewer (part_at c.args.higher.now) (λ y. has (sets_at c.args.useful.now y))
    (length c.args.useful.now) c.loop-j.j (has c.loop-j.known) (has c.loop-j.standing)
    (has c.evicted_up-evicted.result) c.evicted_up-evicted.ensures c.loop-j.invariant in
    omega (arith, few, c.most_at_node-most.ensures)

pub with_further-standing-requires-clause-enough : goal.with_further-standing-requires-clause-enough
with_further-standing-requires-clause-enough c =
    let much = enough (part_at c.args.higher.now) (λ y. has (sets_at c.args.useful.now y))
    (length c.args.useful.now) c.loop-j.j (has c.loop-j.known) (has c.loop-j.standing)
    (has c.evicted_up-evicted.result) c.evicted_up-evicted.ensures c.loop-j.invariant in
    omega (arith, much, c.most_at_node-most.ensures)

pub loop-j-preserved : goal.loop-j-preserved
loop-j-preserved c =
    stands_more (part_at c.args.higher.now) (λ y. has (sets_at c.args.useful.now y))
    (length c.args.useful.now) c.loop-j.j (has c.loop-j.known) (has c.loop-j.standing)
    (has c.evicted_up-evicted.result) c.evicted_up-evicted.ensures c.loop-j.invariant
    (has c.with_further-standing.result) c.with_further-standing.ensures.evicted c.with_further-standing.ensures.kept
    (c.with_further-standing.ensures.most ∙ c.most_at_node-most.ensures)
