use Rattle.std.proofs.Common.{arith, ◌*◌, ◌∙◌}
use Rattle.crpd_base.specs.Sets.{has}
use Rattle.delay_count.proofs.Bits.{shared_members, shared_most}
use Rattle.delay_count.proofs.choice.shared.Goals as goal

pub returns-clause-is : goal.returns-clause-is
returns-clause-is g c =
    c.count.ensures ∙ shared_members c.meet.new.self c.args.useful.now c.args.evicted.now
    (64 * g.row.W) c.meet.ensures

pub returns-clause-most : goal.returns-clause-most
returns-clause-most g c =
    let is = shared_members c.meet.new.self c.args.useful.now c.args.evicted.now
    (64 * g.row.W) c.meet.ensures in
    omega (
      arith,
      c.count.ensures,
      is,
      shared_most (has c.args.useful.now) (has c.args.evicted.now) (64 * g.row.W),
    )
