use Rattle.std.proofs.Common.{◌≡◌, ◌-◌, ◌*◌, ◌∙◌, sym, ap, length, arith}
use Rattle.crpd_base.specs.Inner.NumbersLeft.{members_from}
use Rattle.crpd_base.proofs.NumbersLeft.{none_left, first_left}
use Rattle.crpd_base.proofs.members.MembersIterator.next.Goals as goal

pub returns-in_default-clause-steps : goal.returns-in_default-clause-steps
returns-in_default-clause-steps g c =
    let none : 64 * g.row.W - 64 * g.row.W ≡ 0 = omega arith in (
      sym c.self.view_is
          ∙ none_left c.self.inside.set.now c.self.inside.from (64 * g.row.W) c.in_default.ensures,
      ap (members_from c.self.inside.set.now (64 * g.row.W)) none,
    )

pub returns-clause-steps : goal.returns-clause-steps
returns-clause-steps g c =
    sym c.self.view_is
    ∙ first_left c.self.inside.set.now c.self.inside.from (64 * g.row.W) c.in-Some.number
    c.in-Some.ensures

pub returns-clause-goes : goal.returns-clause-goes
returns-clause-goes g c =
    let step = sym c.self.view_is
    ∙ first_left c.self.inside.set.now c.self.inside.from (64 * g.row.W) c.in-Some.number
    c.in-Some.ensures in
    record {
      on = λ finite. (tt, tt, omega (arith, ap length step));
      keeps = tt;
      rests = λ finite. tt;
    }
