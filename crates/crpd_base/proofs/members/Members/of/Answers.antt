use Rattle.std.proofs.Common.{◌≡◌, ◌-◌, ◌*◌, ◌∙◌, ap, arith}
use Rattle.crpd_base.specs.Inner.NumbersLeft.{members_from}
use Rattle.crpd_base.proofs.NumbersLeft.{all_left}
use Rattle.crpd_base.proofs.members.Members.of.Goals as goal

pub returns : goal.returns
returns g c =
    let whole : 64 * g.row.W - 0 ≡ 64 * g.row.W = omega arith in
    ap (members_from c.args.set.now 0) whole ∙ all_left c.args.set.now (64 * g.row.W)
