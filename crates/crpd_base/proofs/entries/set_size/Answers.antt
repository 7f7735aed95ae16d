use Rattle.std.proofs.Common.{ℕ, ◌≤◌, subst, sym}
use Rattle.crpd_base.proofs.Bits.{members_below-le}
use Rattle.crpd_base.specs.Entries.{set_size}
use Rattle.crpd_base.proofs.entries.set_size.Goals as goal

pub returns-clause-is : goal.returns-clause-is
unfolding set_size
returns-clause-is c = c.count.ensures

pub returns-clause-bound : goal.returns-clause-bound
returns-clause-bound c =
    subst (λ (n : ℕ). n ≤ 512) (sym c.count.ensures) (members_below-le c.args.set.now 512)
