use Rattle.std.proofs.Common.{arith, lit<, lit≤, ◌≡◌, ◌+◌, take, ap}
use Rattle.std.proofs.lemmas.List.{get_or_read}
use Rattle.crpd_base.specs.declared.data.Part.{Part}
use Rattle.delay_count.specs.Gamma.{part_at}
use Rattle.delay_count.proofs.Delays.{lower_in_range, is_ucb, is_ecb, ucb_fits, ecb_fits}
use Rattle.delay_count.proofs.window_demand.delay_by.Goals as goal

pub gamma_ucb-requires : goal.gamma_ucb-requires
gamma_ucb-requires c = (
  lit< tt,
  (
    lit< tt,
    (
      lit≤ tt,
      lower_in_range (part_at c.args.parts.now) c.args.i c.args.j
          c.args.shares.now c.requires.size c.requires.i c.requires.useful c.requires.counts,
    ),
  ),
)

pub gamma_ecb-requires : goal.gamma_ecb-requires
gamma_ecb-requires c = (
  lit< tt,
  (
    lit< tt,
    (
      lit≤ tt,
      lower_in_range (part_at c.args.parts.now) c.args.i c.args.j
          c.args.shares.now c.requires.size c.requires.i c.requires.useful c.requires.counts,
    ),
  ),
)

pub returns-in-Ucb-clause-is : goal.returns-in-Ucb-clause-is
returns-in-Ucb-clause-is c =
    let part : c.index-parts-j.result ≡ part_at c.args.parts.now c.args.j =
    get_or_read c.args.parts.now c.args.j c.index-parts-j.result
    (omega arith) c.index-parts-j.is _ in
    rw c.in-Ucb.is
    (is_ucb (part_at c.args.parts.now) c.args.i c.args.j c.args.shares.now c.requires.size
    c.requires.i c.requires.useful
    c.args.miss c.args.jobs c.index-parts-j.result.evicting _ (ap (λ (p : Part). p.evicting) part)
    c.gamma_ucb.ensures)

pub returns-in-Ucb-clause-most : goal.returns-in-Ucb-clause-most
returns-in-Ucb-clause-most c =
    ucb_fits c.args.miss c.args.jobs _ c.index-parts-j.result.evicting
    (take (c.args.i + 1) c.args.shares.now) (omega (arith, c.ranges.miss.fits))
    (omega (arith, c.ranges.jobs.fits)) c.gamma_ucb.ensures

pub returns-in-Ecb-clause-is : goal.returns-in-Ecb-clause-is
returns-in-Ecb-clause-is c =
    rw c.in-Ecb.is
    (is_ecb (part_at c.args.parts.now) c.args.i c.args.j c.args.shares.now c.requires.size
    c.requires.i c.requires.useful
    c.args.miss c.args.jobs c.evicted_up.result _ c.evicted_up.ensures c.gamma_ecb.ensures)

pub returns-in-Ecb-clause-most : goal.returns-in-Ecb-clause-most
returns-in-Ecb-clause-most c =
    ecb_fits c.args.miss c.args.jobs _ c.evicted_up.result (take (c.args.i + 1) c.args.shares.now)
    (omega (arith, c.ranges.miss.fits)) (omega (arith, c.ranges.jobs.fits)) c.gamma_ecb.ensures
