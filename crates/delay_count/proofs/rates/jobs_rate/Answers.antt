use Rattle.std.proofs.Common.{arith, ◌≡◌, ◌⊎◌, ◌+◌, ◌*◌, ◌/◌, ◌^◌, ◌<◌, ap, min, subst}
use Rattle.std.proofs.lemmas.Nat.{mul-le}
use Rattle.std.proofs.lemmas.List.{get_or_read}
use Rattle.crpd_base.specs.declared.data.Part.{Part}
use Rattle.crpd_base.specs.Tasks.{period_of}
use Rattle.delay_count.specs.Counts.{jobs_of}
use Rattle.delay_count.specs.Gamma.{part_at}
use Rattle.delay_count.proofs.Scaled.{released, counted}
use Rattle.delay_count.proofs.rates.jobs_rate.Goals as goal

pub returns-clause-is : goal.returns-clause-is
returns-clause-is c = λ w.
    let part : c.index-parts-j.result ≡ part_at c.args.parts.now c.args.j =
    get_or_read c.args.parts.now c.args.j c.index-parts-j.result
    (omega arith) c.index-parts-j.is _ in
    let bound : c.index-parts-j.result.bound ≡ (part_at c.args.parts.now c.args.j).bound =
    ap (λ (p : Part). p.bound) part in
    let period : c.from-period.result ≡ period_of c.args.set.now c.args.j =
    omega (arith, c.from-period.ensures, c.period.ensures.is) in
    let low = released c.args.set.now c.args.j c.min.result (2 ^ 80)
    (c.min.result * 2 ^ 80 / c.from-period.result) w
    (c.requires.times.period c.args.j c.requires.task)
    (ap (λ z. c.min.result * 2 ^ 80 / z) period) in
    let each = mul-le (jobs_of c.args.set.now c.args.j w) c.min.result
    (jobs_of c.args.set.now c.args.j w)
    ((part_at c.args.parts.now c.args.j).bound
    + (c.args.set.now.platform.switch + c.args.set.now.platform.switch))
    (omega arith) (omega (arith, c.min.ensures, c.from.ensures, c.from-switch.ensures, bound)) in
    omega (arith, low, each)

pub returns-clause-counts : goal.returns-clause-counts
returns-clause-counts c =
    let part : c.index-parts-j.result ≡ part_at c.args.parts.now c.args.j =
    get_or_read c.args.parts.now c.args.j c.index-parts-j.result
    (omega arith) c.index-parts-j.is _ in
    let bound : c.index-parts-j.result.bound ≡ (part_at c.args.parts.now c.args.j).bound =
    ap (λ (p : Part). p.bound) part in
    let period : c.from-period.result ≡ period_of c.args.set.now c.args.j =
    omega (arith, c.from-period.ensures, c.period.ensures.is) in
    let least : c.min.result ≡ min ((part_at c.args.parts.now c.args.j).bound
    + (c.args.set.now.platform.switch + c.args.set.now.platform.switch)) c.from-period.result =
    omega (arith, c.min.ensures, c.from.ensures, c.from-switch.ensures, bound) in
    subst (λ p. (c.min.result * 2 ^ 80 / c.from-period.result ≡ 2 ^ 80)
    ⊎ (((part_at c.args.parts.now c.args.j).bound
    + (c.args.set.now.platform.switch + c.args.set.now.platform.switch)) * 2 ^ 80
    < (c.min.result * 2 ^ 80 / c.from-period.result + 1) * p)) period
    (counted ((part_at c.args.parts.now c.args.j).bound
    + (c.args.set.now.platform.switch + c.args.set.now.platform.switch)) c.from-period.result
    c.min.result (omega (arith, c.from-period.ensures, c.period.ensures.some)) least)
