use Rattle.std.proofs.Common.{arith, ◌≡◌, ◌/◌, ◌^◌, ap, slice_index}
use Rattle.std.proofs.lemmas.Nat.{mul-le}
use Rattle.delay_count.specs.Gamma.{count_at, part_at}
use Rattle.delay_count.proofs.Scaled.{delay_low}
use Rattle.delay_count.proofs.rates.delay_rate.Goals as goal

pub returns-clause-is : goal.returns-clause-is
returns-clause-is c = λ w.
    let low = delay_low c.args.set.now (part_at c.args.parts.now) (slice_index c.args.windows.now)
    (count_at c.rate_shares-shares.result) c.args.i c.args.j c.job_rate.result
    c.delay_by-delay.result c.args.method
    c.requires.times c.requires.i c.requires.j c.delay_by-delay.ensures.is c.job_rate.ensures.is
    c.rate_shares-shares.ensures.counts w in
    let less = mul-le c.min.result w c.delay_by-delay.result w (omega (arith, c.min.ensures))
    (omega arith) in
    let parts : 2 ^ 80 / c.from-2.result ≡ 131072 = ap (λ z. 2 ^ 80 / z) c.from-2.ensures in
    rw parts (omega (arith, low, less))
