use Rattle.std.proofs.Common.{arith, ◌+◌, ◌≡◌, min, ◌^◌}
use Rattle.std.proofs.lemmas.Nat.{mul-le}
use Rattle.delay_count.proofs.Scaled.{at_least}
use Rattle.delay_count.proofs.rates.least_rate.Goals as goal

pub returns-clause-is : goal.returns-clause-is
returns-clause-is c = λ w.
    let less = mul-le c.min.result w (c.jobs_rate-jobs.result + c.delay_rate-delay.result) w
    (omega (arith, c.min.ensures)) (omega arith) in
    omega (arith, less, c.jobs_rate-jobs.ensures.is w, c.delay_rate-delay.ensures.is w)

pub returns-clause-counts : goal.returns-clause-counts
returns-clause-counts c =
    at_least (c.jobs_rate-jobs.result) c.min.result c.delay_rate-delay.result _ _
    (let least : c.min.result
    ≡ min (c.jobs_rate-jobs.result + c.delay_rate-delay.result) (2 ^ 80) =
    omega (arith, c.min.ensures) in least) c.jobs_rate-jobs.ensures.counts
