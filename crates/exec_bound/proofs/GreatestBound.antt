-- The largest bound is 2^40.
use Rattle.std.proofs.Common.{◌≡◌, refl}
use Rattle.exec_bound.specs.Costs.{greatest_bound}

pub greatest_is : greatest_bound ≡ 1099511627776
unfolding greatest_bound
greatest_is = refl
