use Rattle.std.proofs.Common.{arith, rules, refl}
use Rattle.delay_count.proofs.window_demand.charged_delays.Goals as goal

pub loop-higher-init : goal.loop-higher-init
loop-higher-init c = record { is = refl; most = omega arith }

pub returns : goal.returns
returns c = search rules
