use Rattle.delay_count.proofs.Growth.{delay_grows, demand_grows}
use Rattle.delay_count.proofs.laws.growth_law.Goals as goal

pub returns : goal.returns
returns c = record { delay = delay_grows; demand = demand_grows }
