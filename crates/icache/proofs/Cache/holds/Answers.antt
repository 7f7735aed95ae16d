use Rattle.std.proofs.Common.{rules}
use Rattle.icache.proofs.Cache.holds.Goals as goal

pub returns : goal.returns
returns g c = search rules
