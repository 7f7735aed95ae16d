use Rattle.std.proofs.Common.{arith}
use Rattle.std.proofs.lemmas.List.{get_or-replicate, get_or_past, length-replicate}
use Rattle.icache.proofs.Cache.empty.Goals as goal

pub returns-clause-none : goal.returns-clause-none
returns-clause-none g c = grind (arith, get_or-replicate, get_or_past, length-replicate)
