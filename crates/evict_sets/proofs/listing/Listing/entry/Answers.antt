use Rattle.std.proofs.Common.{arith}
use Rattle.std.proofs.lemmas.Grind.{elements}
use Rattle.evict_sets.proofs.listing.Listing.entry.Goals as goal

pub returns : goal.returns
returns c = grind (arith, elements)
