use Rattle.walk_parts.proofs.Priced.{potentials_cover_prices}
use Rattle.walk_parts.proofs.potentials_cover_prices.Goals as goal

pub returns : goal.returns
returns c = potentials_cover_prices
