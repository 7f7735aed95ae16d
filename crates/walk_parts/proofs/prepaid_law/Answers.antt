use Rattle.walk_parts.proofs.Credits.{prepaid_law}
use Rattle.walk_parts.proofs.prepaid_law.Goals as goal

pub returns : goal.returns
returns c = prepaid_law
