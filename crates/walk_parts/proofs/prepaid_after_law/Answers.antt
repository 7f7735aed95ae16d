use Rattle.walk_parts.proofs.Credits.{prepaid_after_law}
use Rattle.walk_parts.proofs.prepaid_after_law.Goals as goal

pub returns : goal.returns
returns c = prepaid_after_law
