use Rattle.walk_parts.proofs.Credits.{credit_law}
use Rattle.walk_parts.proofs.credit_law.Goals as goal

pub returns : goal.returns
returns c = credit_law
