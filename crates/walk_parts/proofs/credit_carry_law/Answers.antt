use Rattle.walk_parts.proofs.Credits.{credit_carry_law}
use Rattle.walk_parts.proofs.credit_carry_law.Goals as goal

pub returns : goal.returns
returns c = credit_carry_law
