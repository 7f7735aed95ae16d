use Rattle.sensitivity.proofs.SomeSlack.{slacks_exist}
use Rattle.sensitivity.proofs.laws.slacks_exist.Goals as goal

pub returns : goal.returns
returns c = slacks_exist
