use Rattle.std.proofs.Common.{arith}
use Rattle.std.proofs.lemmas.Grind.{common_steps}
use Rattle.script_reader.proofs.legality.are_in_time.Goals as goal

pub returns-then-job : goal.returns-then-job
returns-then-job c = grind (arith, common_steps)
