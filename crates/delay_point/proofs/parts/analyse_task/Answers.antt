use Rattle.std.proofs.Common.{rules}
use Rattle.delay_point.proofs.parts.analyse_task.Goals as goal

pub returns-in-Err-TooLarge-clause-exact : goal.returns-in-Err-TooLarge-clause-exact
returns-in-Err-TooLarge-clause-exact c = search rules
