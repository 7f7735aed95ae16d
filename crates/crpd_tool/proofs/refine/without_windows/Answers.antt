use Rattle.std.proofs.Common.{rules}
use Rattle.crpd_tool.proofs.refine.without_windows.Goals as goal

pub returns-in-TooLarge-clause-exact : goal.returns-in-TooLarge-clause-exact
returns-in-TooLarge-clause-exact c = search rules
