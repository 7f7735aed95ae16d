use Rattle.std.proofs.Common.{rules}
use Rattle.crpd_tool.proofs.texts.certificate_answer.Goals as goal

pub returns-clause-exact : goal.returns-clause-exact
returns-clause-exact c = search rules
