use Rattle.std.proofs.Common.{ap, sym}
use Rattle.crpd_tool.specs.Check.{verdict_outcome}
use Rattle.crpd_tool.proofs.texts.verdict_outcome.Goals as goal

pub returns-in-No : goal.returns-in-No
returns-in-No c = sym (ap verdict_outcome c.in-No.is)
