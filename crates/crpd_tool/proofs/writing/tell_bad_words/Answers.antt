use Rattle.std.proofs.Common.{rules}
use Rattle.crpd_tool.proofs.writing.tell_bad_words.Goals as goal

pub returns-clause-finished : goal.returns-clause-finished
returns-clause-finished g c = search rules

pub returns-clause-grows : goal.returns-clause-grows
returns-clause-grows g c = c.finish.ensures.grows
