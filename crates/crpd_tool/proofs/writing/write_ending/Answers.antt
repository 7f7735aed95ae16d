use Rattle.crpd_tool.proofs.Finish.{told_answer}
use Rattle.crpd_tool.proofs.writing.write_ending.Goals as goal

pub returns-in-Ok-clause-told : goal.returns-in-Ok-clause-told
returns-in-Ok-clause-told g c = rw c.in-Ok.is (told_answer _ c.write_answer.ensures.finished)

pub returns-in-Err-clause-told : goal.returns-in-Err-clause-told
returns-in-Err-clause-told g c = rw c.in-Err.is c.tell_halt.ensures.told
