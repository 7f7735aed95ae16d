use Rattle.cert_check.proofs.OneAnswer.{one_answer_law}
use Rattle.cert_check.proofs.one_answer_law.Goals as goal

pub returns : goal.returns
returns c = one_answer_law
