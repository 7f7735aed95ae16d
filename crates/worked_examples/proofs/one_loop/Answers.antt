use Rattle.worked_examples.proofs.OneLoop.{one_loop}
use Rattle.worked_examples.proofs.one_loop.Goals as goal

pub returns : goal.returns
returns c = one_loop c.yes_is_safe.ensures
