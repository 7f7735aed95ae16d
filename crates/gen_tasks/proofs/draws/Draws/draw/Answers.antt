use Rattle.std.proofs.Common.{rules}
use Rattle.gen_tasks.specs.Draws.{next_state}
use Rattle.gen_tasks.proofs.draws.Draws.draw.Goals as goal

pub returns-clause-number : goal.returns-clause-number
unfolding next_state
returns-clause-number c = search rules

pub returns-clause-state : goal.returns-clause-state
unfolding next_state
returns-clause-state c = search rules
