use Rattle.std.proofs.Common.{rules}
use Rattle.gen_tasks.specs.Draws.{state_after}
use Rattle.gen_tasks.proofs.programs.draw_draft.Goals as goal

pub returns-clause-draft : goal.returns-clause-draft
unfolding state_after
returns-clause-draft c = search rules
