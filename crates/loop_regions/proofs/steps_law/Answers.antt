use Rattle.loop_regions.proofs.Paths.{path_law, path_end_law, return_law}
use Rattle.loop_regions.proofs.Steps.{walk_law, walk_end_law}
use Rattle.loop_regions.proofs.steps_law.Goals as goal

pub returns-clause-path : goal.returns-clause-path
returns-clause-path c = path_law

pub returns-clause-path_answer : goal.returns-clause-path_answer
returns-clause-path_answer c = path_end_law

pub returns-clause-ends : goal.returns-clause-ends
returns-clause-ends c = return_law

pub returns-clause-walk : goal.returns-clause-walk
returns-clause-walk c = walk_law

pub returns-clause-walk_answer : goal.returns-clause-walk_answer
returns-clause-walk_answer c = walk_end_law
