use Rattle.loop_regions.proofs.TaskSteps.{task_walk_law, task_walk_end_law}
use Rattle.loop_regions.proofs.task_steps.walk_law.Goals as goal

pub returns-clause-walk : goal.returns-clause-walk
returns-clause-walk c =
    task_walk_law c.args.code.now c.args.task.0 c.args.graph.now c.words_law.ensures
    c.flat_graph_law.ensures.follows c.requires.graph c.args.nest.now c.requires.nest

pub returns-clause-answer : goal.returns-clause-answer
returns-clause-answer c =
    task_walk_end_law c.args.code.now c.args.task.0 c.args.graph.now c.words_law.ensures
    c.flat_graph_law.ensures.follows c.requires.graph c.args.nest.now c.requires.nest
