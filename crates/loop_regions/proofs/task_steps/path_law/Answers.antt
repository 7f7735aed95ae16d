use Rattle.loop_regions.proofs.TaskSteps.{task_path_law, task_path_end_law, task_return_law}
use Rattle.loop_regions.proofs.task_steps.path_law.Goals as goal

pub returns-clause-walk : goal.returns-clause-walk
returns-clause-walk c =
    task_path_law c.args.code.now c.args.task.0 c.args.graph.now c.words_law.ensures
    c.flat_graph_law.ensures.follows c.requires.graph

pub returns-clause-answer : goal.returns-clause-answer
returns-clause-answer c =
    task_path_end_law c.args.code.now c.args.task.0 c.args.graph.now c.words_law.ensures
    c.flat_graph_law.ensures.follows c.requires.graph

pub returns-clause-ends : goal.returns-clause-ends
returns-clause-ends c =
    task_return_law c.args.code.now c.args.task.0 c.args.graph.now c.words_law.ensures
    c.flat_graph_law.ensures.follows c.requires.graph
