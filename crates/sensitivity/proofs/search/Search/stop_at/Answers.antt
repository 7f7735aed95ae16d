use Rattle.std.proofs.Common.{List, Option, IfOk, subst, sym}
use Rattle.crpd_base.specs.declared.data.Part.{Part}
use Rattle.crpd_base.specs.declared.data.Stop.{Stop}
use Rattle.crpd_base.specs.declared.data.TaskSet.{TaskSet}
use Rattle.sensitivity.specs.Accepted.{IsFirstTooLarge}
use Rattle.sensitivity.specs.Inner.Found.{ListsParts, IsAcceptedOrStops}
use Rattle.sensitivity.proofs.Trials.{known_switch, known_sets, known_hits, is_with, made}
use Rattle.sensitivity.proofs.Trials.{set_in_range, same_graphs}
use Rattle.loop_regions.specs.TaskGraphs.{task_graph_at}
use Rattle.sensitivity.proofs.search.Search.stop_at.Goals as goal

pub stop_of-requires-clause-parts : goal.stop_of-requires-clause-parts
stop_of-requires-clause-parts c =
    known_switch c.args.self.now.cost c.args.self.now.set.now
    (task_graph_at c.args.self.now.graphs.now c.args.self.now.nests.now) c.args.self.now.parts.now
    c.args.self.now.hits.now c.args.cycles c.platform_with-trial.result c.args.trial.now.tasks
    c.platform_with-trial.ensures c.requires.trial c.requires.known c.in-Switch.is

pub with_bounds-requires-clause-sets : goal.with_bounds-requires-clause-sets
with_bounds-requires-clause-sets c =
    known_sets c.args.self.now.cost c.args.self.now.set.now
    (task_graph_at c.args.self.now.graphs.now c.args.self.now.nests.now) c.args.self.now.parts.now
    c.args.self.now.hits.now c.args.cycles c.platform_with-trial.result c.args.trial.now.tasks
    c.platform_with-trial.ensures c.requires.trial c.requires.known c.in-Miss.is

pub with_bounds-requires-clause-hits : goal.with_bounds-requires-clause-hits
with_bounds-requires-clause-hits c =
    known_hits c.args.self.now.cost c.args.self.now.set.now
    (task_graph_at c.args.self.now.graphs.now c.args.self.now.nests.now) c.args.self.now.parts.now
    c.args.self.now.hits.now c.args.cycles c.platform_with-trial.result c.args.trial.now.tasks
    c.platform_with-trial.ensures c.requires.trial c.requires.known c.in-Miss.is

pub returns-in-TooLarge-clause-judged : goal.returns-in-TooLarge-clause-judged
returns-in-TooLarge-clause-judged c =
    subst (λ (set : TaskSet).
    IsFirstTooLarge set (task_graph_at c.args.self.now.graphs.now c.args.self.now.nests.now)
    c.in-TooLarge.task.0)
    (is_with c.args.self.now.cost c.args.self.now.set.now c.args.cycles c.platform_with-trial.result
    c.args.trial.now.tasks c.platform_with-trial.ensures c.requires.trial)
    (rw c.in-TooLarge.is at c.in_ok-task-in-Miss.ensures)

pub stop_of-requires-in-Parts-clause-parts : goal.stop_of-requires-in-Parts-clause-parts
stop_of-requires-in-Parts-clause-parts c =
    subst (λ (parts : List Part).
    ListsParts (made c.platform_with-trial.result c.args.trial.now.tasks)
    (task_graph_at c.args.self.now.graphs.now c.args.self.now.nests.now) parts)
    (sym c.deref.ensures.value) (rw c.in-Parts.is at c.in_ok-task-in-Miss.ensures)

pub stop_of-requires-clause-set : goal.stop_of-requires-clause-set
stop_of-requires-clause-set c =
    set_in_range c.args.self.now.cost c.args.self.now.set.now c.args.cycles
    c.platform_with-trial.result c.args.trial.now.tasks c.platform_with-trial.ensures
    c.requires.trial c.requires.cycles c.requires.set

pub stop_of-requires-clause-tasks : goal.stop_of-requires-clause-tasks
stop_of-requires-clause-tasks c =
    same_graphs c.args.self.now.set.now c.args.self.now.graphs.now c.args.self.now.nests.now
    c.platform_with-trial.result c.args.trial.now.tasks c.requires.trial c.requires.tasks

pub with_bounds-requires-clause-set : goal.with_bounds-requires-clause-set
with_bounds-requires-clause-set c =
    set_in_range c.args.self.now.cost c.args.self.now.set.now c.args.cycles
    c.platform_with-trial.result c.args.trial.now.tasks c.platform_with-trial.ensures
    c.requires.trial c.requires.cycles c.requires.set

pub with_bounds-requires-clause-tasks : goal.with_bounds-requires-clause-tasks
with_bounds-requires-clause-tasks c =
    same_graphs c.args.self.now.set.now c.args.self.now.graphs.now c.args.self.now.nests.now
    c.platform_with-trial.result c.args.trial.now.tasks c.requires.trial c.requires.tasks

pub stop_of-requires-in-Parts-clause-set : goal.stop_of-requires-in-Parts-clause-set
stop_of-requires-in-Parts-clause-set c =
    set_in_range c.args.self.now.cost c.args.self.now.set.now c.args.cycles
    c.platform_with-trial.result c.args.trial.now.tasks c.platform_with-trial.ensures
    c.requires.trial c.requires.cycles c.requires.set

pub stop_of-requires-in-Parts-clause-tasks : goal.stop_of-requires-in-Parts-clause-tasks
stop_of-requires-in-Parts-clause-tasks c =
    same_graphs c.args.self.now.set.now c.args.self.now.graphs.now c.args.self.now.nests.now
    c.platform_with-trial.result c.args.trial.now.tasks c.requires.trial c.requires.tasks

pub returns-in-Switch-clause-judged : goal.returns-in-Switch-clause-judged
returns-in-Switch-clause-judged c =
    subst (λ (set : TaskSet).
    IfOk c.stop_of.result (λ (stop : Option Stop).
    IsAcceptedOrStops set (task_graph_at c.args.self.now.graphs.now c.args.self.now.nests.now)
    stop))
    (is_with c.args.self.now.cost c.args.self.now.set.now c.args.cycles c.platform_with-trial.result
    c.args.trial.now.tasks c.platform_with-trial.ensures c.requires.trial)
    c.stop_of.ensures

pub returns-in-Parts-clause-judged : goal.returns-in-Parts-clause-judged
returns-in-Parts-clause-judged c =
    subst (λ (set : TaskSet).
    IfOk c.stop_of-in-Parts.result (λ (stop : Option Stop).
    IsAcceptedOrStops set (task_graph_at c.args.self.now.graphs.now c.args.self.now.nests.now)
    stop))
    (is_with c.args.self.now.cost c.args.self.now.set.now c.args.cycles c.platform_with-trial.result
    c.args.trial.now.tasks c.platform_with-trial.ensures c.requires.trial)
    c.stop_of-in-Parts.ensures
