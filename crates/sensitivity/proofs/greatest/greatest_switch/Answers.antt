use Rattle.std.proofs.Common.{Bool, List, sym, subst}
use Rattle.crpd_base.specs.declared.data.Part.{Part}
use Rattle.flat_graph.specs.CodeGraph.{no_graph}
use Rattle.flat_graph.proofs.CodeGraphs.{code_is_graph}
use Rattle.loop_regions.specs.TaskGraphs.{task_graph_at}
use Rattle.crpd_base.proofs.Times.{has_times}
use Rattle.sensitivity.specs.Inner.Found.{HaveCacheBlocks, HaveHits}
use Rattle.sensitivity.proofs.Trials.{all_bounded, slack_none}
use Rattle.sensitivity.proofs.greatest.greatest_switch.Goals as goal

pub with_bounds-requires-clause-sets : goal.with_bounds-requires-clause-sets
with_bounds-requires-clause-sets c =
    subst (λ (parts : List Part).
    HaveCacheBlocks c.args.set.now (task_graph_at c.args.graphs.now c.args.nests.now) parts)
    (sym c.deref.ensures.value) (c.in_ok-known.ensures.sets c.args.nests.now)

pub with_bounds-requires-clause-hits : goal.with_bounds-requires-clause-hits
with_bounds-requires-clause-hits c =
    subst (λ (hits : List (List Bool)).
    HaveHits c.args.set.now (task_graph_at c.args.graphs.now c.args.nests.now) hits)
    (sym c.deref-2.ensures.value) (c.in_ok-known.ensures.hits c.args.nests.now)

pub returns-in-TooLarge : goal.returns-in-TooLarge
returns-in-TooLarge c =
    slack_none c.acceptance_law.ensures.never c.args.set.now
    (task_graph_at c.args.graphs.now c.args.nests.now) c.in-TooLarge.task
    (has_times c.args.set.now c.requires.set)
    (all_bounded c.args.set.now c.args.graphs.now c.args.nests.now c.requires.tasks
    (λ k l. code_is_graph _ (c.graphs_law.ensures k no_graph l)))
    (rw c.in-TooLarge.is at c.in_ok-task.ensures)
