use Rattle.std.proofs.Common.{◌∙◌, ap, arith}
use Rattle.crpd_base.specs.declared.data.TaskSet.{TaskSet}
use Rattle.flat_graph.specs.CodeGraph.{no_graph}
use Rattle.flat_graph.proofs.CodeGraphs.{code_is_graph}
use Rattle.loop_regions.specs.TaskGraphs.{task_graph_at}
use Rattle.crpd_base.proofs.Times.{has_times}
use Rattle.sensitivity.proofs.Trials.{all_bounded, stays_at, slack_at_limit, slack_below, below_by}
use Rattle.sensitivity.proofs.search.Search.greatest.Goals as goal

pub returns-in_default : goal.returns-in_default
returns-in_default c =
    slack_at_limit c.args.self.now.cost c.args.self.now.set.now
    (task_graph_at c.args.self.now.graphs.now c.args.self.now.nests.now)
    (has_times c.args.self.now.set.now c.requires.set)
    (all_bounded c.args.self.now.set.now c.args.self.now.graphs.now c.args.self.now.nests.now
    c.requires.tasks (λ k l. code_is_graph _ (c.graphs_law.ensures k no_graph l)))
    c.acceptance_law.ensures.stays
    (rw c.in_default.is at c.in_ok-stop.ensures.judged)

pub loop-low-preserved-in-None : goal.loop-low-preserved-in-None
loop-low-preserved-in-None c = record {
  order = omega arith;
  most = c.loop-low.invariant.most;
  trial = c.stop_at-in-loop-low.ensures.trial ∙ c.loop-low.invariant.trial;
  accepted = λ x lt.
      stays_at c.args.self.now.cost c.args.self.now.set.now
      (task_graph_at c.args.self.now.graphs.now c.args.self.now.nests.now)
      (has_times c.args.self.now.set.now c.requires.set)
      (all_bounded c.args.self.now.set.now c.args.self.now.graphs.now c.args.self.now.nests.now
      c.requires.tasks (λ k l. code_is_graph _ (c.graphs_law.ensures k no_graph l)))
      c.acceptance_law.ensures.stays
      x _ (omega (arith, lt)) (rw c.in-None.is at c.in_ok-stop_at.ensures.judged);
  stop = c.loop-low.invariant.stop;
}

pub returns : goal.returns
returns c =
    slack_below c.args.self.now.cost c.args.self.now.set.now
    (task_graph_at c.args.self.now.graphs.now c.args.self.now.nests.now)
    (has_times c.args.self.now.set.now c.requires.set)
    (all_bounded c.args.self.now.set.now c.args.self.now.graphs.now c.args.self.now.nests.now
    c.requires.tasks (λ k l. code_is_graph _ (c.graphs_law.ensures k no_graph l)))
    c.acceptance_law.ensures.never
    c.loop-low.high c.loop-low.stop c.loop-low.invariant.most
    (λ x lt. c.loop-low.invariant.accepted x (omega (arith, lt, c.loop-low-test.false)))
    c.loop-low.invariant.stop
    c.checked_sub.result (below_by c.checked_sub.result c.loop-low.high c.checked_sub.ensures)

pub loop-low-init : goal.loop-low-init
loop-low-init c = record {
  order = omega arith;
  most = omega arith;
  trial = c.stop_at.ensures.trial ∙ ap (λ (set : TaskSet). set.tasks) c.in_ok-trial.ensures;
  accepted = λ x lt. absurd (omega (arith, lt));
  stop = rw c.in-Some.is at c.in_ok-stop.ensures.judged;
}

pub loop-low-preserved : goal.loop-low-preserved
loop-low-preserved c = record {
  order = omega arith;
  most = omega (arith, c.loop-low.invariant.most);
  trial = c.stop_at-in-loop-low.ensures.trial ∙ c.loop-low.invariant.trial;
  accepted = c.loop-low.invariant.accepted;
  stop = rw c.in-Some-2.is at c.in_ok-stop_at.ensures.judged;
}
