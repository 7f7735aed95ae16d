use Rattle.std.proofs.Common.{length, refl, arith, slice_index}
use Rattle.delay_count.specs.Gamma.{part_at}
use Rattle.delay_count.specs.Demand.{demand}
use Rattle.response.proofs.Choices.{answer_too, first_too}
use Rattle.response.proofs.Least.{demands_agree}
use Rattle.cert_check.specs.JudgeInput.{longest_at}
use Rattle.loop_regions.specs.TaskGraphs.{task_graph_at}
use Rattle.crpd_base.proofs.Times.{has_times}
use Rattle.sensitivity.proofs.search.stop_of.Goals as goal

pub windows-requires-clause-times : goal.windows-requires-clause-times
windows-requires-clause-times c = has_times c.args.set.now c.requires.set

pub returns-in-Ok : goal.returns-in-Ok
returns-in-Ok c = record {
  parts = part_at c.args.parts.now;
  are = c.requires.parts.are;
  choices = c.in-Ok._choices.items;
  windows =
      answer_too c.args.set.now
      (demand c.args.set.now (part_at c.args.parts.now) (slice_index c.write_longest.new.longest))
      (demand c.args.set.now (part_at c.args.parts.now)
      (longest_at c.args.set.now.platform (task_graph_at c.args.graphs.now c.args.nests.now)))
      (demands_agree c.args.set.now (part_at c.args.parts.now) (part_at c.args.parts.now)
      (slice_index c.write_longest.new.longest)
      (longest_at c.args.set.now.platform (task_graph_at c.args.graphs.now c.args.nests.now))
      (length c.args.set.now.tasks) (has_times c.args.set.now c.requires.set) (omega arith)
      (λ k lt. refl) c.write_longest.ensures.each.each) c.in-Ok._choices.items c.in-Ok.ensures;
}

pub returns-in-Err-Unschedulable : goal.returns-in-Err-Unschedulable
returns-in-Err-Unschedulable c = record {
  parts = part_at c.args.parts.now;
  are = c.requires.parts.are;
  first =
      first_too c.args.set.now
      (demand c.args.set.now (part_at c.args.parts.now) (slice_index c.write_longest.new.longest))
      (demand c.args.set.now (part_at c.args.parts.now)
      (longest_at c.args.set.now.platform (task_graph_at c.args.graphs.now c.args.nests.now)))
      (demands_agree c.args.set.now (part_at c.args.parts.now) (part_at c.args.parts.now)
      (slice_index c.write_longest.new.longest)
      (longest_at c.args.set.now.platform (task_graph_at c.args.graphs.now c.args.nests.now))
      (length c.args.set.now.tasks) (has_times c.args.set.now c.requires.set) (omega arith)
      (λ k lt. refl) c.write_longest.ensures.each.each) c.in-Err-Unschedulable.task.0
      (rw c.in-Err-Unschedulable.field-0-is at c.in-Err-Unschedulable.ensures);
}
