use Rattle.std.proofs.Common.{length, slice_index}
use Rattle.loop_regions.specs.TaskGraphs.{task_graph_at}
use Rattle.delay_point.specs.Refined.{AreFirstRefined, AreRefined}
use Rattle.delay_point.specs.RefineErrors.{IsRefineError}
use Rattle.delay_point.specs.Inner.Lists.{list_by}
use Rattle.delay_point.specs.Inner.Windows.{counted_needs, counted_bounds, HasNoRefined}
use Rattle.delay_point.proofs.Joined.{are_refined, have_size, not_refined, result_too}
use Rattle.delay_point.proofs.refine.refined.Goals as goal

pub refined_windows-requires-clause-parts : goal.refined_windows-requires-clause-parts
refined_windows-requires-clause-parts c =
    have_size c.args.set.now (task_graph_at c.args.graphs.now c.args.nests.now)
    c.in_ok-found.found (slice_index c.write_longest.new.longest) c.times_law.ensures
    c.in_ok-found.ensures c.write_longest.ensures.each.each

pub returns : goal.returns
returns c =
    let set = c.args.set.now in
    let graphs = task_graph_at c.args.graphs.now c.args.nests.now in
    let stored = c.in_ok-found.found in
    let longest = slice_index c.write_longest.new.longest in
    record {
      exact =
          result_too c.refined_windows.result
          (λ tasks. AreFirstRefined set (counted_needs set (list_by stored) longest)
          (counted_bounds (list_by stored)) (length set.tasks) tasks.items)
          (λ tasks. AreRefined set graphs tasks.items)
          (HasNoRefined set (counted_needs set (list_by stored) longest)
          (counted_bounds (list_by stored)))
          (IsRefineError set graphs)
          (λ tasks F. are_refined set graphs stored longest c.times_law.ensures
          c.in_ok-found.ensures c.write_longest.ensures.each.each tasks.items F)
          (λ e R. not_refined set graphs stored longest c.times_law.ensures c.in_ok-found.ensures
          c.write_longest.ensures.each.each e R)
          c.refined_windows.ensures;
    }
