-- A set has its refined windows, or one refusal of them, for all regions of the same loops.
use Rattle.std.proofs.Common.{◌≡◌, ℕ, ◌<◌, List, length, Result, Ok, Err, sym, ap, ◌∙◌, inl, inr}
use Rattle.crpd_base.specs.Tasks.{HasTimes}
use Rattle.crpd_base.specs.declared.data.RefinedTask.{RefinedTask}
use Rattle.crpd_base.specs.declared.data.TaskSet.{TaskSet}
use Rattle.flat_graph.specs.CodeGraph.{graph_of, graph_at}
use Rattle.flat_graph.specs.Graph.{IsGraph}
use Rattle.loop_regions.specs.CodeNest.{CodeNest}
use Rattle.loop_regions.specs.TaskGraphs.{task_graph_at}
use Rattle.cert_check.proofs.Alike.{AllAlike}
use Rattle.delay_point.specs.Laws.{IsRefineEnd, OneRefineEnd}
use Rattle.delay_point.specs.declared.error.RefineError.{RefineError}
use Rattle.delay_point.proofs.Alike.{end_too}
use Rattle.task_shapes.specs.Shapes.{SetWithShapes}
use Rattle.crpd_input.specs.declared.halt.Halt.{Halt}
use Rattle.crpd_tool.specs.Refine.{RefinedOf, refined_answer, without_windows}
use Rattle.crpd_tool.specs.declared.answer.Answer.{Answer}
use Rattle.crpd_tool.proofs.OneMade.{with_nests}

-- the command's end
abbrev ending : TaskSet → Result (List RefinedTask) RefineError → Result Answer Halt
ending set (Ok tasks) = Ok (refined_answer set tasks)
ending set (Err e) = without_windows set e

refined : (x : SetWithShapes) (nests : List CodeNest) (r : Result Answer Halt)
    → RefinedOf (with_nests x nests) r
    → (o : Result (List RefinedTask) RefineError)
    × IsRefineEnd x.input.set (task_graph_at x.graphs nests) o × (r ≡ ending x.input.set o)
refined x nests r (inl windows) = (Ok windows.0, windows.1, windows.2)
refined x nests r (inr none) = (Err none.0, (none.1, none.2), none.3)

pub one_refined_end : OneRefineEnd → (x : SetWithShapes) (ms : List CodeNest) → HasTimes x.input.set
    → ((k : ℕ) → k < length x.input.set.tasks → IsGraph (graph_of (graph_at x.graphs k)))
    → AllAlike x.input.set x.nests ms → (r s : Result Answer Halt) → RefinedOf x r
    → RefinedOf (with_nests x ms) s → r ≡ s
one_refined_end one_law x ms times G same r s a b =
    let set = x.input.set in
    let y = refined x x.nests r a in
    let z = refined x ms s b in
    y.2 ∙ ap (ending set)
    (one_law set (task_graph_at x.graphs ms) y.0 z.0 times G
    (end_too set x.graphs x.nests ms same y.0 y.1) z.1)
    ∙ sym z.2
