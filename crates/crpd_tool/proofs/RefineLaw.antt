-- A whole text with the status Done on `refine` is that of the refined windows.
use Rattle.std.proofs.Common.{◌≡◌, ◌<◌, ◌≤◌, ℕ, List, length, Result, Ok, ap, sym, ◌∙◌, subst}
use Rattle.std.proofs.Common.{inl, inr}
use Rattle.std.proofs.lemmas.List.{length-map}
use Rattle.crpd_base.proofs.Times.{has_times}
use Rattle.crpd_base.specs.Tasks.{deadline_of}
use Rattle.crpd_base.specs.declared.data.RefinedTask.{RefinedTask}
use Rattle.crpd_base.specs.declared.data.TaskSet.{TaskSet}
use Rattle.flat_graph.specs.Graph.{IsGraph}
use Rattle.cert_check.specs.JudgeInput.{window_at as certified_window}
use Rattle.delay_point.specs.Laws.{OneRefined, RefinedIsNoLonger, RefinedIsSafe}
use Rattle.delay_point.specs.Refined.{AreRefined, window_at}
use Rattle.delay_point.specs.declared.error.RefineError.{RefineError}
use Rattle.delay_point.specs.declared.error.RefineError.TheVariants.{Memory, TooLarge, Unschedulable}
use Rattle.task_shapes.specs.Shapes.{SetWithShapes}
use Rattle.crpd_io.specs.Outside.{Contents}
use Rattle.crpd_input.specs.Reading.{input_in}
use Rattle.crpd_input.specs.declared.halt.Halt.{Halt}
use Rattle.crpd_input.proofs.Given.{input_good}
use Rattle.crpd_tool.specs.Commands.{refine}
use Rattle.crpd_tool.specs.Output.{ending_output}
use Rattle.crpd_tool.specs.Refine.{RefineEnds, RefinedOf, refined_answer, without_windows}
use Rattle.crpd_tool.specs.RefineLaw.{DoneIsRefined, IsRefinedSafely}
use Rattle.crpd_tool.specs.Shaped.{graphs_of}
use Rattle.crpd_tool.specs.declared.answer.Answer.{Answer}
use Rattle.crpd_tool.specs.declared.status.Status.TheVariants.{Done}
use Rattle.crpd_tool.proofs.Done.{output_done, shapes_done}
use Rattle.crpd_tool.proofs.ReadSet.{IsReadFrom, built_of}

-- without refined windows the status is not Done
not_done : (set : TaskSet) (e : RefineError)
    → (ending_output (without_windows set e)).status ≡ Done → ⊥
not_done set Memory is = cc
not_done set (TooLarge task address) is = cc
not_done set (Unschedulable task) is = cc

pub found : (shaped : SetWithShapes) (ending : Result Answer Halt) → RefinedOf shaped ending
    → (ending_output ending).status ≡ Done
    → (tasks : List RefinedTask)
    × AreRefined shaped.input.set (graphs_of shaped) tasks
    × (ending ≡ Ok (refined_answer shaped.input.set tasks))
found shaped ending (inl windows) e = windows
found shaped ending (inr none) e =
    absurd (not_done shaped.input.set none.0
    (ap (λ (r : Result Answer Halt). (ending_output r).status) (sym none.3) ∙ e))

module _ (safe_law : RefinedIsSafe) (one_law : OneRefined) (no_longer_law : RefinedIsNoLonger)
    (contents : Contents) (set : List ℕ) where
  safe : (shaped : SetWithShapes) (tasks : List RefinedTask) (ending : Result Answer Halt)
      → IsReadFrom (input_in contents set) shaped
      → AreRefined shaped.input.set (graphs_of shaped) tasks
      → ending ≡ Ok (refined_answer shaped.input.set tasks)
      → IsRefinedSafely contents set (ending_output ending).text
  safe shaped tasks ending read R end =
      let is = shaped.input.set in
      let graphs = graphs_of shaped in
      let good = input_good contents set shaped.input read.input_is in
      let times = has_times is good.ranges in
      let built = built_of shaped read.shapes_are in
      let are_graphs : (k : ℕ) → k < length is.tasks → IsGraph (graphs k).graph =
      λ k lt. (built k lt).follows.graph in
      record {
        shaped = shaped;
        tasks = tasks;
        input_is = read.input_is;
        shapes_are = read.shapes_are;
        text_is = ap (λ (r : Result Answer Halt). (ending_output r).text) end;
        refined = R;
        only = λ others O. one_law is graphs others tasks times are_graphs O R;
        count = length-map tasks (λ (t : RefinedTask). t.response) ∙ R.by.size;
        in_deadline = λ k lt.
            subst (λ r. r ≤ deadline_of is k) (sym (R.by.response k lt))
            (R.by.window k lt).window.in_deadline;
        safe =
            safe_law is shaped.input.code graphs tasks good.ranges good.words built R;
        no_longer = λ c best k lt.
            let n = no_longer_law is graphs R.parts c times R.are best in
            subst (λ (ts : List RefinedTask). window_at ts k ≤ certified_window c k)
            (one_law is graphs n.tasks tasks times are_graphs n.refined R) (n.no_longer k lt);
      }

  ended : (ending : Result Answer Halt) → RefineEnds contents set ending
      → (ending_output ending).status ≡ Done
      → IsRefinedSafely contents set (ending_output ending).text
  ended ending is e =
      let given = shapes_done (input_in contents set) RefinedOf ending is e in
      let windows = found given.0 ending given.2 e in
      safe given.0 windows.0 ending given.1 windows.1 windows.2

pub done_is_refined : RefinedIsSafe → OneRefined → RefinedIsNoLonger → (words : List (List ℕ))
    (contents : Contents) → DoneIsRefined words contents
done_is_refined safe_law one_law no_longer_law words contents set output =
    output_done words contents (refine set) output (IsRefinedSafely contents set)
    (ended safe_law one_law no_longer_law contents set)
