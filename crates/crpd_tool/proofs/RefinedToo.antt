-- Where `analyze` gives a certificate, `refine` gives windows, none of them longer.
use Rattle.std.proofs.Common.{◌≡◌, ◌≢◌, ℕ, ◌<◌, ◌≤◌, List, length, Result, Ok, Err, refl, ap, sym}
use Rattle.std.proofs.Common.{subst, ◌∙◌, inl, inr}
use Rattle.crpd_base.proofs.Results.{ok_not_err}
use Rattle.crpd_base.specs.declared.data.Certificate.{Certificate}
use Rattle.crpd_base.specs.declared.data.RefinedTask.{RefinedTask}
use Rattle.crpd_base.specs.declared.data.TaskSet.{TaskSet}
use Rattle.cert_build.proofs.Choices.{multiset_above, multiset_agree}
use Rattle.cert_build.proofs.OneBuild.{one_built}
use Rattle.cert_build.specs.declared.error.BuildError.TheVariants as build
use Rattle.cert_check.proofs.Alike.{all_turned}
use Rattle.cert_check.specs.JudgeInput.{window_at as certified_window}
use Rattle.delay_count.specs.Demand.{demand}
use Rattle.delay_point.specs.Laws.{OneRefined, OneRefineEnd, RefinedIsNoLonger}
use Rattle.delay_point.specs.Refined.{AreRefined, window_at}
use Rattle.delay_point.specs.RefineErrors.{IsRefineError}
use Rattle.delay_point.specs.declared.error.RefineError.{RefineError}
use Rattle.delay_point.specs.declared.error.RefineError.TheVariants.{Memory, TooLarge, Unschedulable}
use Rattle.delay_point.proofs.Alike.{end_too}
use Rattle.flat_graph.specs.Graph.{IsGraph}
use Rattle.task_shapes.specs.Shapes.{SetWithShapes}
use Rattle.crpd_io.specs.Outside.{Contents}
use Rattle.crpd_input.specs.Reading.{input_in}
use Rattle.crpd_input.specs.declared.halt.Halt.{Halt}
use Rattle.crpd_input.specs.declared.halt.Halt.TheVariants as halt
use Rattle.crpd_input.proofs.Given.{input_good}
use Rattle.crpd_report.specs.Refine.{refined_text}
use Rattle.crpd_tool.specs.Analyze.{AnalysisOf, IsMade, certificate_answer}
use Rattle.crpd_tool.specs.Commands.{analyze, refine}
use Rattle.crpd_tool.specs.Output.{ending_output, Output, status_of}
use Rattle.crpd_tool.specs.Refine.{RefineEnds, RefinedOf}
use Rattle.crpd_tool.specs.RefinedToo.{AnalyzedIsRefined, IsRefinedToo}
use Rattle.crpd_tool.specs.Shaped.{graphs_of}
use Rattle.crpd_tool.specs.declared.answer.Answer.{Answer}
use Rattle.crpd_tool.specs.declared.answer.Outcome.{Outcome}
use Rattle.crpd_tool.specs.declared.answer.Outcome.TheVariants as outcome
use Rattle.crpd_tool.specs.declared.status.Status.TheVariants.{Done}
use Rattle.crpd_tool.proofs.AnalyzeLaw.{made, text_checked}
use Rattle.crpd_tool.proofs.Done.{output_done, shapes_done}
use Rattle.crpd_tool.proofs.Finish.{some-out}
use Rattle.crpd_tool.proofs.OneAnswer.{refine_end, times}
use Rattle.crpd_tool.proofs.ReadSet.{IsReadFrom, built_of}
use Rattle.crpd_tool.proofs.RefineLaw.{found}
use Rattle.crpd_tool.proofs.SameShapes.{AreSameShapes, same_shapes}
use Rattle.crpd_tool.proofs.SomeOutput.{refined_ends}

-- a status of which it is refuted that it is not Done is Done
outcome_done : (o : Outcome) → ((status_of o ≡ Done → ⊥) → ⊥) → status_of o ≡ Done
outcome_done outcome.Done none = refl
outcome_done outcome.No none = absurd (none (λ e. cc))

status_done : (r : Result Answer Halt) → (((ending_output r).status ≡ Done → ⊥) → ⊥)
    → (ending_output r).status ≡ Done
status_done (Ok a) none = outcome_done a.outcome none
status_done (Err (halt.Refused s)) none = absurd (none (λ e. cc))
status_done (Err halt.Memory) none = absurd (none (λ e. cc))
status_done (Err halt.Fault) none = absurd (none (λ e. cc))

module _ (one_law : OneRefined) (one_end_law : OneRefineEnd) (no_longer_law : RefinedIsNoLonger)
    (contents : Contents) (set : List ℕ) where
  -- a set that was read, and the analysis' certificate of it
  module _ (x : SetWithShapes) (c : Certificate) (read : IsReadFrom (input_in contents set) x)
      (M : IsMade x.input.set (demand x.input.set) (graphs_of x) c) where
    abbrev is : TaskSet
    is = x.input.set

    are_graphs : (k : ℕ) → k < length is.tasks → IsGraph (graphs_of x k).graph
    are_graphs k lt = (built_of x read.shapes_are k lt).follows.graph

    -- there is no reason why there should be no refined windows
    at_odds : (e : RefineError) → e ≢ Memory → IsRefineError is (graphs_of x) e → ⊥
    at_odds Memory ne E = ne refl
    at_odds (TooLarge t address) ne E =
        ok_not_err c (build.TooLarge t address)
        (one_built is (demand is) (graphs_of x) (times contents set x read) are_graphs
        (multiset_agree is (times contents set x read)) (multiset_above is) (Ok c)
        (Err (build.TooLarge t address)) (M.is, M.ranges.entries) ((λ e. cc), E))
    at_odds (Unschedulable t) ne E =
        let n = no_longer_law is (graphs_of x) E.0 c (times contents set x read) E.1 M.is in
        ok_not_err n.tasks (Unschedulable t)
        (one_end_law is (graphs_of x) (Ok n.tasks) (Err (Unschedulable t))
        (times contents set x read) are_graphs n.refined (ne, E))

    by_end : (r : Result Answer Halt) → RefinedOf x r → (ending_output r).status ≡ Done
    by_end r (inl windows) = ap (λ (s : Result Answer Halt). (ending_output s).status) windows.2
    by_end r (inr none) = absurd (at_odds none.0 none.1 none.2)

    done : (other : Result Answer Halt) → RefineEnds contents set other
        → (ending_output other).status ≡ Done
    done other ends =
        status_done other (λ none.
        refined_ends x (input_good contents set x.input read.input_is) read.shapes_are (λ r.
        none (ap (λ (s : Result Answer Halt). (ending_output s).status)
        (refine_end contents set one_end_law other r.0 ends
        (inl (x, inl (x.input, read.input_is, read.shapes_are), r.1)))
        ∙ by_end r.0 r.1)))

    -- refined windows over other regions of the same loops are refined windows
    same_windows : (y : SetWithShapes) (tasks : List RefinedTask) → AreSameShapes x y
        → AreRefined y.input.set (graphs_of y) tasks → AreRefined is (graphs_of x) tasks
    same_windows y tasks same R =
        end_too is x.graphs y.nests x.nests (all_turned is x.nests y.nests same.alike) (Ok tasks)
        (subst (λ (z : SetWithShapes). AreRefined z.input.set (graphs_of z) tasks) same.is R)

    no_longer : (tasks : List RefinedTask) → AreRefined is (graphs_of x) tasks → (k : ℕ)
        → k < length is.tasks → window_at tasks k ≤ certified_window c k
    no_longer tasks R k lt =
        let n = no_longer_law is (graphs_of x) R.parts c (times contents set x read) R.are M.is in
        subst (λ (ts : List RefinedTask). window_at ts k ≤ certified_window c k)
        (one_law is (graphs_of x) n.tasks tasks (times contents set x read) are_graphs n.refined R)
        (n.no_longer k lt)

    too : (ending other : Result Answer Halt) → ending ≡ Ok (certificate_answer c)
        → RefineEnds contents set other
        → ((ending_output other).status ≡ Done)
        × IsRefinedToo contents set (ending_output ending).text (ending_output other).text
    too ending other end ends =
        let given = shapes_done (input_in contents set) RefinedOf other ends (done other ends) in
        let windows = found given.0 other given.2 (done other ends) in
        let same = same_shapes (input_in contents set) x given.0 read given.1 in (
          done other ends,
          record {
            input = x.input;
            made = c;
            tasks = windows.0;
            input_is = read.input_is;
            certificate = text_checked contents set x c ending read M end;
            text_is =
                ap (λ (r : Result Answer Halt). (ending_output r).text) windows.2
                ∙ ap (λ (z : SetWithShapes). refined_text z.input.set windows.0) same.is;
            no_longer =
                no_longer windows.0 (same_windows given.0 windows.0 same windows.1);
          },
        )

pub analyzed_is_refined : OneRefined → OneRefineEnd → RefinedIsNoLonger → (words : List (List ℕ))
    (contents : Contents) → AnalyzedIsRefined words contents
analyzed_is_refined one_law one_end_law no_longer_law words contents others set output other is out
    e other_is other_out =
    let given = some-out others contents (refine set) other other_is other_out in
    output_done words contents (analyze set) output
    (λ text. (other.status ≡ Done) × IsRefinedToo contents set text other.text)
    (λ ending ends is_done.
    let read = shapes_done (input_in contents set) (AnalysisOf set) ending ends is_done in
    let certificate = made demand set read.0 ending read.2 is_done in
    subst (λ (o : Output). (o.status ≡ Done)
    × IsRefinedToo contents set (ending_output ending).text o.text) (sym given.2)
    (too one_law one_end_law no_longer_law contents set read.0 certificate.0 read.1 certificate.1
    ending given.0 certificate.2 given.1)) is out e
