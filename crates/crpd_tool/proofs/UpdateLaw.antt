-- A whole text with the status Done is that of the old certificate's update.
use Rattle.std.proofs.Common.{◌≡◌, ℕ, List, Result, Ok, ap, sym, ◌∙◌, inl, inr, arith}
use Rattle.std.proofs.lemmas.Option.{slice_get-get_or}
use Rattle.crpd_base.specs.declared.data.Certificate.{Certificate}
use Rattle.crpd_base.specs.declared.data.Task.{Task}
use Rattle.crpd_base.specs.declared.data.TaskSet.{TaskSet}
use Rattle.code_map.specs.Words.{word_at}
use Rattle.preempt_machine.specs.Machine.{plan_of}
use Rattle.preempt_machine.specs.Safe.{system_of}
use Rattle.flat_graph.specs.CodeGraph.{no_graph, graph_at}
use Rattle.crpd_tool.specs.Shaped.{graphs_of}
use Rattle.cert_check.specs.Verdict.{IsJudged, Yes}
use Rattle.cert_check.specs.declared.outcome.Verdict.TheVariants as verdict
use Rattle.cert_update.specs.Laws.{Change, HasCodes, StoredSet, UpdateIsBestLaw}
use Rattle.cert_update.specs.Laws.{UpdateIsJudgedLaw}
use Rattle.cert_update.proofs.SetWords.{updated_words}
use Rattle.crpd_io.specs.Outside.{Contents}
use Rattle.crpd_input.specs.declared.halt.Halt.{Halt}
use Rattle.task_shapes.specs.Shapes.{SetWithShapes}
use Rattle.crpd_input.specs.Reading.{certificate_in, input_in}
use Rattle.crpd_input.specs.Steps.{Exactly}
use Rattle.crpd_input.proofs.Given.{input_good}
use Rattle.crpd_tool.proofs.ReadSet.{IsReadFrom, built_of}
use Rattle.crpd_tool.specs.declared.answer.Answer.{Answer}
use Rattle.crpd_tool.specs.declared.answer.Outcome.TheVariants as ended
use Rattle.crpd_tool.specs.declared.status.Status.TheVariants.{Done}
use Rattle.crpd_tool.specs.Analyze.{certificate_answer}
use Rattle.crpd_tool.specs.Check.{verdict_answer}
use Rattle.crpd_tool.specs.Output.{ending_output}
use Rattle.crpd_tool.specs.Update.{IsMadeAnew, UpdateEnds, UpdateFromCertificate, UpdateFromShapes}
use Rattle.crpd_tool.specs.Update.{UpdateOf, shaped_side}
use Rattle.crpd_tool.specs.UpdateLaw.{DoneIsUpdate, IsUpdateWritten}
use Rattle.crpd_tool.specs.Commands.{update}
use Rattle.crpd_tool.proofs.AnalyzeLaw.{not_done}
use Rattle.task_shapes.specs.Inputs.{IsInput, SetWithCode}
use Rattle.task_shapes.proofs.OneShape.{shapes_parts}
use Rattle.cert_build.specs.Best.{IsBest}
use Rattle.crpd_tool.proofs.Done.{output_done, shapes_done, then_done}
use Rattle.crpd_tool.proofs.Written.{checked_text, read_words}

-- a no has a different status
no_done : (set : TaskSet) (c : Certificate) (task : Task) (clause place : ℕ)
    → (ending_output (Ok (verdict_answer set c (verdict.No task clause place)))).status ≡ Done → ⊥
no_done set c task clause place is = cc

-- the graphs of a set that was read are those of its code, and the nests have their regions
pub coded : (given : Result SetWithCode Halt) (shaped : SetWithShapes) → IsReadFrom given shaped
    → IsInput shaped.input → HasCodes shaped.input.set shaped.graphs shaped.nests
coded given shaped read good =
    let input = shaped.input in
    let graphs = (shapes_parts input shaped read.shapes_are).graphs in
    record {
      range = good.ranges;
      code = λ i lt.
          let at = graphs.1 i (graph_at shaped.graphs i)
          (slice_get-get_or shaped.graphs i no_graph (omega (arith, lt, graphs.0))) in
          record {
            words = word_at input.code.images;
            entry = at.0.entry;
            word_places = good.words;
            of_code = at.2.0;
          };
      regions = λ i lt.
          let built = built_of shaped read.shapes_are i lt in
          record {
            loops = (plan_of (system_of input.set input.code) i).loops;
            regions = built.regions;
            accepted = built.accepted;
          };
    }

-- the set as code stores it
abbrev pub stored : (contents : Contents) (file : List ℕ) (shaped : SetWithShapes)
    → IsReadFrom (input_in contents file) shaped → StoredSet
stored contents file shaped read = record {
  set = shaped.input.set;
  graphs = shaped.graphs;
  nests = shaped.nests;
  codes = coded (input_in contents file) shaped read
      (input_good contents file shaped.input read.input_is);
}

module _ (judges : UpdateIsJudgedLaw) (bests : UpdateIsBestLaw) (contents : Contents)
    (old_set old_certificate new_set : List ℕ) where
  -- the update with which the command ended
  made : (old : SetWithShapes) (stated : Certificate) (new : SetWithShapes)
      (ending : Result Answer Halt) → UpdateOf new_set old stated new ending
      → (ending_output ending).status ≡ Done
      → IsJudged old.input.set (graphs_of old) stated Yes
      × ((c : Certificate) × IsMadeAnew (shaped_side old) stated (shaped_side new) c
      × (ending ≡ Ok (certificate_answer c)))
  made old stated new ending (inl denied) e =
      absurd (no_done old.input.set stated denied.0 denied.1 denied.2
      (ap (λ (r : Result Answer Halt). (ending_output r).status) (sym denied.4) ∙ e))
  made old stated new ending (inr (judged, inl found)) e = (judged, found)
  made old stated new ending (inr (judged, inr none)) e =
      absurd (not_done new_set new.input.set none.0
      (ap (λ (r : Result Answer Halt). (ending_output r).status) (sym none.3) ∙ e))

  module _ (old : SetWithShapes) (stated : Certificate) (new : SetWithShapes)
      (old_read : IsReadFrom (input_in contents old_set) old)
      (stated_is : certificate_in contents old_certificate ≡ Ok stated)
      (new_read : IsReadFrom (input_in contents new_set) new) where
    updated : (c : Certificate) (ending : Result Answer Halt)
        → IsJudged old.input.set (graphs_of old) stated Yes
        → IsMadeAnew (shaped_side old) stated (shaped_side new) c
        → ending ≡ Ok (certificate_answer c)
        → IsUpdateWritten contents old_set old_certificate new_set (ending_output ending).text
    updated c ending judged M end =
        let change : Change = record {
          old = stored contents old_set old old_read;
          new = stored contents new_set new new_read;
        } in
        let yes = judges change stated c judged M.update in
        let best = λ (b : IsBest old.input.set (graphs_of old) stated).
        bests change stated c b M.update in
        record {
          old = old;
          stated = stated;
          new = new;
          made = c;
          old_is = old_read.input_is;
          old_shapes_are = old_read.shapes_are;
          stated_is = stated_is;
          new_is = new_read.input_is;
          new_shapes_are = new_read.shapes_are;
          checked =
              checked_text new c ending new_read.shapes_are yes M.ranges
              (updated_words (shaped_side old) stated (shaped_side new) judged
              (read_words contents old_certificate stated stated_is) c M.update) end;
          update = M.update;
          judged = yes;
          best = best;
          analyzes = λ b others file same.
              inl (
                new,
                inl (new.input, same, new_read.shapes_are),
                inl (
                  c,
                  record { is = best b; ranges = M.ranges },
                  ap (λ (r : Result Answer Halt). Ok (record {
                    text = (ending_output r).text;
                    outcome = ended.Done;
                  })) end,
                ),
              );
        }

  ending_done : (ending : Result Answer Halt)
      → UpdateEnds contents old_set old_certificate new_set ending
      → (ending_output ending).status ≡ Done
      → IsUpdateWritten contents old_set old_certificate new_set (ending_output ending).text
  ending_done ending is e =
      let old = shapes_done (input_in contents old_set)
      (UpdateFromShapes contents old_certificate new_set) ending is e in
      let c = then_done (Exactly (certificate_in contents old_certificate))
      (UpdateFromCertificate contents new_set old.0) ending old.2 e in
      let new = shapes_done (input_in contents new_set) (UpdateOf new_set old.0 c.0) ending c.2 e in
      let found = made old.0 c.0 new.0 ending new.2 e in
      updated old.0 c.0 new.0 old.1 c.1 new.1 found.1.0 ending found.0 found.1.1 found.1.2

pub done_is_update : UpdateIsJudgedLaw → UpdateIsBestLaw → (words : List (List ℕ))
    (contents : Contents) → DoneIsUpdate words contents
done_is_update judges bests words contents old_set old_certificate new_set output =
    output_done words contents (update old_set old_certificate new_set) output
    (IsUpdateWritten contents old_set old_certificate new_set)
    (ending_done judges bests contents old_set old_certificate new_set)
