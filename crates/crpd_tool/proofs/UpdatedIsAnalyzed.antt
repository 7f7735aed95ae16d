-- `update`, given the certificate that `analyze` wrote, writes what `analyze` writes.
use Rattle.std.proofs.Common.{◌≡◌, ◌∙◌, ℕ, List, Some, Result, Ok, refl, sym, inl, inr}
use Rattle.crpd_base.specs.CertificateRanges.{IsCertificate}
use Rattle.crpd_base.specs.declared.data.Certificate.{Certificate}
use Rattle.crpd_base.specs.declared.data.Task.{Task}
use Rattle.cert_build.proofs.Judged.{best_is_judged}
use Rattle.cert_build.specs.Best.{IsBest}
use Rattle.cert_check.proofs.OneAnswer.{one_verdict}
use Rattle.cert_check.specs.FirstFailing.{answer_of}
use Rattle.cert_check.specs.Verdict.{IsJudged}
use Rattle.cert_check.specs.declared.outcome.Verdict.TheVariants as verdict
use Rattle.cert_model.proofs.Ranged.{found_ranged}
use Rattle.cert_update.specs.Laws.{Change, UpdateIsBestLaw, UpdateIsRefusedLaw}
use Rattle.delay_count.specs.Demand.{demand}
use Rattle.task_shapes.specs.Shapes.{SetWithShapes}
use Rattle.crpd_io.specs.Outside.{Contents}
use Rattle.crpd_input.specs.Reading.{certificate_in, input_in}
use Rattle.crpd_input.specs.Shapes.{ShapedIn}
use Rattle.crpd_input.specs.Steps.{Then}
use Rattle.crpd_input.specs.declared.halt.Halt.{Halt}
use Rattle.crpd_tool.specs.Analyze.{AnalysisOf, AnalyzeEnds}
use Rattle.crpd_tool.specs.AnalyzeLaw.{DoneIsBest}
use Rattle.crpd_tool.specs.CheckedText.{IsCheckedText}
use Rattle.crpd_tool.specs.Commands.{analyze, update}
use Rattle.crpd_tool.specs.Output.{OneAnswer, ending_output}
use Rattle.crpd_tool.specs.Shaped.{graphs_of}
use Rattle.crpd_tool.specs.Update.{UpdateEnds, UpdateFromCertificate, UpdateFromShapes, UpdateOf}
use Rattle.crpd_tool.specs.UpdatedIsAnalyzed.{UpdatedIsAnalyzed}
use Rattle.crpd_tool.specs.declared.answer.Answer.{Answer}
use Rattle.crpd_tool.proofs.Again.{built_again, shapes_again, value_again}
use Rattle.crpd_tool.proofs.Finish.{out-some, some-out}
use Rattle.crpd_tool.proofs.OneChange.{no_yes}
use Rattle.crpd_tool.proofs.ReadSet.{IsReadFrom, built_of, read_from}
use Rattle.crpd_tool.proofs.UpdateLaw.{stored}
use Rattle.crpd_tool.proofs.Written.{file_read}

module _ (bests : UpdateIsBestLaw) (refuses : UpdateIsRefusedLaw) (contents : Contents)
    (old_set new_set : List ℕ) where
  module _ (old : SetWithShapes) (c : Certificate)
      (old_read : IsReadFrom (input_in contents old_set) old)
      (best : IsBest old.input.set (graphs_of old) c) where
    -- the checker accepts the analysis' certificate
    not_denied : (task : Task) (clause place : ℕ)
        → IsJudged old.input.set (graphs_of old) c (answer_of (verdict.No task clause place)) → ⊥
    not_denied task clause place denied =
        no_yes task clause place
        (one_verdict old.input.set (graphs_of old) c (verdict.No task clause place) verdict.Yes
        denied
        (best_is_judged old.input.set (graphs_of old) c
        (λ k lt. (built_of old old_read.shapes_are k lt).follows.graph) best))

    -- its update is the analysis
    analysed : (new : SetWithShapes) → IsReadFrom (input_in contents new_set) new
        → (ending : Result Answer Halt) → UpdateOf new_set old c new ending
        → AnalysisOf new_set new ending
    analysed new new_read ending (inl denied) =
        absurd (not_denied denied.0 denied.1 denied.2 denied.3)
    analysed new new_read ending (inr (judged, inl (d, M, is))) =
        let change : Change = record {
          old = stored contents old_set old old_read;
          new = stored contents new_set new new_read;
        } in
        inl (d, record { is = bests change c d best M.update; ranges = M.ranges }, is)
    analysed new new_read ending (inr (judged, inr (e, free, E, is))) =
        let change : Change = record {
          old = stored contents old_set old old_read;
          new = stored contents new_set new new_read;
        } in
        inr (e, free, refuses change c e best E, is)

    -- and so from the new set on
    analysed_from : (ending : Result Answer Halt)
        → Then (ShapedIn contents new_set) (UpdateOf new_set old c) ending
        → AnalyzeEnds contents new_set ending
    analysed_from ending (inl (new, at, went)) =
        inl (new, at, analysed new (read_from (input_in contents new_set) new at) ending went)
    analysed_from ending (inr stopped) = inr stopped

  -- the whole command, where a file has the text of the analysis' certificate
  module _ (x : SetWithShapes) (c : Certificate) (text file : List ℕ)
      (read : IsReadFrom (input_in contents old_set) x) (checked : IsCheckedText x.input c text)
      (best : IsBest x.input.set (graphs_of x) c) (told : contents file ≡ Some text) where
    analyzed_too : (ending : Result Answer Halt) → UpdateEnds contents old_set file new_set ending
        → AnalyzeEnds contents new_set ending
    analyzed_too ending ends =
        let ranges : IsCertificate c = found_ranged text (Ok c) checked.reads in
        let old = shapes_again contents old_set (UpdateFromShapes contents file new_set) x ending
        read ends in
        let built = built_again demand (input_in contents old_set) x old.0 read old.1 (Ok c)
        (best, ranges.entries) in
        analysed_from old.0 c old.1 built.0 ending
        (value_again (certificate_in contents file) (UpdateFromCertificate contents new_set old.0) c
        ending (file_read x.input c text checked contents file told) old.2)

pub updated_is_analyzed : OneAnswer → UpdateIsBestLaw → UpdateIsRefusedLaw
    → ((words : List (List ℕ)) (contents : Contents) → DoneIsBest words contents)
    → UpdatedIsAnalyzed
updated_is_analyzed one_answer bests refuses done_is_best words contents old_set output asked out
    done others file new_set update_words analyze_words updated analyzed same told update_asked
    updated_out analyze_asked analyzed_out =
    let found = done_is_best words contents old_set output asked out done in
    let read : IsReadFrom (input_in others old_set) found.shaped =
    record { input_is = same ∙ found.input_is; shapes_are = found.shapes_are } in
    let given = some-out update_words others (update old_set file new_set) updated update_asked
    updated_out in
    let ends = analyzed_too bests refuses others old_set new_set found.shaped found.made output.text
    file read found.checked found.best told given.0 given.1 in
    given.2
    ∙ one_answer analyze_words others (ending_output given.0) analyzed
    (out-some analyze_words others (analyze new_set) (ending_output given.0) (sym analyze_asked)
    (given.0, ends, refl))
    analyzed_out
