-- A whole text with the status Done is that of the analysis' certificate.
use Rattle.std.proofs.Common.{◌≡◌, ℕ, List, Result, Ok, ap, sym, ◌∙◌, inl}
use Rattle.std.proofs.Common.{inr}
use Rattle.crpd_base.specs.declared.data.Certificate.{Certificate}
use Rattle.crpd_base.specs.declared.data.TaskSet.{TaskSet}
use Rattle.delay_count.specs.Demand.{demand}
use Rattle.cert_build.specs.Best.{Demands}
use Rattle.cert_build.specs.declared.error.BuildError.{BuildError}
use Rattle.cert_build.specs.declared.error.BuildError.TheVariants.{Memory, TooLarge, TooManyEntries}
use Rattle.cert_build.specs.declared.error.BuildError.TheVariants.{Unschedulable}
use Rattle.cert_build.proofs.Judged.{best_is_judged}
use Rattle.cert_build.proofs.SetWords.{best_words}
use Rattle.crpd_tool.specs.Shaped.{graphs_of}
use Rattle.cert_check.specs.Verdict.{IsJudged, Yes}
use Rattle.crpd_io.specs.Outside.{Contents}
use Rattle.crpd_tool.specs.declared.answer.Answer.{Answer}
use Rattle.crpd_tool.specs.declared.status.Status.TheVariants.{Done}
use Rattle.crpd_input.specs.declared.halt.Halt.{Halt}
use Rattle.task_shapes.specs.Shapes.{SetWithShapes}
use Rattle.crpd_tool.specs.Analyze.{AnalysisBy, AnalysisOf, AnalyzeEnds, IsMade}
use Rattle.crpd_tool.specs.Analyze.{certificate_answer, without_certificate}
use Rattle.crpd_tool.specs.AnalyzeLaw.{DoneIsBest, IsAnalyzed}
use Rattle.crpd_tool.specs.CheckedText.{IsCheckedText}
use Rattle.crpd_tool.specs.Output.{ending_output}
use Rattle.crpd_input.specs.Reading.{input_in}
use Rattle.crpd_tool.specs.Commands.{analyze}
use Rattle.crpd_tool.proofs.ReadSet.{IsReadFrom, built_of}
use Rattle.crpd_tool.proofs.Done.{output_done, shapes_done}
use Rattle.crpd_tool.proofs.Written.{checked_text}

-- without a certificate the status is not Done
pub not_done : (file : List ℕ) (set : TaskSet) (e : BuildError)
    → (ending_output (without_certificate file set e)).status ≡ Done → ⊥
not_done file set Memory is = cc
not_done file set (TooLarge task address) is = cc
not_done file set (TooManyEntries count) is = cc
not_done file set (Unschedulable task) is = cc

pub made : (demands : TaskSet → Demands) (file : List ℕ) (shaped : SetWithShapes)
    (ending : Result Answer Halt) → AnalysisBy demands file shaped ending
    → (ending_output ending).status ≡ Done
    → (c : Certificate)
    × IsMade shaped.input.set (demands shaped.input.set) (graphs_of shaped) c
    × (ending ≡ Ok (certificate_answer c))
made demands file shaped ending (inl found) e = found
made demands file shaped ending (inr none) e =
    absurd (not_done file shaped.input.set none.0
    (ap (λ (r : Result Answer Halt). (ending_output r).status) (sym none.3) ∙ e))

-- the checker accepts it
accepted : (contents : Contents) (set : List ℕ) (shaped : SetWithShapes) (c : Certificate)
    → IsReadFrom (input_in contents set) shaped
    → IsMade shaped.input.set (demand shaped.input.set) (graphs_of shaped) c
    → IsJudged shaped.input.set (graphs_of shaped) c Yes
accepted contents set shaped c read M =
    best_is_judged shaped.input.set (graphs_of shaped) c
    (λ k lt. (built_of shaped read.shapes_are k lt).follows.graph) M.is

-- its text is read as it
pub text_checked : (contents : Contents) (set : List ℕ) (shaped : SetWithShapes) (c : Certificate)
    (ending : Result Answer Halt) → IsReadFrom (input_in contents set) shaped
    → IsMade shaped.input.set (demand shaped.input.set) (graphs_of shaped) c
    → ending ≡ Ok (certificate_answer c)
    → IsCheckedText shaped.input c (ending_output ending).text
text_checked contents set shaped c ending read M end =
    let is = shaped.input.set in
    checked_text shaped c ending read.shapes_are (accepted contents set shaped c read M) M.ranges
    (best_words is (demand is) (graphs_of shaped) c M.is) end

module _ (contents : Contents) (set : List ℕ) where
  analyzed : (shaped : SetWithShapes) (c : Certificate) (ending : Result Answer Halt)
      → IsReadFrom (input_in contents set) shaped
      → IsMade shaped.input.set (demand shaped.input.set) (graphs_of shaped) c
      → ending ≡ Ok (certificate_answer c) → IsAnalyzed contents set (ending_output ending).text
  analyzed shaped c ending read M end =
      record {
        shaped = shaped;
        made = c;
        input_is = read.input_is;
        shapes_are = read.shapes_are;
        checked = text_checked contents set shaped c ending read M end;
        best = M.is;
        judged = accepted contents set shaped c read M;
      }

  ended : (ending : Result Answer Halt) → AnalyzeEnds contents set ending
      → (ending_output ending).status ≡ Done → IsAnalyzed contents set (ending_output ending).text
  ended ending is e =
      let given = shapes_done (input_in contents set) (AnalysisOf set) ending is e in
      let found = made demand set given.0 ending given.2 e in
      analyzed given.0 found.0 ending given.1 found.1 found.2

pub done_is_best : (words : List (List ℕ)) (contents : Contents) → DoneIsBest words contents
done_is_best words contents set output =
    output_done words contents (analyze set) output (IsAnalyzed contents set) (ended contents set)
