-- A whole text with the status Done on `classic` is that of the certificate with the plain union
-- delays.
use Rattle.std.proofs.Common.{◌≡◌, ℕ, List, Result, Ok}
use Rattle.crpd_base.specs.declared.data.Certificate.{Certificate}
use Rattle.cert_check.specs.Verdict.{IsJudged, Yes}
use Rattle.crpd_tool.specs.Shaped.{graphs_of}
use Rattle.cert_build.proofs.SetWords.{best_words}
use Rattle.delay_classic.specs.Classic.{ClassicHasBest, ClassicIsJudged, OneClassic}
use Rattle.delay_classic.specs.Demand.{classic_demands}
use Rattle.sound_laws.specs.Headline.{CheckedCodeIsSafe}
use Rattle.crpd_base.proofs.Times.{has_times}
use Rattle.crpd_io.specs.Outside.{Contents}
use Rattle.crpd_tool.specs.declared.answer.Answer.{Answer}
use Rattle.crpd_tool.specs.declared.status.Status.TheVariants.{Done}
use Rattle.crpd_input.specs.declared.halt.Halt.{Halt}
use Rattle.task_shapes.specs.Shapes.{SetWithShapes}
use Rattle.crpd_input.specs.Reading.{input_in}
use Rattle.crpd_input.proofs.Given.{input_good}
use Rattle.crpd_tool.proofs.ReadSet.{IsReadFrom, built_of}
use Rattle.crpd_tool.specs.Analyze.{IsMade, certificate_answer}
use Rattle.crpd_tool.specs.Classic.{ClassicEnds, ClassicOf}
use Rattle.crpd_tool.specs.ClassicLaw.{DoneIsClassic, IsSoundClassic}
use Rattle.crpd_tool.specs.Output.{ending_output}
use Rattle.crpd_tool.specs.Commands.{classic}
use Rattle.crpd_tool.proofs.AnalyzeLaw.{made}
use Rattle.crpd_tool.proofs.Done.{output_done, shapes_done}
use Rattle.crpd_tool.proofs.Written.{checked_text}

module _ (safe_law : CheckedCodeIsSafe) (judged_law : ClassicIsJudged) (one_law : OneClassic)
    (best_law : ClassicHasBest) (contents : Contents) (set : List ℕ) where
  sound : (shaped : SetWithShapes) (c : Certificate) (ending : Result Answer Halt)
      → IsReadFrom (input_in contents set) shaped
      → IsMade shaped.input.set (classic_demands shaped.input.set) (graphs_of shaped) c
      → ending ≡ Ok (certificate_answer c) → IsSoundClassic contents set (ending_output ending).text
  sound shaped c ending read M end =
      let is = shaped.input.set in
      let graphs = graphs_of shaped in
      let good = input_good contents set shaped.input read.input_is in
      let built = built_of shaped read.shapes_are in
      let yes : IsJudged is graphs c Yes = judged_law is graphs c
      (λ k lt. (built k lt).follows.graph) M.is in
      record {
        shaped = shaped;
        made = c;
        input_is = read.input_is;
        shapes_are = read.shapes_are;
        checked =
            checked_text shaped c ending read.shapes_are yes M.ranges
            (best_words is (classic_demands is) graphs c M.is) end;
        is = M.is;
        only = λ d D. one_law is graphs d c D M.is;
        judged = yes;
        safe =
            safe_law is shaped.input.code graphs c
            (record {
              ranges = good.ranges;
              words = good.words;
              graphs_of = built;
              says = yes;
            });
        best = best_law is graphs c (has_times is good.ranges) M.is;
      }

  ended : (ending : Result Answer Halt) → ClassicEnds contents set ending
      → (ending_output ending).status ≡ Done
      → IsSoundClassic contents set (ending_output ending).text
  ended ending is e =
      let given = shapes_done (input_in contents set) (ClassicOf set) ending is e in
      let found = made classic_demands set given.0 ending given.2 e in
      sound given.0 found.0 ending given.1 found.1 found.2

pub done_is_classic : CheckedCodeIsSafe → ClassicIsJudged → OneClassic → ClassicHasBest
    → (words : List (List ℕ)) (contents : Contents) → DoneIsClassic words contents
done_is_classic safe_law judged_law one_law best_law words contents set output =
    output_done words contents (classic set) output (IsSoundClassic contents set)
    (ended safe_law judged_law one_law best_law contents set)
