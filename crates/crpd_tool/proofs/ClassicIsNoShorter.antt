-- Where `classic` gives a certificate, so does `analyze`, and no window of `classic` is shorter.
use Rattle.std.proofs.Common.{◌≡◌, ◌≢◌, ℕ, ◌<◌, ◌≤◌, List, length, Result, Ok, Err, refl, ap, sym}
use Rattle.std.proofs.Common.{subst, inl, inr}
use Rattle.std.proofs.lemmas.Bool.{cases_lt}
use Rattle.crpd_base.proofs.Results.{ok_not_err}
use Rattle.crpd_base.specs.CertificateRanges.{IsCertificate}
use Rattle.crpd_base.specs.Limits.{most_entries}
use Rattle.crpd_base.specs.Tasks.{HasTimes}
use Rattle.crpd_base.specs.declared.data.Certificate.{Certificate}
use Rattle.crpd_base.specs.declared.data.TaskSet.{TaskSet}
use Rattle.cert_build.proofs.Choices.{multiset_above, multiset_agree}
use Rattle.cert_build.proofs.OneBest.{one_best}
use Rattle.cert_build.proofs.OneBuild.{one_built}
use Rattle.cert_build.proofs.OneOutcome.{bound_in}
use Rattle.cert_build.specs.Best.{IsBest, IsBestPart}
use Rattle.cert_build.specs.Certify.{AreBestParts, IsBuildError}
use Rattle.cert_build.specs.declared.error.BuildError.{BuildError}
use Rattle.cert_build.specs.declared.error.BuildError.TheVariants.{Memory, TooManyEntries}
use Rattle.cert_check.specs.JudgeInput.{longest_at, window_at}
use Rattle.cert_model.proofs.Ranged.{found_ranged}
use Rattle.cert_model.specs.Reading.{entries}
use Rattle.delay_classic.proofs.Choices.{demands_agree}
use Rattle.delay_classic.proofs.Within.{demand_within}
use Rattle.delay_classic.specs.Classic.{HasBest}
use Rattle.delay_classic.specs.ClassicErrors.{IsClassicError}
use Rattle.delay_classic.specs.Demand.{classic_demands}
use Rattle.delay_count.specs.Demand.{demand}
use Rattle.flat_graph.specs.Graph.{IsGraph}
use Rattle.loop_regions.specs.TaskGraph.{TaskGraph}
use Rattle.task_shapes.specs.Shapes.{SetWithShapes}
use Rattle.crpd_io.specs.Outside.{Contents}
use Rattle.crpd_input.specs.Reading.{input_in}
use Rattle.crpd_input.specs.declared.halt.Halt.{Halt}
use Rattle.crpd_tool.specs.Analyze.{AnalysisOf, AnalyzeEnds, IsMade, certificate_answer}
use Rattle.crpd_tool.specs.ClassicIsNoShorter.{ClassicIsNoShorter, HasNoShorterWindows}
use Rattle.crpd_tool.specs.ClassicLaw.{DoneIsClassic, IsSoundClassic}
use Rattle.crpd_tool.specs.Commands.{analyze}
use Rattle.crpd_tool.specs.Output.{Output, ending_output}
use Rattle.crpd_tool.specs.Shaped.{graphs_of}
use Rattle.crpd_tool.specs.declared.answer.Answer.{Answer}
use Rattle.crpd_tool.specs.declared.status.Status.TheVariants.{Done}
use Rattle.crpd_tool.proofs.Again.{built_again, shapes_again}
use Rattle.crpd_tool.proofs.AnalyzeLaw.{text_checked}
use Rattle.crpd_tool.proofs.Finish.{some-out}
use Rattle.crpd_tool.proofs.OneAnswer.{times}
use Rattle.crpd_tool.proofs.ReadSet.{IsReadFrom, built_of}

module _ (contents : Contents) (set text : List ℕ) (classic : IsSoundClassic contents set text) where
  abbrev x : SetWithShapes
  x = classic.shaped

  abbrev is : TaskSet
  is = x.input.set

  abbrev graphs : ℕ → TaskGraph
  graphs = graphs_of x

  abbrev best : HasBest is graphs classic.made
  best = classic.best

  read : IsReadFrom (input_in contents set) x
  read = record { input_is = classic.input_is; shapes_are = classic.shapes_are }

  in_times : HasTimes is
  in_times = times contents set x read

  are_graphs : (k : ℕ) → k < length is.tasks → IsGraph (graphs k).graph
  are_graphs k lt = (built_of x read.shapes_are k lt).follows.graph

  -- no error goes with the certificate by the plain delays
  no_error : (e : BuildError) → e ≢ Memory → IsClassicError is graphs e → ⊥
  no_error e free E =
      let ranges : IsCertificate classic.made =
      found_ranged text (Ok classic.made) classic.checked.reads in
      ok_not_err classic.made e
      (one_built is (classic_demands is) graphs in_times are_graphs (demands_agree is)
      (demand_within is) (Ok classic.made) (Err e) (classic.is, ranges.entries) (free, E))

  parts : AreBestParts is graphs best.best.tasks
  parts = record {
    tasks = best.is.tasks;
    each = λ k lt. (best.is.each k lt).part;
    within =
        bound_in is (demand is) (longest_at is.platform graphs)
        (λ k. IsBestPart is.platform (graphs k)) best.best in_times (multiset_above is) best.is;
  }

  -- both certificates have the same state entries
  few_entries : entries best.best.tasks ≤ most_entries
  few_entries = elim (cases_lt most_entries (entries best.best.tasks)) [
    | inl many ↦
        absurd (no_error (TooManyEntries (entries best.best.tasks)) (λ e. cc)
        (best.best.tasks, parts, refl, many))
    | inr few ↦ few
  ]

  -- so the analysis has no error
  not_refused : (e : BuildError) → e ≢ Memory → IsBuildError is graphs e → ⊥
  not_refused e free E =
      ok_not_err best.best e
      (one_built is (demand is) graphs in_times are_graphs (multiset_agree is in_times)
      (multiset_above is) (Ok best.best) (Err e) (best.is, few_entries) (free, E))

  -- and its certificate is the one with no longer windows
  no_shorter : (c : Certificate) → IsBest is graphs c → (k : ℕ) → k < length is.tasks
      → window_at c k ≤ window_at classic.made k
  no_shorter c C k lt =
      subst (λ (b : Certificate). window_at b k ≤ window_at classic.made k)
      (one_best is graphs best.best c in_times best.is C) (best.shorter k lt)

  -- the certificate with which `analyze` ends
  abbrev HasMade : Result Answer Halt → Type 0
  HasMade ending =
      (c : Certificate) × IsMade is (demand is) graphs c × (ending ≡ Ok (certificate_answer c))

  made_from : (y : SetWithShapes) → IsReadFrom (input_in contents set) y
      → (ending : Result Answer Halt) → AnalysisOf set y ending → HasMade ending
  made_from y at ending (inl (c, M, end)) = (
    c,
    record {
      is =
          (built_again demand (input_in contents set) y x at read (Ok c) (M.is, M.ranges.entries)).0;
      ranges = M.ranges;
    },
    end,
  )
  made_from y at ending (inr (e, free, E, end)) =
      absurd (not_refused e free
      (built_again demand (input_in contents set) y x at read (Err e) (free, E)).1)

  made : (ending : Result Answer Halt) → AnalyzeEnds contents set ending → HasMade ending
  made ending ends =
      let again = shapes_again contents set (AnalysisOf set) x ending read ends in
      made_from again.0 again.1 ending again.2

  analyzed_too : (ending : Result Answer Halt) → AnalyzeEnds contents set ending
      → ((ending_output ending).status ≡ Done)
      × HasNoShorterWindows contents set text (ending_output ending).text
  analyzed_too ending ends =
      let found = made ending ends in (
        ap (λ (r : Result Answer Halt). (ending_output r).status) found.2,
        record {
          input = x.input;
          plain = classic.made;
          made = found.0;
          input_is = classic.input_is;
          plain_certificate = classic.checked;
          certificate = text_checked contents set x found.0 ending read found.1 found.2;
          no_shorter = no_shorter found.0 found.1.is;
        },
      )

pub classic_is_no_shorter : ((words : List (List ℕ)) (contents : Contents)
    → DoneIsClassic words contents) → ClassicIsNoShorter
classic_is_no_shorter done_is_classic words others contents set output other asked out done
    other_asked other_out =
    let given = some-out others contents (analyze set) other other_asked other_out in
    subst (λ (o : Output). (o.status ≡ Done) × HasNoShorterWindows contents set output.text o.text)
    (sym given.2)
    (analyzed_too contents set output.text
    (done_is_classic words contents set output asked out done) given.0 given.1)
