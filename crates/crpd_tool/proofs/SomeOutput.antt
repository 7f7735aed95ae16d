-- Any words have an output.
use Rattle.std.proofs.Common.{◌≡◌, ℕ, ◌<◌, ◌≤◌, List, length, Result, Ok, Err, Option, Some, None}
use Rattle.std.proofs.Common.{MatchOption, slice_get, refl, sym, ◌∙◌, subst, inl, inr, arith, []}
use Rattle.std.proofs.lemmas.Option.{same_Some, slice_get-get_or}
use Rattle.crpd_base.proofs.Elements.{some_at}
use Rattle.crpd_base.specs.Arrivals.{IsLegal}
use Rattle.crpd_base.specs.CertificateRanges.{IsCertificate}
use Rattle.crpd_base.specs.Ranges.{IsPlatform}
use Rattle.crpd_base.specs.declared.data.Certificate.{Certificate}
use Rattle.crpd_base.specs.declared.data.Part.{Part}
use Rattle.crpd_base.specs.declared.data.RefinedTask.{RefinedTask}
use Rattle.crpd_base.specs.declared.data.Script.{Script}
use Rattle.crpd_base.specs.declared.data.TaskSet.{TaskSet}
use Rattle.crpd_base.proofs.Times.{has_times}
use Rattle.code_map.specs.Words.{word_at}
use Rattle.flat_graph.specs.CodeGraph.{CodeGraph, graph_at, graph_of, no_graph, places_of}
use Rattle.icache.specs.Accesses.{accesses}
use Rattle.useful_sets.specs.Useful.{IsEcb, IsUcb}
use Rattle.cert_build.specs.Best.{Demands}
use Rattle.cert_build.specs.declared.error.BuildError.{BuildError}
use Rattle.cert_build.proofs.Choices.{AllAgree, multiset_agree}
use Rattle.cert_check.specs.FirstFailing.{answer_of}
use Rattle.cert_check.specs.Verdict.{IsJudged, Yes}
use Rattle.cert_check.specs.declared.outcome.Clause.TheVariants.{HasTask as TaskClause}
use Rattle.cert_check.specs.declared.outcome.Verdict.{Verdict}
use Rattle.cert_check.specs.declared.outcome.Verdict.TheVariants as verdict
use Rattle.cert_check.proofs.Clauses.{yes_meets_listing}
use Rattle.cert_model.proofs.Ranged.{found_ranged}
use Rattle.cert_model.specs.Reading as certificate
use Rattle.delay_classic.proofs.Choices.{demands_agree}
use Rattle.delay_classic.specs.Demand.{classic_demands}
use Rattle.delay_count.specs.Demand.{demand}
use Rattle.delay_point.specs.Laws.{IsRefineEnd}
use Rattle.delay_point.specs.declared.error.RefineError.{RefineError}
use Rattle.gen_tasks.specs.GeneratedInput.{made}
use Rattle.preempt_machine.specs.Machine.{Machine, plan_of}
use Rattle.preempt_machine.specs.Safe.{IsKept, system_of}
use Rattle.preempt_machine.specs.Starts.{start_of_script}
use Rattle.task_shapes.specs.Inputs.{IsInput, SetWithCode}
use Rattle.task_shapes.specs.Shapes.{SetWithShapes, ShapesOf}
use Rattle.task_shapes.specs.Graphs.{GraphsOf}
use Rattle.task_shapes.proofs.OneShape.{shapes_parts}
use Rattle.crpd_io.specs.Outside.{Contents}
use Rattle.crpd_input.specs.Reading.{certificate_halt, certificate_in, input_in}
use Rattle.crpd_input.specs.Script.{script_in}
use Rattle.crpd_input.specs.Shapes.{GraphsFrom, ShapedFrom, shape_halt}
use Rattle.crpd_input.specs.Steps.{AsStep, Exactly, Then, bytes_in, certificate_bytes, or_refused}
use Rattle.crpd_input.specs.declared.halt.Halt.{Halt}
use Rattle.crpd_input.proofs.Given.{input_good, read_ok, step_ok}
use Rattle.crpd_report.specs.Simulate.{run_line}
use Rattle.crpd_tool.specs.Analyze.{AnalysisBy, certificate_answer, without_certificate}
use Rattle.crpd_tool.specs.Check.{CheckEnds, CheckFromShapes, VerdictOf, verdict_answer}
use Rattle.crpd_tool.specs.Commands.{Command, check, list, simulate, sets, analyze, classic, slack}
use Rattle.crpd_tool.specs.Commands.{command_of, refine, update, generate, explain}
use Rattle.crpd_tool.specs.Explain.{AccountOf, ExplainEnds, ExplainFromCertificate}
use Rattle.crpd_tool.specs.Explain.{ExplainFromShapes, ExplanationOf, account_answer}
use Rattle.crpd_tool.specs.Generate.{GeneratedOf, input_of, made_answer, without_made}
use Rattle.crpd_tool.specs.List.{list_of}
use Rattle.crpd_tool.specs.Output.{Ends, IsOut, IsOutputOf, Output, bad_words, ending_output}
use Rattle.crpd_tool.specs.Refine.{RefinedOf, refined_answer, without_windows}
use Rattle.crpd_tool.specs.Sets.{HasEcbAndUcb, SetsEnds, TextOf}
use Rattle.crpd_tool.specs.Shaped.{graphs_of}
use Rattle.crpd_tool.specs.Simulate.{IsRunLine, ReportOf, SimulateEnds, run_of}
use Rattle.crpd_tool.specs.Slack.{SlackOf, slack_answer}
use Rattle.crpd_tool.specs.Output.{AnOutputExists}
use Rattle.crpd_tool.specs.Update.{ChangeOf, UpdateEnds, UpdateFromCertificate, UpdateFromShapes}
use Rattle.crpd_tool.specs.Update.{UpdateOf, shaped_side}
use Rattle.crpd_tool.specs.declared.answer.Answer.{Answer}
use Rattle.crpd_tool.proofs.ExplainLaw.{below, cached, graphs_here, script_named}
use Rattle.crpd_tool.proofs.MadeGood.{made_good}
use Rattle.crpd_tool.proofs.ReadSet.{built_of, read_from}
use Rattle.cert_build.specs.CertificateEnds.{IsBuildEnd}
use Rattle.cert_build.proofs.SomeCertificate.{a_certificate_exists}
use Rattle.delay_point.proofs.SomeRefinement.{a_refinement_exists}
use Rattle.sensitivity.proofs.SomeSlack.{slacks_exist}
use Rattle.task_shapes.proofs.SomeShapes.{HasEnd, exactly_ends, graphs_end, shapes_end, then_ends}
use Rattle.cert_check.proofs.SomeVerdict.{a_verdict_exists}
use Rattle.run_account.proofs.SomeAccount.{an_account_exists}
use Rattle.cert_build.specs.AnalysisEnds.{IsAnalysable}
use Rattle.cert_build.proofs.SomeAnalysis.{a_set, ecb_low, ucb_low}
use Rattle.cert_update.specs.UpdateEnds.{IsMadeOrNot}
use Rattle.cert_update.proofs.SomeUpdate.{an_update_exists}
use Rattle.cert_build.proofs.Analysable.{analysable}
use Rattle.crpd_base.proofs.Classical.{NotNot, a_list, a_test, mapped}

-- ---- steps

-- a step of a command ends if its call does
module _ {A E : Type 0} (halt_of : E → Halt) (P : Result A E → Type 0) where
  as_halt : (r : Result A E) → P r → (s : Result A Halt) × AsStep halt_of P s
  as_halt (Ok x) h = (Ok x, h)
  as_halt (Err e) h = (Err (halt_of e), (e, h, refl))

  step_ends : HasEnd P → HasEnd (AsStep halt_of P)
  step_ends = mapped (λ (r : (r : Result A E) × P r). as_halt r.0 r.1)

-- a certificate that was read is in its ranges
certificate_good : (contents : Contents) (name : List ℕ) (c : Certificate)
    → certificate_in contents name ≡ Ok c → IsCertificate c
certificate_good contents name c e =
    let bytes = step_ok (bytes_in certificate_bytes contents name)
    (λ bytes. or_refused (certificate_halt name) (certificate.reading bytes)) c e in
    found_ranged bytes.0 (Ok c)
    (read_ok (certificate_halt name) (certificate.reading bytes.0) c bytes.2)

-- the line of a run
line_ends : (set : TaskSet) (given : Script) (m : Machine)
    → NotNot ((line : List ℕ) × IsRunLine set given m line)
line_ends set given m = λ none.
    a_test (IsLegal set given.jobs) (λ legal. a_test (IsKept m) (λ kept.
    none (
      run_line legal.0 kept.0,
      record {
        legal = legal.0;
        kept = kept.0;
        legal_so = legal.1;
        kept_so = kept.1;
        line_is = refl;
      },
    )))

-- ---- a set with its shapes

module _ (x : SetWithShapes) (I : IsInput x.input) (are : ShapedFrom x.input (Ok x)) where
  few_nodes : (k : ℕ) → k < length x.input.set.tasks → length (graph_at x.graphs k).nodes ≤ 16384
  few_nodes k lt =
      let graphs = (shapes_parts x.input x are).graphs in
      (graphs.1 k (graph_at x.graphs k)
      (slice_get-get_or x.graphs k no_graph (let e = graphs.0 in omega (arith, e, lt)))).2.1

  pub can_analyse : (k : ℕ) → k < length x.input.set.tasks → IsAnalysable (graphs_of x k)
  can_analyse k lt =
      analysable (word_at x.input.code.images)
      (plan_of (system_of x.input.set x.input.code) k) (graphs_of x k) I.words (built_of x are k lt)
      (I.bounded k (record { entry = 0; stack = 0; global = 0; loops = [] })
      (let e = I.plans in omega (arith, e, lt)))
      (few_nodes k lt)

  -- ---- the analysis, by any demand

  module _ (demands : TaskSet → Demands) (agree : AllAgree x.input.set (demands x.input.set))
      (file : List ℕ) where
    analysis_ends : HasEnd (AnalysisBy demands file x)
    analysis_ends = λ none.
        a_certificate_exists x.input.set (demands x.input.set) (graphs_of x) I.ranges can_analyse
        agree (by none)
      where
        by : ((r : Result Answer Halt) × AnalysisBy demands file x r → ⊥)
            → (r : Result Certificate BuildError)
            → IsBuildEnd x.input.set (demands x.input.set) (graphs_of x) r → ⊥
        by none (Ok c) end =
            none (Ok (certificate_answer c), inl (c, record { is = end.0; ranges = end.1 }, refl))
        by none (Err e) end =
            none (without_certificate file x.input.set e, inr (e, end.0, end.1, refl))

  pub refined_ends : HasEnd (RefinedOf x)
  refined_ends = λ none.
      a_refinement_exists x.input.set (graphs_of x) I.ranges can_analyse (by none)
    where
      by : ((r : Result Answer Halt) × RefinedOf x r → ⊥)
          → (r : Result (List RefinedTask) RefineError)
          → IsRefineEnd x.input.set (graphs_of x) r → ⊥
      by none (Ok tasks) end =
          none (Ok (refined_answer x.input.set tasks), inl (tasks, end, refl))
      by none (Err e) end = none (without_windows x.input.set e, inr (e, end.0, end.1, refl))

  slack_ends : HasEnd (SlackOf x)
  slack_ends = λ none.
      slacks_exist x.input.set (graphs_of x) I.ranges can_analyse
      (λ first second a b. none (
        Ok (slack_answer x.input.set first second),
        (first, second, record { by_switch = a; by_miss = b }, refl),
      ))

  verdict_ends : (c : Certificate) → HasEnd (VerdictOf x c)
  verdict_ends c = λ none.
      a_verdict_exists x.input.set (graphs_of x) c
      (λ v judged. none (Ok (verdict_answer x.input.set c v), (v, judged, refl)))

  -- ---- the account of a run

  module _ (contents : Contents) (script : List ℕ) (c : Certificate)
      (given : Script) (scripted : script_in contents script x.input.set ≡ Ok given) where
    account_ends : IsJudged x.input.set (graphs_of x) c Yes → HasEnd (AccountOf x c given)
    account_ends judged = λ none.
        let named = script_named contents script x.input.set given scripted in
        let start = start_of_script x.input.set x.input.code given in
        an_account_exists start (graphs_of x) c given.cycles
        (cached x c given I are named judged) (graphs_here x c given I are named judged)
        (λ j h. yes_meets_listing x.input.set (graphs_of x) c _ judged
        (below x c given I are named judged j h))
        (λ account a. line_ends x.input.set given (run_of x.input given) (λ last.
        none (
          Ok (account_answer x.input.set c account last.0),
          (account, last.0, a, last.1, refl),
        )))

    explanation_ends : HasEnd (ExplanationOf x c given)
    explanation_ends = λ none. a_verdict_exists x.input.set (graphs_of x) c (by none)
      where
        by : ((r : Result Answer Halt) × ExplanationOf x c given r → ⊥) → (v : Verdict)
            → IsJudged x.input.set (graphs_of x) c (answer_of v) → ⊥
        by none verdict.Yes judged =
            account_ends judged (λ r. none (r.0, (verdict.Yes, judged, r.1)))
        by none (verdict.No task clause place) judged =
            none (
              Ok (verdict_answer x.input.set c (verdict.No task clause place)),
              (verdict.No task clause place, judged, refl),
            )

  -- ---- a generated set

  generated_ends : (n : ℕ) (given : Script) → HasEnd (GeneratedOf n given x)
  generated_ends n given = λ none.
      a_certificate_exists x.input.set (demand x.input.set) (graphs_of x) I.ranges can_analyse
      (multiset_agree x.input.set (has_times x.input.set I.ranges)) (by none)
    where
      by : ((r : Result Answer Halt) × GeneratedOf n given x r → ⊥)
          → (r : Result Certificate BuildError)
          → IsBuildEnd x.input.set (demand x.input.set) (graphs_of x) r → ⊥
      by none (Ok c) end =
          a_verdict_exists x.input.set (graphs_of x) c (λ v judged.
          a_test (IsKept (run_of x.input given)) (λ kept.
          none (
            Ok (made_answer n given x c v kept.0),
            inl (
              c,
              v,
              kept.0,
              record {
                best = end.0;
                few = end.1.entries;
                judged = judged;
                kept_so = kept.1;
              },
              refl,
            ),
          )))
      by none (Err e) end = none (without_made n x e, inr (e, end.0, end.1, refl))

-- ---- an update

module _ (old : SetWithShapes) (c : Certificate) (C : IsCertificate c) (new : SetWithShapes)
    (I : IsInput new.input) (are : ShapedFrom new.input (Ok new)) (file : List ℕ) where
  change_ends : IsJudged old.input.set (graphs_of old) c Yes → HasEnd (ChangeOf file old c new)
  change_ends judged = λ none.
      an_update_exists (shaped_side old) c (shaped_side new) I.ranges (can_analyse new I are) C
      (λ k lt. judged k TaskClause lt) (by none)
    where
      by : ((r : Result Answer Halt) × ChangeOf file old c new r → ⊥)
          → (r : Result Certificate BuildError)
          → IsMadeOrNot (shaped_side old) c (shaped_side new) r → ⊥
      by none (Ok d) end =
          none (Ok (certificate_answer d), inl (d, record { update = end.0; ranges = end.1 }, refl))
      by none (Err e) end =
          none (
            without_certificate file new.input.set e,
            inr (e, end.0, end.1, refl),
          )

  update_ends : HasEnd (UpdateOf file old c new)
  update_ends = λ none. a_verdict_exists old.input.set (graphs_of old) c (by none)
    where
      by : ((r : Result Answer Halt) × UpdateOf file old c new r → ⊥) → (v : Verdict)
          → IsJudged old.input.set (graphs_of old) c (answer_of v) → ⊥
      by none verdict.Yes judged = change_ends judged (λ r. none (r.0, inr (judged, r.1)))
      by none (verdict.No task clause place) judged =
          none (
            Ok (verdict_answer old.input.set c (verdict.No task clause place)),
            inl (task, clause, place, judged, refl),
          )

-- ---- the sets of a set's tasks

module _ (input : SetWithCode) (I : IsPlatform input.set.platform) (graphs : List CodeGraph) where
  abbrev IsPartAt : ℕ → Part → Type 0
  IsPartAt k part =
      (g : CodeGraph) → slice_get graphs k ≡ Some g → HasEcbAndUcb input.set.platform g part

  a_part : (g : CodeGraph) → NotNot ((part : Part) × HasEcbAndUcb input.set.platform g part)
  a_part g = λ none.
      a_set (IsEcb (graph_of g) (accesses input.set.platform (places_of g).address))
      (ecb_low input.set.platform I (places_of g).address (graph_of g)) (λ evicting.
      a_set (IsUcb (graph_of g) (accesses input.set.platform (places_of g).address))
      (ucb_low input.set.platform I (places_of g).address (graph_of g)) (λ useful.
      none (
        record { bound = 0; evicting = evicting.0; useful = useful.0 },
        record {
          bound = refl;
          evicting = evicting.1.numbers;
          useful = useful.1.numbers;
        },
      )))

  text_ends : HasEnd (TextOf input graphs)
  text_ends = λ none.
      a_list IsPartAt (length graphs) (λ k lt missing.
      let g = some_at graphs k lt in
      a_part g.0 (λ part. missing (
        part.0,
        λ h e.
            subst (λ z. HasEcbAndUcb input.set.platform z part.0)
            (same_Some g.0 h (sym g.1 ∙ e)) part.1,
      )))
      (λ parts. none (
        _,
        (
          parts.0,
          record {
            count = parts.1.count;
            each = λ k g part e at. parts.1.each k part at g e;
          },
          refl,
        ),
      ))

-- ---- the commands

module _ (given : Result SetWithCode Halt)
    (good : (input : SetWithCode) → given ≡ Ok input → IsInput input) where
  shaped_ends : HasEnd (Then (Exactly given) ShapedFrom)
  shaped_ends =
      then_ends (Exactly given) ShapedFrom (exactly_ends given)
      (λ input e. step_ends shape_halt (ShapesOf input) (shapes_end input (good input e)))

  -- what follows the shapes of a set ends
  behind : (next : SetWithShapes → Result Answer Halt → Type 0)
      → ((x : SetWithShapes) → IsInput x.input → ShapedFrom x.input (Ok x) → HasEnd (next x))
      → HasEnd (Then (Then (Exactly given) ShapedFrom) next)
  behind next ends =
      then_ends (Then (Exactly given) ShapedFrom) next shaped_ends
      (λ x h. let read = read_from given x h in
      ends x (good x.input read.input_is) read.shapes_are)

module _ (contents : Contents) where
  check_ends : (set certificate : List ℕ) → HasEnd (CheckEnds contents set certificate)
  check_ends set certificate =
      behind (input_in contents set) (input_good contents set)
      (CheckFromShapes contents certificate)
      (λ x I are. then_ends (Exactly (certificate_in contents certificate)) (VerdictOf x)
      (exactly_ends (certificate_in contents certificate)) (λ c e. verdict_ends x I are c))

  simulate_ends : (set script : List ℕ) → HasEnd (SimulateEnds contents set script)
  simulate_ends set script =
      then_ends (Exactly (input_in contents set))
      (λ input. Then (Exactly (script_in contents script input.set)) (ReportOf input))
      (exactly_ends (input_in contents set))
      (λ input e. then_ends (Exactly (script_in contents script input.set)) (ReportOf input)
      (exactly_ends (script_in contents script input.set))
      (λ given f. report input given))
    where
      report : (input : SetWithCode) (given : Script) → HasEnd (ReportOf input given)
      report input given = λ none.
          line_ends input.set given (run_of input given)
          (λ last. none (_, (last.0, last.1, refl)))

  sets_ends : (set : List ℕ) → HasEnd (SetsEnds contents set)
  sets_ends set =
      then_ends (Exactly (input_in contents set)) (λ input. Then (GraphsFrom input) (TextOf input))
      (exactly_ends (input_in contents set))
      (λ input e. then_ends (GraphsFrom input) (TextOf input)
      (step_ends shape_halt (GraphsOf input) (graphs_end input (input_good contents set input e)))
      (λ graphs G. text_ends input (input_good contents set input e).ranges.platform graphs))

  update_command : (old_set old_certificate new_set : List ℕ)
      → HasEnd (UpdateEnds contents old_set old_certificate new_set)
  update_command old_set old_certificate new_set =
      behind (input_in contents old_set) (input_good contents old_set)
      (UpdateFromShapes contents old_certificate new_set)
      (λ old I are. then_ends (Exactly (certificate_in contents old_certificate))
      (UpdateFromCertificate contents new_set old)
      (exactly_ends (certificate_in contents old_certificate))
      (λ c e. behind (input_in contents new_set) (input_good contents new_set)
      (UpdateOf new_set old c)
      (λ new J be. update_ends old c (certificate_good contents old_certificate c e) new J be
      new_set)))

  explain_ends : (set certificate script : List ℕ)
      → HasEnd (ExplainEnds contents set certificate script)
  explain_ends set certificate script =
      behind (input_in contents set) (input_good contents set)
      (ExplainFromShapes contents certificate script)
      (λ x I are. then_ends (Exactly (certificate_in contents certificate))
      (ExplainFromCertificate contents script x)
      (exactly_ends (certificate_in contents certificate))
      (λ c e. then_ends (Exactly (script_in contents script x.input.set)) (ExplanationOf x c)
      (exactly_ends (script_in contents script x.input.set))
      (λ given f. explanation_ends x I are contents script c given f)))

  command_ends : (command : Command) → HasEnd (Ends command contents)
  command_ends (check set certificate) = check_ends set certificate
  command_ends (list set name) = exactly_ends (list_of contents set name)
  command_ends (simulate set script) = simulate_ends set script
  command_ends (sets set) = sets_ends set
  command_ends (analyze set) =
      behind (input_in contents set) (input_good contents set) (AnalysisBy demand set)
      (λ x I are. analysis_ends x I are demand
      (multiset_agree x.input.set (has_times x.input.set I.ranges)) set)
  command_ends (classic set) =
      behind (input_in contents set) (input_good contents set) (AnalysisBy classic_demands set)
      (λ x I are. analysis_ends x I are classic_demands (demands_agree x.input.set) set)
  command_ends (slack set) =
      behind (input_in contents set) (input_good contents set) SlackOf
      (λ x I are. slack_ends x I are)
  command_ends (refine set) =
      behind (input_in contents set) (input_good contents set) RefinedOf
      (λ x I are. refined_ends x I are)
  command_ends (update old_set old_certificate new_set) =
      update_command old_set old_certificate new_set
  command_ends (generate n) =
      behind (input_of (made n).set (made n).files) (made_good n) (GeneratedOf n (made n).script)
      (λ x I are. generated_ends x I are n (made n).script)
  command_ends (explain set certificate script) = explain_ends set certificate script

  output_for : (o : Option Command)
      → NotNot ((output : Output)
      × MatchOption o (output ≡ bad_words) (λ command. IsOutputOf contents command output))
  output_for None = λ none. none (bad_words, refl)
  output_for (Some command) = λ none.
      command_ends command (λ r. none (ending_output r.0, (r.0, r.1, refl)))

pub an_output_exists : AnOutputExists
unfolding IsOut
an_output_exists words contents none =
    output_for contents (command_of words) (λ r. none r.0 r.1)
