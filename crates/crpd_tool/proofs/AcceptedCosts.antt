-- What `analyze` says of a set with other costs is what its acceptance says.
use Rattle.std.proofs.Common.{◌≡◌, ◌≢◌, ◌⊎◌, ℕ, ◌<◌, ◌≤◌, List, length, Option, Some, None}
use Rattle.std.proofs.Common.{Result, Ok, refl, sym, ap, ◌∙◌, subst, inl, inr}
use Rattle.std.proofs.Common.{arith}
use Rattle.crpd_base.proofs.Times.{has_times}
use Rattle.crpd_base.specs.Limits.{most_cost}
use Rattle.crpd_base.specs.Ranges.{IsTaskSet}
use Rattle.crpd_base.specs.Tasks.{HasTimes}
use Rattle.crpd_base.specs.declared.data.TaskSet.{TaskSet}
use Rattle.delay_count.specs.Demand.{demand}
use Rattle.loop_regions.specs.CodeNest.{CodeNest}
use Rattle.loop_regions.specs.TaskGraphs.{task_graph_at}
use Rattle.cert_build.proofs.Alike.{refused_too}
use Rattle.cert_build.proofs.Judged.{best_is_judged}
use Rattle.cert_build.specs.Certify.{IsRefusedBy}
use Rattle.cert_build.specs.declared.error.BuildError.{BuildError}
use Rattle.cert_build.specs.declared.error.BuildError.TheVariants.{Memory, TooLarge, TooManyEntries}
use Rattle.cert_build.specs.declared.error.BuildError.TheVariants.{Unschedulable}
use Rattle.cert_check.proofs.Alike.{AllAlike, all_turned}
use Rattle.preempt_machine.specs.Safe.{IsSafeWith}
use Rattle.sensitivity.proofs.AnyRegions.{accepted_too, loop_bounded}
use Rattle.sensitivity.proofs.Certified.{accepted_is_certified, accepted_is_not_refused}
use Rattle.sensitivity.proofs.Certified.{certified_is_accepted}
use Rattle.sensitivity.proofs.Compared.{times_with}
use Rattle.sensitivity.proofs.Responses.{all_responses, in_deadlines, responses_count}
use Rattle.sensitivity.proofs.Responses.{same_responses}
use Rattle.sensitivity.specs.Accepted.{IsAccepted}
use Rattle.sensitivity.specs.Certified.{IsSizeError}
use Rattle.sensitivity.specs.Costs.{with_costs}
use Rattle.sensitivity.specs.Laws.{IsLoopBounded}
use Rattle.sensitivity.specs.Slack.{IsGreatest}
use Rattle.sound_laws.specs.Headline.{CheckedCodeIsSafe}
use Rattle.task_shapes.proofs.OneShape.{shapes_parts}
use Rattle.task_shapes.specs.Inputs.{IsInput, SetWithCode}
use Rattle.task_shapes.specs.Shapes.{SetWithShapes}
use Rattle.crpd_io.specs.Outside.{Contents}
use Rattle.crpd_input.proofs.Given.{input_good}
use Rattle.crpd_input.proofs.ShapeSteps.{shaped_in_once}
use Rattle.crpd_input.specs.Reading.{input_in}
use Rattle.crpd_input.specs.Shapes.{ShapedFrom}
use Rattle.crpd_input.specs.declared.halt.Halt.{Halt}
use Rattle.crpd_tool.proofs.AnalyzeLaw.{made}
use Rattle.crpd_tool.proofs.Finish.{some-out}
use Rattle.crpd_tool.proofs.OneMade.{with_nests}
use Rattle.crpd_tool.proofs.ReadSet.{built_of, read_from}
use Rattle.crpd_tool.proofs.SameShapes.{same_shapes}
use Rattle.crpd_tool.proofs.SomeOutput.{can_analyse}
use Rattle.crpd_tool.specs.AcceptedCosts.{IsAcceptedByAnalyze, IsEntriesRefusal}
use Rattle.crpd_tool.specs.AcceptedCosts.{IsGreatestByAnalyze, IsRejectedByAnalyze, IsSchedulable}
use Rattle.crpd_tool.specs.AcceptedCosts.{with_set}
use Rattle.crpd_tool.specs.Analyze.{AnalysisOf, AnalyzeEnds, without_certificate}
use Rattle.crpd_tool.specs.Commands.{analyze}
use Rattle.crpd_tool.specs.Output.{Output, ending_output}
use Rattle.crpd_tool.specs.Shaped.{graphs_of}
use Rattle.crpd_tool.specs.declared.answer.Answer.{Answer}
use Rattle.crpd_tool.specs.declared.status.Status.TheVariants.{Done}

-- a set with its shapes, and other costs of a switch and of a reload
module _ (x : SetWithShapes) (I : IsInput x.input) (are : ShapedFrom x.input (Ok x)) (s m : ℕ) where
  abbrev changed : TaskSet
  changed = with_costs x.input.set s m

  abbrev changed_input : SetWithCode
  changed_input = with_set x.input changed

  abbrev changed_shapes : SetWithShapes
  changed_shapes = record { input = changed_input; graphs = x.graphs; nests = x.nests }

  -- graphs and regions do not depend on the costs
  shapes : ShapedFrom changed_input (Ok changed_shapes)
  shapes =
      let parts = shapes_parts x.input x are in
      inl (x.graphs, parts.graphs, inl (x.nests, parts.regions, refl))

  times : HasTimes changed
  times = times_with x.input.set s m (has_times x.input.set I.ranges)

  bounded : (k : ℕ) → k < length changed.tasks → IsLoopBounded (graphs_of x k)
  bounded k lt = loop_bounded _ _ (graphs_of x k) (built_of x are k lt)

  -- ---- outputs of `analyze`

  -- an end of `analyze`, over some regions of the stated loops
  record IsAnalysisEnd (file : List ℕ) (ending : Result Answer Halt) : Type 0 where
    nests : List CodeNest
    alike : AllAlike changed x.nests nests
    analysis : AnalysisOf file (with_nests changed_shapes nests) ending

  ended : (contents : Contents) (file : List ℕ) (ending : Result Answer Halt)
      → input_in contents file ≡ Ok changed_input → AnalyzeEnds contents file ending
      → IsAnalysisEnd file ending
  ended contents file ending means (inl (z, read, analysis)) =
      let given = input_in contents file in
      let same = same_shapes given changed_shapes z
      (record { input_is = means; shapes_are = shapes }) (read_from given z read) in
      record {
        nests = z.nests;
        alike = same.alike;
        analysis = subst (λ v. AnalysisOf file v ending) same.is analysis;
      }
  ended contents file ending means (inr (halt, stops, is)) =
      absurd ((shaped_in_once contents file).exclusive changed_shapes halt
      (inl (changed_input, means, shapes)) stops)

  -- a certificate is of an accepted set
  done_accepted : (file : List ℕ) (ending : Result Answer Halt) → IsAnalysisEnd file ending
      → (ending_output ending).status ≡ Done → IsAccepted changed (graphs_of x)
  done_accepted file ending E done =
      let c = made demand file (with_nests changed_shapes E.nests) ending E.analysis done in
      accepted_too changed x.graphs E.nests x.nests (all_turned changed x.nests E.nests E.alike)
      (certified_is_accepted changed (task_graph_at x.graphs E.nests) c.0 times c.1.is)

  pub rejected : (IsTaskSet changed → IsAccepted changed (graphs_of x) → ⊥)
      → IsRejectedByAnalyze changed_input
  rejected never words contents file output command means out done =
      let given = some-out words contents (analyze file) output command out in
      never (input_good contents file changed_input means).ranges
      (done_accepted file given.0 (ended contents file given.0 means given.1)
      (ap (λ (o : Output). o.status) (sym given.2) ∙ done))

  module _ (a : IsAccepted changed (graphs_of x)) where
    by_error : (file : List ℕ) (ending : Result Answer Halt) (e : BuildError) → e ≢ Memory
        → IsSizeError e → IsRefusedBy changed (demand changed) (graphs_of x) e
        → ending ≡ without_certificate file changed e → IsEntriesRefusal file (ending_output ending)
    by_error file ending Memory ne size R is = absurd (ne refl)
    by_error file ending (TooManyEntries n) ne size R is = (n, R.3, ap ending_output is)
    by_error file ending (TooLarge t address) ne size R is = absurd size
    by_error file ending (Unschedulable t) ne size R is = absurd size

    by_end : (file : List ℕ) (ending : Result Answer Halt) (nests : List CodeNest)
        → AllAlike changed x.nests nests → AnalysisOf file (with_nests changed_shapes nests) ending
        → ((ending_output ending).status ≡ Done) ⊎ IsEntriesRefusal file (ending_output ending)
    by_end file ending nests same (inl found) =
        inl (ap (λ (r : Result Answer Halt). (ending_output r).status) found.2)
    by_end file ending nests same (inr (e, ne, R, is)) =
        let T = refused_too changed x.graphs nests x.nests (all_turned changed x.nests nests same)
        (demand changed) e R in
        inr (by_error file ending e ne
        (accepted_is_not_refused changed (graphs_of x) e times bounded a T) T is)

    pub accepted : IsAcceptedByAnalyze changed_input
    accepted words contents file output command means out =
        let given = some-out words contents (analyze file) output command out in
        let E = ended contents file given.0 means given.1 in
        subst (λ (o : Output). (o.status ≡ Done) ⊎ IsEntriesRefusal file o) (sym given.2)
        (by_end file given.0 E.nests E.alike E.analysis)

    -- ---- runs

    module _ (S : IsTaskSet changed) (safe_law : CheckedCodeIsSafe) where
      -- that no job is late is a negation: what cannot be refuted is enough
      safe : IsSafeWith changed x.input.code (all_responses changed (graphs_of x) a)
      safe start n same run kept j d lt late =
          accepted_is_certified changed (graphs_of x) S (can_analyse x I are) a (λ c best windows.
          subst (IsSafeWith changed x.input.code)
          (same_responses changed (graphs_of x) a c best windows)
          (safe_law changed x.input.code (graphs_of x) c (record {
            ranges = S;
            words = I.words;
            graphs_of = built_of x are;
            says = best_is_judged changed (graphs_of x) c
                (λ k l. (built_of x are k l).follows.graph) best;
          })) start n same run kept j d lt late)

      pub schedulable : IsSchedulable changed_input
      schedulable = record {
        responses = all_responses changed (graphs_of x) a;
        count = responses_count changed (graphs_of x) a;
        in_deadline = in_deadlines changed (graphs_of x) a;
        safe = safe;
      }

-- the costs of a switch and of a reload, one of which varies
module _ (safe_law : CheckedCodeIsSafe) (x : SetWithShapes) (I : IsInput x.input)
    (are : ShapedFrom x.input (Ok x)) (s m : ℕ → ℕ) where
  abbrev at : ℕ → TaskSet
  at c = with_costs x.input.set (s c) (m c)

  module _ (ranged : (c : ℕ) → c ≤ most_cost → IsTaskSet (at c))
      (within : (c : ℕ) → IsTaskSet (at c) → c ≤ most_cost) where
    pub by_analyze : (greatest : Option ℕ) → IsGreatest at (graphs_of x) greatest
        → IsGreatestByAnalyze (λ c. with_set x.input (at c)) greatest
    by_analyze None R = record {
      accepted = λ c none. absurd none;
      schedulable = λ c none. absurd none;
      rejected = λ c more.
          rejected x I are (s c) (m c) (λ S a. R c (omega arith) (within c S) a);
    }
    by_analyze (Some g) (most, accepts, R) = record {
      accepted = λ c le. accepted x I are (s c) (m c) (accepts c le);
      schedulable = λ c le.
          schedulable x I are (s c) (m c) (accepts c le) (ranged c (omega (arith, most, le)))
          safe_law;
      rejected = λ c more.
          rejected x I are (s c) (m c) (λ S a. R c (omega (arith, more)) (within c S) a);
    }
