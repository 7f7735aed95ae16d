-- What the checker's yes gives for an account of a script's run, and the text of one.
use Rattle.std.proofs.Common.{◌≡◌, ◌-◌, ◌<◌, ◌≤◌, length, Ok, Some, sym, ◌∙◌}
use Rattle.std.proofs.Common.{subst, arith}
use Rattle.std.proofs.lemmas.Option.{get_or_from_slice_get}
use Rattle.std.proofs.lemmas.List.Elements.{All-get_or}
use Rattle.crpd_base.proofs.Elements.{some_at}
use Rattle.crpd_base.specs.declared.data.Certificate.{Certificate}
use Rattle.crpd_base.specs.declared.data.TaskPlan.{TaskPlan}
use Rattle.crpd_base.specs.Ranges.{IsTaskSet}
use Rattle.flat_graph.specs.CodeGraph.{IsCodeGraph, no_graph, graph_at}
use Rattle.loop_regions.specs.TaskSteps.{words_of}
use Rattle.evict_sets.specs.ListedPart.{no_task_part}
use Rattle.evict_sets.specs.Listing.{HasLowSets}
use Rattle.crpd_tool.specs.Shaped.{graphs_of}
use Rattle.cert_check.specs.declared.outcome.Clause.TheVariants.{Deadline, HasTask, Last, Response}
use Rattle.cert_check.specs.Verdict.{IsJudged, Yes}
use Rattle.cert_check.proofs.Clauses.{yes_meets_listing}
use Rattle.crpd_base.specs.CertificateRanges.{IsCertificate}
use Rattle.run_account.specs.AccountGraphs.{AreGraphsOf, TasksAreMet}
use Rattle.task_shapes.specs.Shapes.{SetWithShapes}
use Rattle.task_shapes.specs.Graphs.{GraphsOf}
use Rattle.cert_check.proofs.InRange.{in_range}
use Rattle.crpd_report.specs.Explain.{HasWindowOfEach}

same_plan : (p q : TaskPlan) → Some p ≡ Some q → p ≡ q
same_plan p q e = cc

-- the graphs of a set with its shapes are the flat graphs of the tasks' code
pub graphs_met : (shaped : SetWithShapes) → GraphsOf shaped.input (Ok shaped.graphs)
    → AreGraphsOf shaped.input.code shaped.input.set shaped.graphs
graphs_met shaped found =
    record {
      all = found.0;
      each = λ i lt plan at.
          let g = some_at shaped.graphs i (omega (arith, lt, found.0)) in
          let made = found.1 i g.0 g.1 in
          let graph : graph_at shaped.graphs i ≡ g.0 =
          get_or_from_slice_get shaped.graphs i g.0 no_graph g.1 in
          let of_code = subst (λ x. IsCodeGraph (words_of shaped.input.code) made.0.entry x)
          (sym graph) made.2.0 in
          subst (λ (p : TaskPlan).
          IsCodeGraph (words_of shaped.input.code) p.entry (graph_at shaped.graphs i))
          (same_plan made.0 plan (sym made.1 ∙ at)) of_code;
    }

module _ (shaped : SetWithShapes) (c : Certificate)
    (judged : IsJudged shaped.input.set (graphs_of shaped) c Yes) where
  -- what an account requires of each task
  pub tasks_met : IsCertificate c → TasksAreMet shaped.input.set shaped.graphs c
  tasks_met is i lt =
      let has : i < length c.tasks = judged i HasTask lt in
      record {
        has_task = has;
        low_sets = All-get_or HasLowSets c.tasks i no_task_part has (in_range c is).sets;
        listing = yes_meets_listing shaped.input.set (graphs_of shaped) c i judged lt;
      }

  -- there is a window for each task, within its deadline
  pub windows_met : IsTaskSet shaped.input.set → HasWindowOfEach shaped.input.set c
  windows_met is =
      let some : 1 ≤ length shaped.input.set.tasks = is.some in
      record {
        tasks = judged (length shaped.input.set.tasks - 1) Last (omega arith) (omega arith);
        in_deadline = λ k lt.
            let response = judged k Response lt in
            let deadline = judged k Deadline lt in
            omega (arith, response, deadline);
      }
