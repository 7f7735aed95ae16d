-- A certificate and a script have one explanation, for all regions of the same loops.
use Rattle.std.proofs.Common.{◌≡◌, ℕ, List, ◌++◌, map, Result, Ok, sym, ap}
use Rattle.std.proofs.Common.{◌∙◌, subst}
use Rattle.crpd_base.specs.declared.data.Certificate.{Certificate}
use Rattle.crpd_base.specs.declared.data.Script.{Script}
use Rattle.cert_check.specs.FirstFailing.{answer_of}
use Rattle.loop_regions.specs.TaskGraphs.{nest_at, task_graph_at}
use Rattle.cert_check.specs.declared.outcome.Verdict.{Verdict}
use Rattle.cert_check.specs.declared.outcome.Verdict.TheVariants.{Yes, No}
use Rattle.flat_graph.specs.CodeGraph.{CodeGraph}
use Rattle.loop_regions.specs.CodeNest.{CodeNest, nest_of}
use Rattle.preempt_machine.specs.Step.{Start}
use Rattle.run_account.specs.Account.{IsAccount, account_entry}
use Rattle.preempt_machine.specs.Starts.{start_of_script}
use Rattle.run_account.specs.declared.told.Account.{Account}
use Rattle.run_account.specs.declared.told.Entry.{Entry}
use Rattle.run_account.proofs.AnyRegions.{ledger_by}
use Rattle.run_account.proofs.OneLedger.{one_ledger}
use Rattle.crpd_input.specs.declared.halt.Halt.{Halt}
use Rattle.task_shapes.specs.Shapes.{SetWithShapes}
use Rattle.cert_check.proofs.Alike.{AllAlike, judged_too}
use Rattle.cert_check.proofs.OneAnswer.{one_verdict}
use Rattle.crpd_report.specs.Explain.{delay_lines, reload_lines}
use Rattle.crpd_tool.specs.Explain.{AccountOf, ExplainedBy, ExplanationOf}
use Rattle.crpd_tool.specs.Simulate.{run_of}
use Rattle.crpd_tool.specs.declared.answer.Answer.{Answer}
use Rattle.crpd_tool.specs.declared.answer.Outcome.TheVariants.{Done}
use Rattle.crpd_tool.specs.Shaped.{graphs_of}
use Rattle.crpd_tool.proofs.OneMade.{with_nests}
use Rattle.crpd_tool.proofs.SimulateLaw.{one_line}

-- two accounts of a run have the same reloads: a ledger does not depend on regions
module _ (s : Start) (graphs : List CodeGraph) (c : Certificate) (ns ms : List CodeNest) where
  same_entries : (n : ℕ) (a b : Account) → IsAccount s (task_graph_at graphs ns) c n a
      → IsAccount s (task_graph_at graphs ms) c n b → a.entries ≡ b.entries
  same_entries n a b A B =
      A.entries
      ∙ ap (map (account_entry s))
      (one_ledger s (task_graph_at graphs ms) c n A.ledger B.ledger
      (ledger_by s graphs c (λ k. nest_of (nest_at ns k)) (λ k. nest_of (nest_at ms k)) n A.ledger
      A.is_ledger) B.is_ledger)
      ∙ sym B.entries

module _ (x : SetWithShapes) (ms : List CodeNest) (c : Certificate) (script : Script) where
  abbrev y : SetWithShapes
  y = with_nests x ms

  one_account : (r s : Result Answer Halt) → AccountOf x c script r
      → AccountOf y c script s → r ≡ s
  one_account r s a b =
      let input = x.input in
      let text : List Entry → List ℕ → Result Answer Halt = λ entries last.
      Ok (record {
        text = reload_lines input.set entries ++ delay_lines input.set c ++ last;
        outcome = Done;
      }) in
      let entries : a.0.entries ≡ b.0.entries =
      same_entries (start_of_script input.set input.code script) x.graphs c x.nests ms script.cycles
      a.0 b.0 a.2 b.2 in
      let line : a.1 ≡ b.1 = one_line input.set script (run_of input script) a.1 b.1 a.3 b.3 in
      a.4 ∙ ap (λ es. text es a.1) entries ∙ ap (text b.0.entries) line ∙ sym b.4

  one_by : (v : Verdict) (r s : Result Answer Halt) → ExplainedBy x c script v r
      → ExplainedBy y c script v s → r ≡ s
  one_by Yes r s a b = one_account r s a b
  one_by (No task clause place) r s a b = a ∙ sym b

  pub one_explanation : AllAlike x.input.set ms x.nests → (r s : Result Answer Halt)
      → ExplanationOf x c script r → ExplanationOf y c script s → r ≡ s
  one_explanation same r s a b =
      let judged = judged_too x.input.set x.graphs c ms x.nests same (answer_of b.0) b.1 in
      let verdict : a.0 ≡ b.0 = one_verdict x.input.set (graphs_of x) c a.0 b.0
      a.1 judged in
      one_by b.0 r s (subst (λ v. ExplainedBy x c script v r) verdict a.2) b.2
