-- A generated input has one end, for all regions of the same loops.
use Rattle.std.proofs.Common.{◌≡◌, ℕ, ◌<◌, Bool, List, length, Result, Ok, Err, sym, ap, subst, ◌∙◌}
use Rattle.std.proofs.Common.{inl, inr}
use Rattle.std.proofs.lemmas.Bool.Decides.{same_from_decides}
use Rattle.crpd_base.specs.declared.data.Certificate.{Certificate}
use Rattle.crpd_base.specs.declared.data.Script.{Script}
use Rattle.crpd_base.specs.Tasks.{HasTimes}
use Rattle.crpd_base.proofs.Results.{ok_is, ok_not_err}
use Rattle.flat_graph.specs.CodeGraph.{graph_of, graph_at}
use Rattle.flat_graph.specs.Graph.{IsGraph}
use Rattle.loop_regions.specs.CodeNest.{CodeNest}
use Rattle.delay_count.specs.Demand.{demand}
use Rattle.cert_build.specs.declared.error.BuildError.{BuildError}
use Rattle.cert_build.proofs.Choices.{multiset_above, multiset_agree}
use Rattle.cert_build.proofs.OneBuild.{IsBuilt}
use Rattle.cert_check.specs.FirstFailing.{answer_of}
use Rattle.crpd_tool.specs.Shaped.{graphs_of}
use Rattle.cert_check.specs.Verdict.{IsJudged}
use Rattle.cert_check.specs.declared.outcome.Verdict.{Verdict}
use Rattle.preempt_machine.specs.Safe.{IsKept}
use Rattle.crpd_tool.specs.declared.answer.Answer.{Answer}
use Rattle.crpd_input.specs.declared.halt.Halt.{Halt}
use Rattle.task_shapes.specs.Shapes.{SetWithShapes}
use Rattle.cert_check.proofs.Alike.{AllAlike, judged_too}
use Rattle.cert_check.proofs.OneAnswer.{one_verdict}
use Rattle.crpd_tool.specs.Generate.{GeneratedOf, IsRunJudged, made_answer, without_made}
use Rattle.crpd_tool.specs.Simulate.{run_of}
use Rattle.crpd_tool.proofs.OneMade.{built_once, with_nests}

err_is : {A E : Type 0} (d e : E) → ◌≡◌ {A = Result A E} (Err d) (Err e) → d ≡ e
err_is d e same = cc

module _ (n : ℕ) (script : Script) (x : SetWithShapes) (ms : List CodeNest)
    (times : HasTimes x.input.set)
    (G : (k : ℕ) → k < length x.input.set.tasks → IsGraph (graph_of (graph_at x.graphs k)))
    (same : AllAlike x.input.set x.nests ms) where
  abbrev y : SetWithShapes
  y = with_nests x ms

  same_built : (o p : Result Certificate BuildError)
      → IsBuilt x.input.set (demand x.input.set) (graphs_of x) o
      → IsBuilt x.input.set (demand x.input.set) (graphs_of y) p → o ≡ p
  same_built =
      built_once x.input.set (demand x.input.set) x.graphs x.nests ms times G same
      (multiset_agree x.input.set times) (multiset_above x.input.set)

  one_certificate : (c d : Certificate) (v w : Verdict) (k l : Bool)
      → IsRunJudged script x c v k → IsRunJudged script y d w l → c ≡ d
  one_certificate c d v w k l M N =
      ok_is c d (same_built (Ok c) (Ok d) (M.best, M.few) (N.best, N.few))

  same_verdict : (c d : Certificate) (v w : Verdict) (k l : Bool)
      → IsRunJudged script x c v k → IsRunJudged script y d w l → v ≡ w
  same_verdict c d v w k l M N =
      let judged : IsJudged x.input.set (graphs_of x) d (answer_of v) =
      subst (λ e. IsJudged x.input.set (graphs_of x) e (answer_of v))
      (one_certificate c d v w k l M N) M.judged in
      one_verdict x.input.set (graphs_of y) d v w
      (judged_too x.input.set x.graphs d x.nests ms same (answer_of v) judged) N.judged

  same_answer : (c d : Certificate) (v w : Verdict) (k l : Bool) → c ≡ d → v ≡ w → k ≡ l
      → ◌≡◌ {A = Result Answer Halt} (Ok (made_answer n script x c v k))
      (Ok (made_answer n script y d w l))
  same_answer c d v w k l e f g =
      ap (λ z. Ok (made_answer n script x z v k)) e ∙ ap (λ z. Ok (made_answer n script x d z k)) f
      ∙ ap (λ z. Ok (made_answer n script x d w z)) g

  pub one_generated : (r s : Result Answer Halt) → GeneratedOf n script x r
      → GeneratedOf n script y s → r ≡ s
  one_generated r s (inl (c, v, k, M, e)) (inl (d, w, l, N, f)) =
      let kept : k ≡ l = same_from_decides {P = IsKept (run_of x.input script)} k l M.kept_so
      N.kept_so in
      e ∙ same_answer c d v w k l (one_certificate c d v w k l M N) (same_verdict c d v w k l M N)
      kept ∙ sym f
  one_generated r s (inl (c, v, k, M, e)) (inr b) =
      absurd (ok_not_err c b.0
      (same_built (Ok c) (Err b.0) (M.best, M.few) (b.1, b.2)))
  one_generated r s (inr a) (inl (d, w, l, N, f)) =
      absurd (ok_not_err d a.0
      (sym (same_built (Err a.0) (Ok d) (a.1, a.2) (N.best, N.few))))
  one_generated r s (inr a) (inr b) =
      let e : a.0 ≡ b.0 = err_is a.0 b.0 (same_built (Err a.0) (Err b.0) (a.1, a.2) (b.1, b.2)) in
      a.3 ∙ ap (without_made n y) e ∙ sym b.3
