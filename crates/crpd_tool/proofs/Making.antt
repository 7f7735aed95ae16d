-- The answers of commands that make a certificate, compared with what is defined.
use Rattle.std.proofs.Common.{◌≡◌, ◌∙◌, ℕ, List, Result, Ok, Err, MatchResult, IfOk, ap, inl, inr}
use Rattle.std.proofs.Common.{subst, sym}
use Rattle.crpd_base.specs.CertificateRanges.{IsCertificate}
use Rattle.crpd_base.specs.declared.data.Certificate.{Certificate}
use Rattle.crpd_base.specs.declared.data.TaskSet.{TaskSet}
use Rattle.crpd_tool.specs.Shaped.{graphs_of}
use Rattle.cert_build.specs.Best.{Demands, IsAnalysisBy}
use Rattle.cert_build.specs.Certify.{IsRefusedBy}
use Rattle.cert_build.specs.declared.error.BuildError.{BuildError}
use Rattle.crpd_input.specs.declared.halt.Halt.{Halt}
use Rattle.crpd_input.specs.declared.halt.Halt.TheVariants.{Refused, Memory, Fault}
use Rattle.task_shapes.specs.Shapes.{SetWithShapes}
use Rattle.crpd_input.specs.Steps.{Exactly, MeansBy}
use Rattle.crpd_tool.specs.Analyze.{AnalysisBy, certificate_answer, without_certificate}
use Rattle.crpd_tool.specs.Inner.Made.{made_ending}
use Rattle.crpd_tool.specs.declared.answer.Answer.{Answer}

-- an end that is a defined one, unless it is out of memory
pub exactly_meant : (P : Result Answer Halt → Type 0) (m r : Result Answer Halt)
    → MeansBy (Exactly m) r → (m ≡ r → (r ≡ Err Memory → ⊥) → P r) → MeansBy P r
exactly_meant P m (Ok a) is f = f is (λ e. cc)
exactly_meant P m (Err (Refused x)) is f = f is (λ e. cc)
exactly_meant P m (Err Memory) is f = tt
exactly_meant P m (Err Fault) is f = tt

-- an answer that is given, unless out of memory
pub answer_meant : (P : Result Answer Halt → Type 0) (a : Answer) (r : Result Answer Halt)
    → MeansBy (Exactly (Ok a)) r → P (Ok a) → MeansBy P r
answer_meant P a r is p = exactly_meant P (Ok a) r is (λ e free. subst P e p)

-- an end that is another defined one too
pub meant_as : (P Q : Result Answer Halt → Type 0) (r : Result Answer Halt) → MeansBy P r
    → (P r → Q r) → MeansBy Q r
meant_as P Q (Ok a) is f = f is
meant_as P Q (Err (Refused x)) is f = f is
meant_as P Q (Err Memory) is f = tt
meant_as P Q (Err Fault) is f = tt

module _ (demands : TaskSet → Demands) (file : List ℕ) (shaped : SetWithShapes) where
  -- a certificate of the analysis by a demand, or the reason why there is none
  pub analysis_meant : (made : Result Certificate BuildError) (r : Result Answer Halt)
      → MatchResult made
      (IsAnalysisBy shaped.input.set (demands shaped.input.set) (graphs_of shaped))
      (IsRefusedBy shaped.input.set (demands shaped.input.set) (graphs_of shaped))
      → IfOk made IsCertificate → MeansBy (Exactly (made_ending file shaped.input.set made)) r
      → MeansBy (AnalysisBy demands file shaped) r
  analysis_meant (Ok c) r exact ranges meant =
      exactly_meant (AnalysisBy demands file shaped) (Ok (certificate_answer c)) r meant
      (λ is free. inl (c, record { is = exact; ranges = ranges }, sym is))
  analysis_meant (Err e) r exact ranges meant =
      exactly_meant (AnalysisBy demands file shaped)
      (without_certificate file shaped.input.set e) r meant
      (λ is free. inr (
        e,
        λ m. free (sym is ∙ ap (without_certificate file shaped.input.set) m),
        exact,
        sym is,
      ))
