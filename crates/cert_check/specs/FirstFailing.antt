-- The checker's verdict, as the code returns it.
use Rattle.cert_check.specs.declared.outcome.Verdict.{Verdict}
use Rattle.cert_check.specs.declared.outcome.Verdict.TheVariants as verdict
use Rattle.cert_check.specs.Verdict.{Answer, Yes, No}
use Rattle.std.specs.Prelude.{ℕ}
use Rattle.crpd_base.specs.declared.data.Certificate.{Certificate}
use Rattle.crpd_base.specs.declared.data.TaskSet.{TaskSet}
use Rattle.loop_regions.specs.TaskGraph.{TaskGraph}
use Rattle.cert_check.specs.Verdict.{IsJudged}

-- the verdict that the code's value represents
abbrev pub answer_of : Verdict → Answer
answer_of verdict.Yes = Yes
answer_of (verdict.No task clause place) = No task.0 clause place

-- it cannot be refuted that there is a verdict
abbrev pub AVerdictExists : Type 0
AVerdictExists =
    (set : TaskSet) (graphs : ℕ → TaskGraph) (c : Certificate)
    → ((v : Verdict) → IsJudged set graphs c (answer_of v) → ⊥) → ⊥
