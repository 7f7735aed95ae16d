-- Acceptance and the analysis' certificate of a set.
use Rattle.std.specs.Prelude.{◌≡◌, ℕ, ◌<◌, length}
use Rattle.crpd_base.specs.Ranges.{IsTaskSet}
use Rattle.crpd_base.specs.Tasks.{HasTimes}
use Rattle.crpd_base.specs.declared.data.Certificate.{Certificate}
use Rattle.crpd_base.specs.declared.data.TaskSet.{TaskSet}
use Rattle.loop_regions.specs.TaskGraph.{TaskGraph}
use Rattle.response.specs.Windows.{chosen_window}
use Rattle.cert_check.specs.JudgeInput.{window_at}
use Rattle.cert_build.specs.AnalysisEnds.{IsAnalysable}
use Rattle.cert_build.specs.Best.{IsBest}
use Rattle.cert_build.specs.Certify.{IsBuildError}
use Rattle.cert_build.specs.declared.error.BuildError.{BuildError}
use Rattle.cert_build.specs.declared.error.BuildError.TheVariants.{Memory, TooLarge, TooManyEntries}
use Rattle.cert_build.specs.declared.error.BuildError.TheVariants.{Unschedulable}
use Rattle.sensitivity.specs.Accepted.{IsAccepted}
use Rattle.sensitivity.specs.Laws.{IsLoopBounded}

-- a set is accepted if there is the analysis' certificate of it, of any number of state entries
abbrev pub CertifiedIsAccepted : Type 0
CertifiedIsAccepted =
    (set : TaskSet) (graphs : ℕ → TaskGraph) (c : Certificate) → HasTimes set →
    IsBest set graphs c → IsAccepted set graphs

-- and if it is accepted, it cannot be refuted that there is one, with the same windows
abbrev pub AcceptedIsCertified : Type 0
AcceptedIsCertified =
    (set : TaskSet) (graphs : ℕ → TaskGraph) → IsTaskSet set
    → ((k : ℕ) → k < length set.tasks → IsAnalysable (graphs k)) → (a : IsAccepted set graphs)
    → ((c : Certificate) → IsBest set graphs c
    → ((k : ℕ) → k < length set.tasks → window_at c k ≡ chosen_window a.choices k) → ⊥) → ⊥

-- an error that says nothing of bounds and windows: out of memory, or too many state entries
abbrev pub IsSizeError : BuildError → Type 0
IsSizeError Memory = Unit {0}
IsSizeError (TooManyEntries n) = Unit {0}
IsSizeError (TooLarge t address) = ⊥
IsSizeError (Unschedulable t) = ⊥

-- the analysis of an accepted set fails by such an error alone
abbrev pub AcceptedIsNotRefused : Type 0
AcceptedIsNotRefused =
    (set : TaskSet) (graphs : ℕ → TaskGraph) (e : BuildError) → HasTimes set
    → ((k : ℕ) → k < length set.tasks → IsLoopBounded (graphs k)) →
    IsAccepted set graphs → IsBuildError set graphs e → IsSizeError e
