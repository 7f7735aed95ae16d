-- What is no more demanding: the same, two changes in a row, a task left away.
use Rattle.std.specs.Prelude.{ℕ, ◌+◌, ◌<◌, length, nat_lt, if◌then◌else◌, remove}
use Rattle.crpd_base.specs.declared.data.TaskSet.{TaskSet}
use Rattle.sustainability.specs.Workload.{Workload, IsNoMoreDemanding, IsLooser}
use Rattle.sustainability.specs.RefinedWorkload.{RefinedWorkload, IsNoMoreDemandingAtNodes}

-- a workload is no more demanding than itself, so each of its parameters may change alone
abbrev pub NoMoreThanItself : Type 0
NoMoreThanItself =
    ((load : Workload) → IsNoMoreDemanding (λ k. k) load load)
    × ((load : RefinedWorkload) → IsNoMoreDemandingAtNodes (λ k. k) load load)

-- and changes add up
abbrev pub ChangesAddUp : Type 0
ChangesAddUp =
    (first second : ℕ → ℕ) (less middle more : Workload) →
    IsNoMoreDemanding first less middle → IsNoMoreDemanding second middle more
    → IsNoMoreDemanding (λ k. second (first k)) less more

-- also of what each of the five methods counts
abbrev pub RefinedChangesAddUp : Type 0
RefinedChangesAddUp =
    (first second : ℕ → ℕ) (less middle more : RefinedWorkload) →
    IsNoMoreDemandingAtNodes first less middle → IsNoMoreDemandingAtNodes second middle more
    → IsNoMoreDemandingAtNodes (λ k. second (first k)) less more

-- the set without task i
abbrev pub without : TaskSet → ℕ → TaskSet
without set i = record set { tasks = remove set.tasks i }

-- the task from which task k then comes
abbrev pub past : ℕ → ℕ → ℕ
past i k = if nat_lt k i then k else k + 1

-- any one task may be left away, with all other times as they are
abbrev pub AnyTaskMayLeave : Type 0
AnyTaskMayLeave =
    (set : TaskSet) (i : ℕ) → i < length set.tasks → IsLooser (past i) (without set i) set
