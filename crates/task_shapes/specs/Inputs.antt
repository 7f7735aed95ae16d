-- A task set with its code.
use Rattle.std.specs.Prelude.{◌≡◌, ℕ, List, All, length}
use Rattle.crpd_base.specs.Ranges.{IsTaskSet}
use Rattle.crpd_base.specs.Tasks.{task_name}
use Rattle.crpd_base.specs.declared.data.TaskPlan.{TaskPlan}
use Rattle.crpd_base.specs.declared.data.TaskSet.{TaskSet}
use Rattle.rv_decode.specs.Flow.{IsCodeMap}
use Rattle.code_map.specs.Words.{Code, word_at}
use Rattle.loop_regions.specs.CodeNest.{AreBounded}

-- a set, and the code of its tasks' files
pub record SetWithCode : Type 0 where
  pub set : TaskSet
  pub code : Code

-- each stated loop of each plan has a bound from 1 to 1,000,000
abbrev pub HasBoundedLoops : Code → Type 0
HasBoundedLoops code = All (λ (plan : TaskPlan). AreBounded plan.loops) code.plans

-- the set is in its ranges, and the code has an image and a plan for each task; no word ends after
-- the address at which jobs end
pub record IsInput (input : SetWithCode) : Type 0 where
  pub ranges : IsTaskSet input.set
  pub images : length input.code.images ≡ length input.set.tasks
  pub plans : length input.code.plans ≡ length input.set.tasks
  pub bounded : HasBoundedLoops input.code
  pub words : IsCodeMap (word_at input.code.images)

-- the name of the task at a place
abbrev pub name_at : SetWithCode → ℕ → List ℕ
name_at input k = task_name input.set (record { 0 = k })
