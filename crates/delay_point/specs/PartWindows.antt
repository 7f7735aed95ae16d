-- Windows of tasks by sound parts: for the window of each task, parts of all tasks and a method.
use Rattle.std.specs.Prelude.{◌≡◌, ℕ, ◌+◌, ◌<◌, ◌≤◌, List, length, slice_index}
use Rattle.crpd_base.specs.declared.data.Part.{Part}
use Rattle.crpd_base.specs.declared.data.PointMethod.{PointMethod}
use Rattle.crpd_base.specs.declared.data.TaskSet.{TaskSet}
use Rattle.crpd_base.specs.Ranges.{IsTaskSet}
use Rattle.crpd_base.specs.Tasks.{jitter_of, deadline_of}
use Rattle.rv_decode.specs.Flow.{IsCodeMap}
use Rattle.code_map.specs.Words.{Code, word_at}
use Rattle.delay_count.specs.Demand.{demand_by}
use Rattle.loop_regions.specs.TaskGraph.{TaskGraph}
use Rattle.walk_parts.specs.Parts.{WalkPart, IsSoundPart}
use Rattle.cert_check.specs.JudgeInput.{IsGraphOf, longest_at}
use Rattle.preempt_machine.specs.Machine.{plan_of}
use Rattle.preempt_machine.specs.Safe.{system_of, IsSafeWith}
use Rattle.crpd_base.specs.declared.data.Method.TheVariants.{Ecb}
use Rattle.sound_laws.specs.PartWindows.{CoversPartReloads}
use Rattle.delay_count.specs.Gamma.{gamma_ecb}
use Rattle.delay_point.specs.Gamma.{point_shared, gamma_point}
use Rattle.delay_point.specs.Refined.{refined_gamma}

-- the delay of task j in the window of task i, by the parts and the method of that window
abbrev pub delay_by_parts : TaskSet → (ℕ → TaskGraph) → (ℕ → ℕ → WalkPart) → (ℕ → ℕ)
    → (ℕ → PointMethod) → ℕ → ℕ → ℕ
delay_by_parts set graphs walks window method i =
    let parts : ℕ → Part = λ k. (walks i k).part in
    refined_gamma set parts (point_shared graphs (λ k. (walks i k).useful) parts) window (window i)
    (method i) i

-- each window holds its demand, and with the jitter it is within the deadline
pub record FitByParts (set : TaskSet) (graphs : ℕ → TaskGraph) (walks : ℕ → ℕ → WalkPart)
    (window : ℕ → ℕ) (method : ℕ → PointMethod) : Type 0 where
  pub room : (i : ℕ) → i < length set.tasks
      → demand_by set (λ k. (walks i k).part) (longest_at set.platform graphs) i
      (delay_by_parts set graphs walks window method i) (window i) ≤ window i
  pub in_deadline : (i : ℕ) → i < length set.tasks → window i + jitter_of set i ≤ deadline_of set i

-- a task set in its ranges with its code and the code's graphs is safe with the responses of such
-- windows, if the parts are sound: over all methods, and any mixture of parts
abbrev pub PartsAreSafe : Type 0
PartsAreSafe =
    (set : TaskSet) (code : Code) (graphs : ℕ → TaskGraph) (walks : ℕ → ℕ → WalkPart)
    (window : ℕ → ℕ) (method : ℕ → PointMethod) (responses : List ℕ) →
    IsTaskSet set → IsCodeMap (word_at code.images) →
    ((k : ℕ) → k < length set.tasks
    → IsGraphOf (word_at code.images) (plan_of (system_of set code) k) (graphs k)) →
    ((i k : ℕ) → k < length set.tasks → IsSoundPart set.platform (graphs k) (walks i k)) →
    FitByParts set graphs walks window method →
    ((k : ℕ) → k < length set.tasks → slice_index responses k ≡ window k + jitter_of set k)
    → IsSafeWith set code responses

-- and in each legal and kept run the delay by program point, with these windows, covers the reloads by
-- any sound parts, charged to their preemptors
abbrev pub PartPointCovers : Type 0
PartPointCovers =
    (set : TaskSet) (graphs : ℕ → TaskGraph) (walks : ℕ → ℕ → WalkPart) (window : ℕ → ℕ)
    (method : ℕ → PointMethod) (parts : ℕ → WalkPart) →
    ((i k : ℕ) → k < length set.tasks → IsSoundPart set.platform (graphs k) (walks i k)) →
    FitByParts set graphs walks window method →
    ((k : ℕ) → k < length set.tasks → IsSoundPart set.platform (graphs k) (parts k)) →
    CoversPartReloads set graphs parts Ecb
    (λ i. gamma_point set
    (point_shared graphs (λ k. (parts k).useful) (λ k. (parts k).part)) window (window i) i)

-- this delay is at most the ECB-union multiset delay by the same parts and windows
abbrev pub PartPointWithinEcb : Type 0
PartPointWithinEcb =
    (set : TaskSet) (graphs : ℕ → TaskGraph) (parts : ℕ → WalkPart) (window : ℕ → ℕ)
    (w i j : ℕ) →
    ((k : ℕ) → k < length set.tasks → IsSoundPart set.platform (graphs k) (parts k)) →
    i < length set.tasks →
    gamma_point set (point_shared graphs (λ k. (parts k).useful) (λ k. (parts k).part)) window w i j
    ≤ gamma_ecb set (λ k. (parts k).part) window w i j
