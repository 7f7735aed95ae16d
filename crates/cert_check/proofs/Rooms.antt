-- The parts and windows that are passed to a demand.
use Rattle.std.proofs.Common.{◌≡◌, ◌↔◌, Bool, IsTrue, ℕ, ◌<◌, ◌≤◌, List, length, refl, sym, ap}
use Rattle.std.proofs.Common.{subst, arith, slice_index}
use Rattle.crpd_base.specs.declared.data.Part.{Part}
use Rattle.crpd_base.specs.declared.data.Certificate.{Certificate}
use Rattle.crpd_base.specs.Tasks.{HasTimes}
use Rattle.crpd_base.specs.declared.data.TaskSet.{TaskSet}
use Rattle.crpd_base.specs.declared.data.TaskPart.{TaskPart}
use Rattle.evict_sets.specs.ListedPart.{certified_task}
use Rattle.delay_count.specs.Gamma.{part_at}
use Rattle.delay_count.specs.Demand.{demand}
use Rattle.cert_check.specs.declared.outcome.Clause.TheVariants.{Window}
use Rattle.cert_check.specs.Verdict.{TimesHold}
use Rattle.delay_count.proofs.Growth.{demand_same}
use Rattle.cert_check.specs.JudgeInput.{window_at, certified_part}

-- the parts and windows of the tasks below k are passed
pub record AreHanded (c : Certificate) (parts : List Part) (windows : List ℕ) (k : ℕ) : Type 0 where
  pub all_parts : length parts ≡ 32
  pub all_windows : length windows ≡ 32
  pub part : (j : ℕ) → j < k → part_at parts j ≡ certified_part c j
  pub window : (j : ℕ) → j < k → slice_index windows j ≡ window_at c j

-- the test of a window
pub room_test : (task_set : TaskSet) (times : HasTimes task_set) (c : Certificate) (i k : ℕ)
    (l : i < length task_set.tasks) (parts : List Part) (windows costs : List ℕ) (t : TaskPart)
    (d q : ℕ) (b : Bool)
    → AreHanded c parts windows k → i < k → certified_task c i ≡ t
    → d ≡ demand task_set (part_at parts) (slice_index costs) (slice_index windows) i t.method
    t.window → q ≡ t.window → (t.window ≡ 0 → ⊥)
    → IsTrue b ↔ (d ≤ q) → IsTrue b ↔ TimesHold task_set (slice_index costs) c i Window
room_test task_set times c i k l parts windows costs t d q b H below at d_is q_is some test =
    let same = demand_same task_set (part_at parts) (certified_part c) (slice_index costs)
    (slice_index costs) (slice_index windows) (window_at c) i times l
    (λ j le. H.part j (omega (arith, le, below))) (λ j lt. refl)
    (λ j lt. H.window j (omega (arith, lt, below))) (certified_task c i).method (window_at c i) in
    let whole : d ≡ demand task_set (part_at parts) (slice_index costs) (slice_index windows) i
    (certified_task c i).method (window_at c i) =
    subst (λ (x : TaskPart).
    d ≡ demand task_set (part_at parts) (slice_index costs) (slice_index windows) i x.method
    x.window) (sym at) d_is in
    let w : window_at c i ≡ t.window = ap (λ (x : TaskPart). x.window) at in (
      (λ h. let le = test.0 h in (omega (arith, w, some), omega (arith, le, same, whole, w, q_is))),
      (λ h. test.1 (let le = h.1 in omega (arith, le, same, whole, w, q_is))),
    )
