-- The invariant while the clauses of a task's times are checked: definitions that only contracts
-- inside the crate cite.
use Rattle.std.specs.Prelude.{◌≡◌, ℕ, ◌+◌, ◌<◌, ◌≤◌, length}
use Rattle.crpd_base.specs.Tasks.{jitter_of, deadline_of}
use Rattle.crpd_base.specs.declared.data.TaskSet.{TaskSet}
use Rattle.crpd_base.specs.declared.data.Certificate.{Certificate}
use Rattle.evict_sets.specs.ListedPart.{certified_task}
use Rattle.cert_check.specs.JudgeInput.{window_at}

-- the responses of the tasks above i are their windows plus jitters, and at most their deadlines
pub record HigherHold (set : TaskSet) (c : Certificate) (i : ℕ) : Type 0 where
  pub tasks : i < length c.tasks
  pub response : (k : ℕ) → k < i → (certified_task c k).response ≡ window_at c k + jitter_of set k
  pub in_deadline : (k : ℕ) → k < i → (certified_task c k).response ≤ deadline_of set k
