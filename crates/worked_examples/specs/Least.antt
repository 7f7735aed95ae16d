-- Responses that no run allows to be shorter.
use Rattle.std.specs.Prelude.{ℕ, ◌<◌, ◌≤◌, List, length, slice_index}
use Rattle.crpd_base.specs.declared.data.TaskSet.{TaskSet}
use Rattle.preempt_machine.specs.Machine.{System}
use Rattle.preempt_machine.specs.Safe.{IsSafe}

-- all responses with which the set is safe are at least these
abbrev pub AreLeast : System → TaskSet → List ℕ → Type 0
AreLeast sys set responses =
    (others : List ℕ) → IsSafe sys set others → (k : ℕ) → k < length set.tasks
    → slice_index responses k ≤ slice_index others k
