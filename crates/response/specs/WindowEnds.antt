-- The windows of a set by a demand: those of all tasks, or a first task without one.
use Rattle.std.specs.Prelude.{◌≡◌, ◌⊎◌, ℕ, ◌<◌, List, length}
use Rattle.crpd_base.specs.declared.data.Method.{Method}
use Rattle.crpd_base.specs.declared.data.TaskSet.{TaskSet}
use Rattle.response.specs.Windows.{AreAllChoices, Demand, IsFirstWithoutWindow}
use Rattle.response.specs.declared.choice.Choice.{Choice}

-- what a task's windows need is the same, where the windows of the higher tasks are
abbrev pub LooksAbove : TaskSet → Demand → Type 0
LooksAbove set demand =
    (window other : ℕ → ℕ) (i : ℕ) → i < length set.tasks
    → ((k : ℕ) → k < i → window k ≡ other k) → (method : Method) (w : ℕ) →
    demand window i method w ≡ demand other i method w

-- then all tasks have windows, or there is a first task without one
abbrev pub WindowsExist : Type 0
WindowsExist =
    (set : TaskSet) (demand : Demand) → LooksAbove set demand →
    ((choices : List Choice) × AreAllChoices set demand choices)
    ⊎ ((i : ℕ) × IsFirstWithoutWindow set demand i)
