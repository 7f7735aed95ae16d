-- The windows of the tasks, by any demand.
use Rattle.std.specs.Prelude.{◌≡◌, Option, Some, None, nat_le, if◌then◌else◌, ℕ, ◌+◌, ◌<◌, ◌≤◌}
use Rattle.std.specs.Prelude.{List, length, map, slice_index, slice_index_or}
use Rattle.crpd_base.specs.declared.data.TaskSet.{TaskSet}
use Rattle.crpd_base.specs.declared.data.Method.{Method}
use Rattle.crpd_base.specs.declared.data.Method.TheVariants.{Ucb, Ecb}
use Rattle.crpd_base.specs.Tasks.{jitter_of, deadline_of}
use Rattle.response.specs.declared.choice.Choice.{Choice}
use Rattle.response.specs.declared.choice.WindowError.{WindowError}
use Rattle.response.specs.declared.choice.WindowError.TheVariants.{Memory, Unschedulable}

-- a demand, by the windows of the higher tasks, a task, a method and a window of the task
abbrev pub Demand : Type 0
Demand = (ℕ → ℕ) → ℕ → Method → ℕ → ℕ

-- the window of task i by a need: the smallest number of cycles, at least 1, that the need does not
-- exceed, with the task's jitter within its deadline
pub record IsWindow (set : TaskSet) (needs : ℕ → ℕ) (i w : ℕ) : Type 0 where
  pub some : 1 ≤ w
  pub enough : needs w ≤ w
  pub in_deadline : w + jitter_of set i ≤ deadline_of set i
  pub least : (v : ℕ) → 1 ≤ v → needs v ≤ v → w ≤ v

-- the need exceeds every window that is within the task's deadline with its jitter
abbrev pub HasNoWindow : TaskSet → (ℕ → ℕ) → ℕ → Type 0
HasNoWindow set needs i = (w : ℕ) → 1 ≤ w → w + jitter_of set i ≤ deadline_of set i → w < needs w

-- the smaller of the existing windows by the two methods, and its method, UCB-union if they are
-- equal
abbrev pub IsSmallerWindow : TaskSet → (Method → ℕ → ℕ) → ℕ → Method → ℕ → Type 0
IsSmallerWindow set needs i Ucb w =
    IsWindow set (needs Ucb) i w × ((v : ℕ) → IsWindow set (needs Ecb) i v → w ≤ v)
IsSmallerWindow set needs i Ecb w =
    IsWindow set (needs Ecb) i w × ((v : ℕ) → IsWindow set (needs Ucb) i v → w < v)

-- the same of two optional windows
abbrev pub smaller_of : Option ℕ → Option ℕ → Option Choice
smaller_of None None = None
smaller_of (Some u) None = Some (record { window = u; method = Ucb })
smaller_of None (Some e) = Some (record { window = e; method = Ecb })
smaller_of (Some u) (Some e) =
    if nat_le u e then Some (record { window = u; method = Ucb })
    else Some (record { window = e; method = Ecb })

-- the window of a task of a list
abbrev pub chosen_window : List Choice → ℕ → ℕ
chosen_window choices k = slice_index (map (λ (c : Choice). c.window) choices) k

-- the method of a task of a list
abbrev pub chosen_method : List Choice → ℕ → Method
chosen_method choices k = slice_index_or (map (λ (c : Choice). c.method) choices) k Ucb

-- the choices of the first tasks, each with the windows of the higher ones
abbrev pub AreChoices : TaskSet → Demand → List Choice → ℕ → Type 0
AreChoices set demand choices n =
    (k : ℕ) → k < n → IsSmallerWindow set (demand (chosen_window choices) k) k
    (chosen_method choices k) (chosen_window choices k)

-- the choices of all tasks
pub record AreAllChoices (set : TaskSet) (demand : Demand) (choices : List Choice) : Type 0 where
  pub tasks : length choices ≡ length set.tasks
  pub each : AreChoices set demand choices (length set.tasks)

-- a task has no window by either method, and each higher one has its choice
pub record IsFirstWithoutWindow (set : TaskSet) (demand : Demand) (i : ℕ) : Type 0 where
  pub task : i < length set.tasks
  pub higher : List Choice
  pub size : length higher ≡ i
  pub each : AreChoices set demand higher i
  pub no_ucb : HasNoWindow set (demand (chosen_window higher) i Ucb) i
  pub no_ecb : HasNoWindow set (demand (chosen_window higher) i Ecb) i

-- the condition of each error
abbrev pub IsWindowError : TaskSet → Demand → WindowError → Type 0
IsWindowError set demand Memory = Unit {0}
IsWindowError set demand (Unschedulable t) = IsFirstWithoutWindow set demand t.0
