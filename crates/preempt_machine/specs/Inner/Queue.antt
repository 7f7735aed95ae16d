-- The order of a script's jobs by release, and the first job of each task that has not ended.
use Rattle.std.specs.Prelude.{◌≡◌, ◌≢◌, ℕ, ◌+◌, ◌<◌, ◌≤◌, ◌⊎◌, length, List, slice_index_or, Option}
use Rattle.std.specs.Prelude.{Some, None, MatchOption, option_and_then, slice_set}
use Rattle.crpd_base.specs.declared.data.ScriptJob.{ScriptJob}
use Rattle.preempt_machine.specs.declared.queue.Due.{Due}
use Rattle.preempt_machine.specs.Schedule.{script_line}

-- the job at a position of the order
abbrev pub due_at : List Due → ℕ → Due
due_at due p = slice_index_or due p (record { release = 0; place = 0 })

-- the release of the job at a position
abbrev pub due_release : List Due → ℕ → ℕ
due_release due p = (due_at due p).release

-- the place of that job
abbrev pub due_place : List Due → ℕ → ℕ
due_place due p = (due_at due p).place

-- the task of the job at a position
abbrev pub due_task : List ScriptJob → List Due → ℕ → ℕ
due_task lines due p = (script_line lines (due_place due p)).task.0

-- one comes before another in the order: its release is earlier, or the same with a smaller place
abbrev pub IsDueBefore : Due → Due → Type 0
IsDueBefore a b = (a.release < b.release) ⊎ ((a.release ≡ b.release) × (a.place < b.place))

-- the releases and places of a script's jobs, by place
pub record AreListed (lines : List ScriptJob) (due : List Due) : Type 0 where
  pub long : length due ≡ length lines
  pub each : (x : ℕ) → x < length lines
      → due_at due x ≡ record { release = (script_line lines x).release; place = x }

-- the jobs of a script in the order of their releases
pub record IsReleaseOrder (lines : List ScriptJob) (due : List Due) : Type 0 where
  pub places : (p : ℕ) → p < length due → due_place due p < length lines
  pub releases : (p : ℕ) → p < length due
      → due_release due p ≡ (script_line lines (due_place due p)).release
  pub every : (x : ℕ) → x < length lines → (p : ℕ) × (p < length due) × (due_place due p ≡ x)
  pub ordered : (p r : ℕ) → p < r → r < length due → IsDueBefore (due_at due p) (due_at due r)

-- q is the first position from p on with a job of the task
pub record IsFirstAt (lines : List ScriptJob) (due : List Due) (task p q : ℕ) : Type 0 where
  pub from : p ≤ q
  pub inside : q < length due
  pub here : due_task lines due q ≡ task
  pub none : (r : ℕ) → p ≤ r → r < q → due_task lines due r ≢ task

-- no position from p on has a job of the task
abbrev pub HasNoneFrom : List ScriptJob → List Due → ℕ → ℕ → Type 0
HasNoneFrom lines due task p = (r : ℕ) → p ≤ r → r < length due → due_task lines due r ≢ task

-- the first position from p on with a job of the task, if there is one
abbrev pub IsFirstFrom : List ScriptJob → List Due → ℕ → ℕ → Option ℕ → Type 0
IsFirstFrom lines due task p found =
    MatchOption found (HasNoneFrom lines due task p) (IsFirstAt lines due task p)

-- the position that a list gives, if there is one
abbrev pub position_at : List (Option ℕ) → ℕ → Option ℕ
position_at positions k = slice_index_or positions k None

-- for each position that of the next job of the same task
pub record IsLinked (lines : List ScriptJob) (due : List Due) (later : List (Option ℕ)) : Type 0
  where
    pub long : length later ≡ length due
    pub next : (p : ℕ) → p < length due
        → IsFirstFrom lines due (due_task lines due p) (p + 1) (position_at later p)

-- the positions once the first job of a task has ended: the task's next job is then its first
abbrev pub heads_without : List (Option ℕ) → List (Option ℕ) → ℕ → List (Option ℕ)
heads_without later heads task =
    slice_set heads task (option_and_then (position_at later) (position_at heads task))

-- the first job of a task that has not ended is at place x, and at position `at` of the order
pub record HasHead (due : List Due) (heads : List (Option ℕ)) (task x : ℕ) : Type 0 where
  pub at : ℕ
  pub head : position_at heads task ≡ Some at
  pub inside : at < length due
  pub is : due_place due at ≡ x

-- that job is at position p, and is released at this time or earlier
pub record IsHeadReleased (due : List Due) (heads : List (Option ℕ)) (now task p : ℕ) : Type 0 where
  pub head : position_at heads task ≡ Some p
  pub inside : p < length due
  pub come : due_release due p ≤ now

-- the place of the first job of the first task whose first job is released by now
pub record IsFirstReleased (due : List Due) (heads : List (Option ℕ)) (now place : ℕ) : Type 0 where
  pub task : ℕ
  pub at : ℕ
  pub below : task < length heads
  pub come : IsHeadReleased due heads now task at
  pub before : (u p : ℕ) → u < task → IsHeadReleased due heads now u p → ⊥
  pub is : place ≡ due_place due at

-- no task's first job is released by now
abbrev pub NoneIsReleased : List Due → List (Option ℕ) → ℕ → Type 0
NoneIsReleased due heads now =
    (u p : ℕ) → u < length heads → IsHeadReleased due heads now u p → ⊥

-- the positions below this one are those of jobs released before a time
pub record IsUpTo (due : List Due) (time released : ℕ) : Type 0 where
  pub within : released ≤ length due
  pub before : (p : ℕ) → p < released → due_release due p < time
  pub after : (p : ℕ) → released ≤ p → p < length due → time ≤ due_release due p

-- the release at a position, or a cycle if that is earlier
pub record IsNextRelease (due : List Due) (released until time : ℕ) : Type 0 where
  pub within : time ≤ until
  pub before : released < length due → time ≤ due_release due released
  pub one : (time ≡ until) ⊎ ((released < length due) × (time ≡ due_release due released))
