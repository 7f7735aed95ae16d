-- Inner definitions: the parts in which the keys of a platform and of a task are read.
use Rattle.std.specs.Prelude.{ℕ, List, ◌++◌, codes, Bool, nat_lt, Result, Ok, Err}
use Rattle.std.specs.Prelude.{if◌then◌else◌}
use Rattle.crpd_base.specs.Limits.{longest_time}
use Rattle.crpd_base.specs.Outcome.{◌>>=◌}
use Rattle.crpd_base.specs.declared.data.Place.TheVariants.{Number}
use Rattle.crpd_base.specs.declared.data.TaskSpec.{TaskSpec}
use Rattle.toml.specs.Data.{Members}
use Rattle.text_keys.specs.declared.error.KeyError.{KeyError}
use Rattle.text_keys.specs.TomlKeys.{required, optional, whole}
use Rattle.set_reader.specs.declared.error.SetError.{SetError}
use Rattle.set_reader.specs.declared.error.SetError.TheVariants.{DeadlineAfterPeriod}
use Rattle.set_reader.specs.declared.task.Load.{Load}
use Rattle.set_reader.specs.Kinds as kind
use Rattle.set_reader.specs.Reading.{loops_at, fields_at, of_set}

-- a number from low to high; 0 if it is not required and its key is absent
abbrev pub number_at : List ℕ → Members → List ℕ → ℕ → ℕ → Bool → Result ℕ KeyError
number_at path ms key low high is_required =
    if is_required then required (whole low high) path key ms
    else optional 0 (whole low high) path key ms

-- the times, the stack, the global pointer and the loops of the task in a table
unfoldable pub load_at : List ℕ → Members → Result Load KeyError
load_at path ms = do
  period ← required (whole 1 longest_time) path (codes "period") ms
  deadline ← required (whole 1 longest_time) path (codes "deadline") ms
  jitter ← required (whole 0 longest_time) path (codes "jitter") ms
  stack ← optional (Number 0) kind.place path (codes "stack") ms
  global ← optional (Number 0) kind.place path (codes "global") ms
  loops ← loops_at path ms
  Ok (record {
    period = period;
    deadline = deadline;
    jitter = jitter;
    stack = stack;
    global = global;
    loops = loops;
  })

-- the task whose keys have this path; its deadline is compared after all of its keys
unfoldable pub task_of : List ℕ → Members → Result TaskSpec SetError
task_of path ms = do
  task ← of_set (fields_at path ms)
  if nat_lt task.period task.deadline then Err (DeadlineAfterPeriod (path ++ codes "deadline"))
      else Ok task
