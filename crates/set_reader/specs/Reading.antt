-- The meaning of the text of a task set, or the first refusal: the tables of keys, in order, and
-- each key with its kind.
use Rattle.std.specs.Prelude.{ℕ, List, [], ◌∷◌, ◌++◌, length, codes, Bool, Option, Some, None}
use Rattle.std.specs.Prelude.{option_map, nat_lt, nat_le, Result, Ok, Err, if◌then◌else◌}
use Rattle.std.specs.List.{list_any}
use Rattle.std.specs.Str.{bytes_eq, is_utf8}
use Rattle.crpd_base.specs.Limits.{most_sets, most_cost, most_tasks, most_loops, most_iterations}
use Rattle.crpd_base.specs.Limits.{longest_time}
use Rattle.crpd_base.specs.declared.data.Platform.{Platform}
use Rattle.crpd_base.specs.declared.data.Place.{Place}
use Rattle.crpd_base.specs.declared.data.Place.TheVariants.{Number}
use Rattle.crpd_base.specs.declared.data.Switching.TheVariants.{Cycle}
use Rattle.crpd_base.specs.declared.data.LoopSpec.{LoopSpec}
use Rattle.crpd_base.specs.declared.data.TaskSpec.{TaskSpec}
use Rattle.crpd_base.specs.declared.data.TaskSet.{TaskSet}
use Rattle.toml.specs.Data.{Data, Members, as_table}
use Rattle.toml.specs.Parse.{parse_document}
use Rattle.text_keys.specs.declared.error.KeyError.{KeyError}
use Rattle.text_keys.specs.declared.error.KeyError.TheVariants as error
use Rattle.text_keys.specs.Named.{only}
use Rattle.crpd_base.specs.Outcome.{◌>>=◌}
use Rattle.text_keys.specs.Paths.{each, item_path}
use Rattle.text_keys.specs.TomlKeys.{all_known, required, optional, whole, listed, at_most}
use Rattle.set_reader.specs.declared.error.SetError.{SetError}
use Rattle.set_reader.specs.declared.error.SetError.TheVariants.{Memory, NotToml, Missing, BadValue}
use Rattle.set_reader.specs.declared.error.SetError.TheVariants.{TooManyTasks, SameName}
use Rattle.set_reader.specs.declared.error.SetError.TheVariants.{DeadlineAfterPeriod, UnknownKey}
use Rattle.set_reader.specs.Kinds as kind

-- ---- the platform

-- the keys of a platform
unfoldable pub platform_keys : List (List ℕ)
platform_keys =
    codes "line" ∷ codes "sets" ∷ codes "hit" ∷ codes "miss" ∷ codes "data" ∷ codes "taken"
    ∷ codes "switch" ∷ codes "mul" ∷ codes "div" ∷ codes "switching" ∷ []

-- a number of cycles
abbrev pub cycles : Data → Option ℕ
cycles = whole 0 most_cost

-- the platform in a table, or the first refusal
unfoldable pub platform_at : List ℕ → Members → Result Platform KeyError
platform_at path ms = do
  _ ← all_known platform_keys path ms
  line ← required kind.line_bytes path (codes "line") ms
  sets ← required (whole 1 most_sets) path (codes "sets") ms
  hit ← required (whole 1 most_cost) path (codes "hit") ms
  miss ← required cycles path (codes "miss") ms
  memory ← required cycles path (codes "data") ms
  taken ← required cycles path (codes "taken") ms
  switch ← required cycles path (codes "switch") ms
  mul ← optional 0 cycles path (codes "mul") ms
  div ← optional 0 cycles path (codes "div") ms
  switching ← optional Cycle kind.switching path (codes "switching") ms
  Ok (record {
    line = line;
    sets = sets;
    hit = hit;
    miss = miss;
    memory = memory;
    taken = taken;
    switch = switch;
    mul = mul;
    div = div;
    switching = switching;
  })

-- ---- loops

-- the keys of a loop
unfoldable pub loop_keys : List (List ℕ)
loop_keys = codes "head" ∷ codes "bound" ∷ codes "range" ∷ []

-- the stated loop in a table, or the first refusal
unfoldable pub loop_at : List ℕ → Members → Result LoopSpec KeyError
loop_at path ms = do
  _ ← all_known loop_keys path ms
  head ← required kind.place path (codes "head") ms
  bound ← required (whole 1 most_iterations) path (codes "bound") ms
  ranges ← required (listed kind.range) path (codes "range") ms
  Ok (record { head = head; bound = bound; ranges = ranges })

-- the loop at a place of a task's list
abbrev pub nth_loop : List ℕ → ℕ → Members → Result LoopSpec KeyError
nth_loop path i = loop_at (item_path path (codes "loop") i)

-- at most 64 tables in an array
abbrev pub loop_tables : Data → Option (List Members)
loop_tables d = at_most most_loops (listed as_table d)

-- the stated loops of a task's table, none if the key is absent, or the first refusal
unfoldable pub loops_at : List ℕ → Members → Result (List LoopSpec) KeyError
loops_at path ms = do
  tables ← optional [] loop_tables path (codes "loop") ms
  each (nth_loop path) 0 tables

-- ---- tasks

-- the keys of a task
unfoldable pub task_keys : List (List ℕ)
task_keys =
    codes "name" ∷ codes "file" ∷ codes "entry" ∷ codes "period" ∷ codes "deadline" ∷ codes "jitter"
    ∷ codes "stack" ∷ codes "global" ∷ codes "loop" ∷ []

-- the place of a stated entry
abbrev pub entry_place : Data → Option (Option Place)
entry_place d = option_map (λ p. Some p) (kind.place d)

-- the task in a table, without comparing deadline and period, or the first refusal
unfoldable pub fields_at : List ℕ → Members → Result TaskSpec KeyError
fields_at path ms = do
  _ ← all_known task_keys path ms
  name ← required kind.name path (codes "name") ms
  file ← required kind.file path (codes "file") ms
  entry ← optional None entry_place path (codes "entry") ms
  period ← required (whole 1 longest_time) path (codes "period") ms
  deadline ← required (whole 1 longest_time) path (codes "deadline") ms
  jitter ← required (whole 0 longest_time) path (codes "jitter") ms
  stack ← optional (Number 0) kind.place path (codes "stack") ms
  global ← optional (Number 0) kind.place path (codes "global") ms
  loops ← loops_at path ms
  Ok (record {
    name = name;
    file = file;
    entry = entry;
    period = period;
    deadline = deadline;
    jitter = jitter;
    stack = stack;
    global = global;
    loops = loops;
  })

-- an error of a key as a refusal of the set
abbrev pub set_error : KeyError → SetError
set_error error.Memory = Memory
set_error (error.Missing key) = Missing key
set_error (error.BadValue key) = BadValue key
set_error (error.UnknownKey key) = UnknownKey key

-- a value, or a key's error as a refusal of the set
abbrev pub of_set : {A : Type 0} → Result A KeyError → Result A SetError
of_set (Ok x) = Ok x
of_set (Err e) = Err (set_error e)

-- the task at a place; its deadline is compared after all of its keys
unfoldable pub task_at : ℕ → Members → Result TaskSpec SetError
task_at i ms = do
  let path = item_path [] (codes "task") i
  task ← of_set (fields_at path ms)
  if nat_lt task.period task.deadline then Err (DeadlineAfterPeriod (path ++ codes "deadline"))
      else Ok task

-- ---- the set

-- whether one of the tasks has this name
abbrev pub occurs : List ℕ → List TaskSpec → Bool
occurs name tasks = list_any (λ (t : TaskSpec). bytes_eq name t.name) tasks

-- the place of the first task whose name occurs earlier
abbrev pub repeated_after : List TaskSpec → List TaskSpec → Option ℕ
repeated_after earlier [] = None
repeated_after earlier (t ∷ ts) =
    if occurs t.name earlier then Some (length earlier) else repeated_after (earlier ++ t ∷ []) ts

-- the tasks if no name is repeated, otherwise the refusal of the first repeated name
abbrev pub distinct_or_refused : List TaskSpec → Option ℕ → Result (List TaskSpec) SetError
distinct_or_refused tasks None = Ok tasks
distinct_or_refused tasks (Some i) = Err (SameName (item_path [] (codes "task") i ++ codes "name"))

-- the tasks if their names differ, otherwise the refusal of the first repeated name
unfoldable pub distinct : List TaskSpec → Result (List TaskSpec) SetError
distinct tasks = distinct_or_refused tasks (repeated_after [] tasks)

-- the keys of a set
unfoldable pub set_keys : List (List ℕ)
set_keys = codes "platform" ∷ codes "task" ∷ []

-- a list of tables that is not empty
abbrev pub task_tables : Data → Option (List Members)
task_tables d = only (λ ts. nat_le 1 (length ts)) (listed as_table d)

-- the tasks of a set's table, or the first refusal
unfoldable pub tasks_at : Members → Result (List TaskSpec) SetError
tasks_at ms = do
  tables ← of_set (required task_tables [] (codes "task") ms)
  tasks ← if nat_lt most_tasks (length tables) then Err (TooManyTasks (length tables))
      else each task_at 0 tables
  distinct tasks

-- the set of a document's keys, or the first refusal
unfoldable pub set_at : Members → Result TaskSet SetError
set_at ms = do
  _ ← of_set (all_known set_keys [] ms)
  table ← of_set (required as_table [] (codes "platform") ms)
  platform ← of_set (platform_at (codes "platform.") table)
  tasks ← tasks_at ms
  Ok (record { platform = platform; tasks = tasks })

-- the set of a text's keys; a text that is not TOML is refused
abbrev pub document : Option Members → Result TaskSet SetError
document None = Err NotToml
document (Some ms) = set_at ms

-- The meaning of the text, or its first refusal.
unfoldable pub reading : List ℕ → Result TaskSet SetError
reading bytes = if is_utf8 bytes then document (parse_document bytes) else Err NotToml
