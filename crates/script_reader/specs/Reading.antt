-- The meaning of the text of a script for a task set, or the first refusal.
use Rattle.std.specs.Prelude.{ℕ, pos, List, [], ◌∷◌, ◌++◌, length, codes, Bool, false}
use Rattle.std.specs.Prelude.{Option, Some, None, nat_lt, Result, Ok, Err, if◌then◌else◌}
use Rattle.std.specs.Str.{is_utf8}
use Rattle.crpd_base.specs.Limits.{longest_time, most_jobs}
use Rattle.crpd_base.specs.Tasks.{place_of_name}
use Rattle.crpd_base.specs.declared.data.ScriptJob.{ScriptJob}
use Rattle.crpd_base.specs.declared.data.Script.{Script}
use Rattle.crpd_base.specs.declared.data.TaskSet.{TaskSet}
use Rattle.toml.specs.Data.{Data, integer, Members, as_str, as_table}
use Rattle.toml.specs.Parse.{parse_document}
use Rattle.text_keys.specs.declared.error.KeyError.{KeyError}
use Rattle.text_keys.specs.declared.error.KeyError.TheVariants as error
use Rattle.crpd_base.specs.Outcome.{◌>>=◌}
use Rattle.text_keys.specs.Paths.{each, item_path}
use Rattle.text_keys.specs.TomlKeys.{all_known, value_at_key, value_or_bad, required, optional}
use Rattle.text_keys.specs.TomlKeys.{whole, listed}
use Rattle.script_reader.specs.declared.error.ScriptError.{ScriptError}
use Rattle.script_reader.specs.declared.error.ScriptError.TheVariants.{Memory, NotToml, Missing}
use Rattle.script_reader.specs.declared.error.ScriptError.TheVariants.{BadValue, UnknownTask}
use Rattle.script_reader.specs.declared.error.ScriptError.TheVariants.{TooLong, UnknownKey}

-- an error of a key as a refusal of the script
abbrev pub script_error : KeyError → ScriptError
script_error error.Memory = Memory
script_error (error.Missing key) = Missing key
script_error (error.BadValue key) = BadValue key
script_error (error.UnknownKey key) = UnknownKey key

-- a value, or a key's error as a refusal of the script
abbrev pub of_script : {A : Type 0} → Result A KeyError → Result A ScriptError
of_script (Ok x) = Ok x
of_script (Err e) = Err (script_error e)

-- ---- jobs

-- the keys of a job
unfoldable pub job_keys : List (List ℕ)
job_keys = codes "task" ∷ codes "arrival" ∷ codes "release" ∷ []

-- a task that was found, if its place fits in the number of a task
abbrev pub task_or_unknown : List ℕ → Option ℕ → Result ℕ ScriptError
task_or_unknown path None = Err (UnknownTask (path ++ codes "task"))
task_or_unknown path (Some i) =
    if nat_lt i 256 then Ok i else Err (UnknownTask (path ++ codes "task"))

-- the task with a name
unfoldable pub task_named : List ℕ → List ℕ → TaskSet → Result ℕ ScriptError
task_named path name set = task_or_unknown path (place_of_name set.tasks name)

-- the job in a table, or the first refusal
unfoldable pub job_at : TaskSet → List ℕ → Members → Result ScriptJob ScriptError
job_at set path ms = do
  _ ← of_script (all_known job_keys path ms)
  name ← of_script (required as_str path (codes "task") ms)
  task ← task_named path name set
  arrival ← of_script (required (whole 0 longest_time) path (codes "arrival") ms)
  release ← of_script (required (whole 0 longest_time) path (codes "release") ms)
  Ok (record { task = record { 0 = task }; arrival = arrival; release = release })

-- the job at a place
abbrev pub nth_job : TaskSet → ℕ → Members → Result ScriptJob ScriptError
nth_job set i = job_at set (item_path [] (codes "job") i)

-- the jobs of a document, or the first refusal
unfoldable pub jobs_at : TaskSet → Members → Result (List ScriptJob) ScriptError
jobs_at set ms = do
  tables ← of_script (optional [] (listed as_table) [] (codes "job") ms)
  if nat_lt most_jobs (length tables) then Err (TooLong (codes "job"))
      else each (nth_job set) 0 tables

-- ---- the script

-- the keys of a script
unfoldable pub script_keys : List (List ℕ)
script_keys = codes "cycles" ∷ codes "cache" ∷ codes "job" ∷ []

-- a whole number above n
unfoldable pub is_above : ℕ → Data → Bool
is_above n (integer (pos m)) = nat_lt n m
is_above n _ = false

-- the number of cycles of a document, or the refusal
unfoldable pub cycles_at : Members → Result ℕ ScriptError
cycles_at ms = do
  d ← of_script (value_at_key [] (codes "cycles") ms)
  if is_above longest_time d then Err (TooLong (codes "cycles"))
      else of_script (value_or_bad [] (codes "cycles") (whole 1 longest_time d))

-- the number of a block
abbrev pub block : Data → Option ℕ
block = whole 0 4294967295

-- the script in a document, or the first refusal
unfoldable pub script_at : TaskSet → Members → Result Script ScriptError
script_at set ms = do
  _ ← of_script (all_known script_keys [] ms)
  cycles ← cycles_at ms
  cache ← of_script (optional [] (listed block) [] (codes "cache") ms)
  jobs ← jobs_at set ms
  Ok (record { cycles = cycles; cache = cache; jobs = jobs })

-- the script of a text's keys; a text that is not TOML is refused
abbrev pub document : TaskSet → Option Members → Result Script ScriptError
document set None = Err NotToml
document set (Some ms) = script_at set ms

-- The meaning of the text, or its first refusal.
unfoldable pub reading : List ℕ → TaskSet → Result Script ScriptError
reading bytes set = if is_utf8 bytes then document set (parse_document bytes) else Err NotToml
