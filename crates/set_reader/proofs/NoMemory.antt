-- The definition of reading a set never runs out of memory; only the code can.
use Rattle.std.proofs.Common.{◌≡◌, ◌≢◌, ℕ, List, [], length, codes, nat_lt, Option, Some, None}
use Rattle.std.proofs.Common.{Result, Ok, Err, refl, if◌then◌else◌}
use Rattle.std.specs.Str.{is_utf8}
use Rattle.crpd_base.specs.declared.data.Place.TheVariants.{Number}
use Rattle.crpd_base.specs.declared.data.Switching.TheVariants.{Cycle}
use Rattle.crpd_base.specs.declared.data.TaskSpec.{TaskSpec}
use Rattle.crpd_base.specs.Limits.{longest_time, most_cost, most_iterations, most_sets, most_tasks}
use Rattle.toml.specs.Data.{Members, as_table}
use Rattle.toml.specs.Parse.{parse_document}
use Rattle.text_keys.specs.declared.error.KeyError.{KeyError}
use Rattle.text_keys.specs.declared.error.KeyError.TheVariants as key_error
use Rattle.text_keys.specs.Paths.{each, item_path}
use Rattle.text_keys.specs.TomlKeys.{all_known, listed, optional, required, whole}
use Rattle.text_keys.proofs.NoMemory.{IsFree, bind_free, each_free, if_free, known_free}
use Rattle.text_keys.proofs.NoMemory.{never}
use Rattle.text_keys.proofs.NoMemory.{optional_free, required_free}
use Rattle.set_reader.specs.Kinds as kind
use Rattle.set_reader.specs.declared.error.SetError.TheVariants.{Memory, TooManyTasks}
use Rattle.set_reader.specs.Reading.{cycles, distinct, distinct_or_refused, document, entry_place}
use Rattle.set_reader.specs.Reading.{fields_at, loop_at, loop_keys, loop_tables, loops_at, nth_loop}
use Rattle.set_reader.specs.Reading.{of_set, platform_at, platform_keys, reading, repeated_after}
use Rattle.set_reader.specs.Reading.{set_at, set_error, set_keys, task_at, task_keys, task_tables}
use Rattle.set_reader.specs.Reading.{tasks_at}

platform_free : (path : List ℕ) (ms : Members) → IsFree key_error.Memory (platform_at path ms)
unfolding platform_at
platform_free path ms =
    let m = key_error.Memory in
    bind_free m (all_known platform_keys path ms) _ (known_free _ _ _) (λ _.
    bind_free m (required kind.line_bytes path (codes "line") ms) _ (required_free _ _ _ _) (λ _.
    bind_free m (required (whole 1 most_sets) path (codes "sets") ms) _ (required_free _ _ _ _) (λ _.
    bind_free m (required (whole 1 most_cost) path (codes "hit") ms) _ (required_free _ _ _ _) (λ _.
    bind_free m (required cycles path (codes "miss") ms) _ (required_free _ _ _ _) (λ _.
    bind_free m (required cycles path (codes "data") ms) _ (required_free _ _ _ _) (λ _.
    bind_free m (required cycles path (codes "taken") ms) _ (required_free _ _ _ _) (λ _.
    bind_free m (required cycles path (codes "switch") ms) _ (required_free _ _ _ _) (λ _.
    bind_free m (optional 0 cycles path (codes "mul") ms) _ (optional_free _ _ _ _ _) (λ _.
    bind_free m (optional 0 cycles path (codes "div") ms) _ (optional_free _ _ _ _ _) (λ _.
    bind_free m (optional Cycle kind.switching path (codes "switching") ms) _
    (optional_free _ _ _ _ _) (λ _. tt)))))))))))

loop_free : (path : List ℕ) (ms : Members) → IsFree key_error.Memory (loop_at path ms)
unfolding loop_at
loop_free path ms =
    let m = key_error.Memory in
    bind_free m (all_known loop_keys path ms) _ (known_free _ _ _) (λ _.
    bind_free m (required kind.place path (codes "head") ms) _ (required_free _ _ _ _) (λ _.
    bind_free m (required (whole 1 most_iterations) path (codes "bound") ms) _
    (required_free _ _ _ _) (λ _.
    bind_free m (required (listed kind.range) path (codes "range") ms) _ (required_free _ _ _ _)
    (λ _. tt))))

loops_free : (path : List ℕ) (ms : Members) → IsFree key_error.Memory (loops_at path ms)
unfolding loops_at
loops_free path ms =
    bind_free key_error.Memory (optional [] loop_tables path (codes "loop") ms) _
    (optional_free _ _ _ _ _) (λ tables.
    each_free key_error.Memory (nth_loop path)
    (λ i t. loop_free (item_path path (codes "loop") i) t) 0 tables)

fields_free : (path : List ℕ) (ms : Members) → IsFree key_error.Memory (fields_at path ms)
unfolding fields_at
fields_free path ms =
    let m = key_error.Memory in
    bind_free m (all_known task_keys path ms) _ (known_free _ _ _) (λ _.
    bind_free m (required kind.name path (codes "name") ms) _ (required_free _ _ _ _) (λ _.
    bind_free m (required kind.file path (codes "file") ms) _ (required_free _ _ _ _) (λ _.
    bind_free m (optional None entry_place path (codes "entry") ms) _ (optional_free _ _ _ _ _) (λ _.
    bind_free m (required (whole 1 longest_time) path (codes "period") ms) _
    (required_free _ _ _ _) (λ _.
    bind_free m (required (whole 1 longest_time) path (codes "deadline") ms) _
    (required_free _ _ _ _) (λ _.
    bind_free m (required (whole 0 longest_time) path (codes "jitter") ms) _
    (required_free _ _ _ _) (λ _.
    bind_free m (optional (Number 0) kind.place path (codes "stack") ms) _
    (optional_free _ _ _ _ _) (λ _.
    bind_free m (optional (Number 0) kind.place path (codes "global") ms) _
    (optional_free _ _ _ _ _) (λ _.
    bind_free m (loops_at path ms) _ (loops_free path ms) (λ _. tt))))))))))

-- ---- the set

error_free : (e : KeyError) → e ≢ key_error.Memory → set_error e ≢ Memory
error_free key_error.Memory free = absurd (free refl)
error_free (key_error.Missing key) free = λ e. cc
error_free (key_error.BadValue key) free = λ e. cc
error_free (key_error.UnknownKey key) free = λ e. cc

of_free : {A : Type 0} (r : Result A KeyError) → IsFree key_error.Memory r → IsFree Memory (of_set r)
of_free (Ok x) free = tt
of_free (Err e) free = error_free e free

task_free : (i : ℕ) (ms : Members) → IsFree Memory (task_at i ms)
unfolding task_at
task_free i ms =
    let path = item_path [] (codes "task") i in
    bind_free Memory (of_set (fields_at path ms)) _ (of_free _ (fields_free path ms)) (λ task.
    if_free Memory (nat_lt task.period task.deadline) _ _ (λ e. cc) tt)

distinct_free : (tasks : List TaskSpec) → IsFree Memory (distinct tasks)
unfolding distinct
distinct_free tasks = by (repeated_after [] tasks)
  where
    by : (o : Option ℕ) → IsFree Memory (distinct_or_refused tasks o)
    by None = tt
    by (Some i) = λ e. cc

tasks_free : (ms : Members) → IsFree Memory (tasks_at ms)
unfolding tasks_at
tasks_free ms =
    bind_free Memory (of_set (required task_tables [] (codes "task") ms)) _
    (of_free _ (required_free _ _ _ _)) (λ tables.
    bind_free Memory (if nat_lt most_tasks (length tables) then Err (TooManyTasks (length tables))
    else each task_at 0 tables) _
    (if_free Memory (nat_lt most_tasks (length tables)) _ _ (λ e. cc)
    (each_free Memory task_at task_free 0 tables)) distinct_free)

set_free : (ms : Members) → IsFree Memory (set_at ms)
unfolding set_at
set_free ms =
    bind_free Memory (of_set (all_known set_keys [] ms)) _ (of_free _ (known_free _ _ _)) (λ _.
    bind_free Memory (of_set (required as_table [] (codes "platform") ms)) _
    (of_free _ (required_free _ _ _ _)) (λ table.
    bind_free Memory (of_set (platform_at (codes "platform.") table)) _
    (of_free _ (platform_free _ table)) (λ _.
    bind_free Memory (tasks_at ms) _ (tasks_free ms) (λ _. tt))))

document_free : (o : Option Members) → IsFree Memory (document o)
document_free None = λ e. cc
document_free (Some ms) = set_free ms

reading_free : (bytes : List ℕ) → IsFree Memory (reading bytes)
unfolding reading
reading_free bytes =
    if_free Memory (is_utf8 bytes) _ _ (document_free (parse_document bytes)) (λ e. cc)

pub reading_never : (bytes : List ℕ) → reading bytes ≡ Err Memory → ⊥
reading_never bytes = never Memory (reading bytes) (reading_free bytes)
