-- The definition of reading a script never runs out of memory; only the code can.
use Rattle.std.proofs.Common.{◌≡◌, ◌≢◌, ℕ, List, [], length, codes, nat_lt, Option, Some, None}
use Rattle.std.proofs.Common.{Result, Ok, Err, refl}
use Rattle.std.specs.Str.{is_utf8}
use Rattle.crpd_base.specs.Limits.{longest_time, most_jobs}
use Rattle.crpd_base.specs.Tasks.{place_of_name}
use Rattle.crpd_base.specs.declared.data.TaskSet.{TaskSet}
use Rattle.toml.specs.Data.{Members, as_str, as_table}
use Rattle.toml.specs.Parse.{parse_document}
use Rattle.text_keys.specs.declared.error.KeyError.{KeyError}
use Rattle.text_keys.specs.declared.error.KeyError.TheVariants as key_error
use Rattle.text_keys.specs.Paths.{item_path}
use Rattle.text_keys.specs.TomlKeys.{all_known, listed, optional, required, value_at_key}
use Rattle.text_keys.specs.TomlKeys.{value_or_bad, whole}
use Rattle.text_keys.proofs.NoMemory.{IsFree, bind_free, each_free, good_free, if_free, known_free}
use Rattle.text_keys.proofs.NoMemory.{never}
use Rattle.text_keys.proofs.NoMemory.{optional_free, required_free, value_free}
use Rattle.script_reader.specs.declared.error.ScriptError.TheVariants.{Memory}
use Rattle.script_reader.specs.Reading.{block, cycles_at, document, is_above, job_at, job_keys}
use Rattle.script_reader.specs.Reading.{jobs_at, nth_job, of_script, reading, script_at}
use Rattle.script_reader.specs.Reading.{script_error, script_keys, task_named, task_or_unknown}

error_free : (e : KeyError) → e ≢ key_error.Memory → script_error e ≢ Memory
error_free key_error.Memory free = absurd (free refl)
error_free (key_error.Missing key) free = λ e. cc
error_free (key_error.BadValue key) free = λ e. cc
error_free (key_error.UnknownKey key) free = λ e. cc

of_free : {A : Type 0} (r : Result A KeyError) → IsFree key_error.Memory r
    → IsFree Memory (of_script r)
of_free (Ok x) free = tt
of_free (Err e) free = error_free e free

task_free : (path name : List ℕ) (set : TaskSet) → IsFree Memory (task_named path name set)
unfolding task_named
task_free path name set = by (place_of_name set.tasks name)
  where
    by : (o : Option ℕ) → IsFree Memory (task_or_unknown path o)
    by None = λ e. cc
    by (Some i) = if_free Memory (nat_lt i 256) _ _ tt (λ e. cc)

job_free : (set : TaskSet) (path : List ℕ) (ms : Members) → IsFree Memory (job_at set path ms)
unfolding job_at
job_free set path ms =
    bind_free Memory (of_script (all_known job_keys path ms)) _ (of_free _ (known_free _ _ _)) (λ _.
    bind_free Memory (of_script (required as_str path (codes "task") ms)) _
    (of_free _ (required_free _ _ _ _)) (λ name.
    bind_free Memory (task_named path name set) _ (task_free path name set) (λ _.
    bind_free Memory (of_script (required (whole 0 longest_time) path (codes "arrival") ms)) _
    (of_free _ (required_free _ _ _ _)) (λ _.
    bind_free Memory (of_script (required (whole 0 longest_time) path (codes "release") ms)) _
    (of_free _ (required_free _ _ _ _)) (λ _. tt)))))

jobs_free : (set : TaskSet) (ms : Members) → IsFree Memory (jobs_at set ms)
unfolding jobs_at
jobs_free set ms =
    bind_free Memory (of_script (optional [] (listed as_table) [] (codes "job") ms)) _
    (of_free _ (optional_free _ _ _ _ _)) (λ tables.
    if_free Memory (nat_lt most_jobs (length tables)) _ _ (λ e. cc)
    (each_free Memory (nth_job set) (λ i t. job_free set (item_path [] (codes "job") i) t) 0 tables))

cycles_free : (ms : Members) → IsFree Memory (cycles_at ms)
unfolding cycles_at
cycles_free ms =
    bind_free Memory (of_script (value_at_key [] (codes "cycles") ms)) _
    (of_free (value_at_key [] (codes "cycles") ms) (value_free [] (codes "cycles") ms)) (λ d.
    if_free Memory (is_above longest_time d) _ _ (λ e. cc)
    (of_free (value_or_bad [] (codes "cycles") (whole 1 longest_time d))
    (good_free [] (codes "cycles") (whole 1 longest_time d))))

script_free : (set : TaskSet) (ms : Members) → IsFree Memory (script_at set ms)
unfolding script_at
script_free set ms =
    bind_free Memory (of_script (all_known script_keys [] ms)) _ (of_free _ (known_free _ _ _)) (λ _.
    bind_free Memory (cycles_at ms) _ (cycles_free ms) (λ _.
    bind_free Memory (of_script (optional [] (listed block) [] (codes "cache") ms)) _
    (of_free _ (optional_free _ _ _ _ _)) (λ _.
    bind_free Memory (jobs_at set ms) _ (jobs_free set ms) (λ _. tt))))

document_free : (set : TaskSet) (o : Option Members) → IsFree Memory (document set o)
document_free set None = λ e. cc
document_free set (Some ms) = script_free set ms

reading_free : (bytes : List ℕ) (set : TaskSet) → IsFree Memory (reading bytes set)
unfolding reading
reading_free bytes set =
    if_free Memory (is_utf8 bytes) _ _ (document_free set (parse_document bytes)) (λ e. cc)

pub reading_never : (bytes : List ℕ) (set : TaskSet) → reading bytes set ≡ Err Memory → ⊥
reading_never bytes set = never Memory (reading bytes set) (reading_free bytes set)
