-- What holds of a script that was read: its tasks are in the set, and its jobs are at most 10,000.
use Rattle.std.proofs.Common.{◌≡◌, ℕ, ◌<◌, ◌≤◌, ◌^◌, nat_lt, List, [], length, codes, Option, Some}
use Rattle.std.proofs.Common.{None, Result, Ok, Err, ap, subst, arith, inl, inr, All, IfOk}
use Rattle.std.specs.List.{AllByRecursion}
use Rattle.std.specs.Str.{is_utf8}
use Rattle.std.proofs.lemmas.Bool.{cases_Bool, ltb-false}
use Rattle.std.proofs.lemmas.Grind.{common_steps}
use Rattle.std.proofs.lemmas.List.Elements.{All-from_recursion}
use Rattle.crpd_base.proofs.Results.{bind_ok, ok_is}
use Rattle.crpd_base.specs.declared.data.ScriptJob.{ScriptJob}
use Rattle.crpd_base.specs.declared.data.Script.{Script}
use Rattle.crpd_base.specs.declared.data.TaskSet.{TaskSet}
use Rattle.crpd_base.specs.Tasks.{place_of_name}
use Rattle.toml.specs.Data.{Members, as_str, as_table}
use Rattle.toml.specs.Parse.{parse_document}
use Rattle.crpd_base.specs.Outcome.{Gives}
use Rattle.text_keys.specs.Paths.{each}
use Rattle.text_keys.specs.TomlKeys.{all_known, required, optional, whole, listed}
use Rattle.text_keys.proofs.Laws.{guard_ok, each_all, each_length}
use Rattle.script_reader.specs.declared.error.ScriptError.{ScriptError}
use Rattle.script_reader.specs.declared.error.ScriptError.TheVariants.{Memory, TooLong}
use Rattle.script_reader.specs.Reading.{of_script, job_keys, task_or_unknown}
use Rattle.script_reader.specs.Reading.{task_named, job_at, nth_job, jobs_at, script_keys}
use Rattle.script_reader.specs.Reading.{cycles_at, block, script_at, document, reading}

abbrev pub IsIn : TaskSet → ScriptJob → Type 0
IsIn set job = job.task.0 < length set.tasks

told_is : (path : List ℕ) (o : Option ℕ) (t : ℕ) → task_or_unknown path o ≡ Ok t → o ≡ Some t
told_is path None t e = absurd cc
told_is path (Some i) t e =
    elim (cases_Bool (nat_lt i 256)) [
      | inl lt ↦ ap (λ n. Some n) (ok_is i t (rw lt at e))
      | inr ge ↦ absurd (let f = rw ge at e in cc)
    ]

named_below : (path name : List ℕ) (set : TaskSet) (t : ℕ) → task_named path name set ≡ Ok t
    → t < length set.tasks
unfolding task_named
named_below path name set t e =
    let found : place_of_name set.tasks name ≡ Some t = told_is path _ t e in
    grind (arith, common_steps)

job_in : (set : TaskSet) (path : List ℕ) (ms : Members) (job : ScriptJob)
    → job_at set path ms ≡ Ok job → IsIn set job
unfolding job_at
job_in set path ms job e =
    let keys = bind_ok (of_script (all_known job_keys path ms)) _ job e in
    let name = bind_ok (of_script (required as_str path (codes "task") ms)) _ job keys.2 in
    let task = bind_ok (task_named path name.0 set) _ job name.2 in
    let arrival = bind_ok (of_script (required (whole 0 (2 ^ 40)) path (codes "arrival") ms)) _
    job task.2 in
    let release = bind_ok (of_script (required (whole 0 (2 ^ 40)) path (codes "release") ms)) _ job
    arrival.2 in
    subst (IsIn set)
    (ok_is (record { task = record { 0 = task.0 }; arrival = arrival.0; release = release.0 }) job
    release.2) (named_below path name.0 set task.0 task.1)

pub record AreFound (set : TaskSet) (jobs : List ScriptJob) : Type 0 where
  pub in_set : AllByRecursion (IsIn set) jobs
  pub few : length jobs ≤ 10000

jobs_in : (set : TaskSet) (ms : Members) (jobs : List ScriptJob) → jobs_at set ms ≡ Ok jobs
    → AreFound set jobs
unfolding jobs_at
jobs_in set ms jobs e =
    let tables = bind_ok (of_script (optional [] (listed as_table) [] (codes "job") ms)) _ jobs e in
    let few = guard_ok (nat_lt 10000 (length tables.0)) (TooLong (codes "job"))
    (each (nth_job set) 0 tables.0) jobs tables.2 in
    let short : length tables.0 ≤ 10000 = ltb-false _ _ few.0 in
    let same : length jobs ≡ length tables.0 = each_length (nth_job set) 0 tables.0 jobs few.1 in
    record {
      in_set =
          each_all (IsIn set) (nth_job set) (λ i t job is. job_in set _ t job is) 0
          tables.0 jobs few.1;
      few = omega arith;
    }

script_in : (set : TaskSet) (ms : Members) (s : Script) → script_at set ms ≡ Ok s
    → AreFound set s.jobs
unfolding script_at
script_in set ms s e =
    let keys = bind_ok (of_script (all_known script_keys [] ms)) _ s e in
    let cycles = bind_ok (cycles_at ms) _ s keys.2 in
    let cache = bind_ok (of_script (optional [] (listed block) [] (codes "cache") ms)) _
    s cycles.2 in
    let jobs = bind_ok (jobs_at set ms) _ s cache.2 in
    subst (λ (v : Script). AreFound set v.jobs)
    (ok_is (record { cycles = cycles.0; cache = cache.0; jobs = jobs.0 }) s jobs.2)
    (jobs_in set ms jobs.0 jobs.1)

document_in : (set : TaskSet) (o : Option Members) (s : Script) → document set o ≡ Ok s
    → AreFound set s.jobs
document_in set None s e = absurd cc
document_in set (Some ms) s e = script_in set ms s e

reading_in : (bytes : List ℕ) (set : TaskSet) (s : Script) → reading bytes set ≡ Ok s
    → AreFound set s.jobs
unfolding reading
reading_in bytes set s e =
    elim (cases_Bool (is_utf8 bytes)) [
      | inl text ↦ document_in set (parse_document bytes) s (rw text at e)
      | inr not_text ↦ absurd (let f = rw not_text at e in cc)
    ]

pub found_in : (bytes : List ℕ) (set : TaskSet) (r : Result Script ScriptError)
    → Gives Memory (λ x. x) r (reading bytes set)
    → IfOk r (λ s. All (λ (j : ScriptJob). j.task.0 < length set.tasks) s.jobs)
found_in bytes set (Ok s) h = All-from_recursion (IsIn set) s.jobs (reading_in bytes set s h).in_set
found_in bytes set (Err e) h = tt

pub found_few : (bytes : List ℕ) (set : TaskSet) (r : Result Script ScriptError)
    → Gives Memory (λ x. x) r (reading bytes set) → IfOk r (λ s. length s.jobs ≤ 10000)
found_few bytes set (Ok s) h = (reading_in bytes set s h).few
found_few bytes set (Err e) h = tt
