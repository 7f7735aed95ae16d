-- The number of files and jobs of a generated input.
use Rattle.std.proofs.Common.{◌≡◌, ℕ, zero, suc, ◌+◌, ◌*◌, ◌/◌, ◌^◌, ◌<◌, ◌≤◌, List, length, map}
use Rattle.std.proofs.Common.{sym, ◌∙◌, arith, length-append}
use Rattle.std.specs.List.{flat_map, range_with_len}
use Rattle.std.proofs.Math.Nat.{div-le_self}
use Rattle.std.proofs.lemmas.List.FromFn.{length-map-range_with_len}
use Rattle.crpd_base.specs.Tasks.{jitter_of, period_of}
use Rattle.crpd_base.specs.declared.data.TaskSet.{TaskSet}
use Rattle.gen_tasks.specs.Draws.{state_after}
use Rattle.gen_tasks.specs.Jobs.{generated_job, jobs, jobs_at, jobs_before, jobs_of, job_count}
use Rattle.gen_tasks.specs.GeneratedInput.{made, generated_set}
use Rattle.gen_tasks.specs.Programs.{generated_file_at, generated_task_at}

-- the concatenation of lists of at most 400,000 items each
flat_few : {X : Type 0} (f : ℕ → List X) (a n : ℕ) → ((k : ℕ) → length (f k) ≤ 400000)
    → length (flat_map f (range_with_len a n)) ≤ n * 400000
flat_few f a zero each = omega arith
flat_few f a (suc n) each =
    let first : length (f a) ≤ 400000 = each a in
    let rest : length (flat_map f (range_with_len (a + 1) n)) ≤ n * 400000 =
    flat_few f (a + 1) n each in
    omega (arith, length-append (f a) (flat_map f (range_with_len (a + 1) n)))

few_of : (x i period jitter : ℕ) → length (jobs_of x i period jitter) ≤ 400000
unfolding jobs_of
few_of x i period jitter =
    let count : length (map (generated_job x i period jitter) (range_with_len 0 (job_count period)))
    ≡ job_count period =
    length-map-range_with_len (generated_job x i period jitter) 0 (job_count period) in
    let small : 399999 / period ≤ 399999 = div-le_self 399999 period in
    omega arith

tasks_of : (n : ℕ) → length (generated_set n).tasks ≡ 16
unfolding generated_set
tasks_of n = length-map-range_with_len (generated_task_at n) 0 16

jobs_few : (x : ℕ) (set : TaskSet) → length (jobs x set) ≤ length set.tasks * 400000
unfolding jobs
jobs_few x set =
    flat_few (jobs_at x set) 0 (length set.tasks)
    (λ i. few_of (state_after x (jobs_before set i)) i (period_of set i) (jitter_of set i))

pub made_files_count : (n : ℕ) → length (made n).files ≡ length (made n).set.tasks
unfolding made
made_files_count n = length-map-range_with_len (generated_file_at n) 0 16 ∙ sym (tasks_of n)

pub made_jobs_few : (n : ℕ) → length (made n).script.jobs < 2 ^ 32
unfolding made
made_jobs_few n =
    let few : length (jobs (state_after n 64) (generated_set n))
    ≤ length (generated_set n).tasks * 400000 = jobs_few (state_after n 64) (generated_set n) in
    let count : length (generated_set n).tasks ≡ 16 = tasks_of n in
    let all : length (jobs (state_after n 64) (generated_set n)) ≤ 16 * 400000 = rw count at few in
    omega arith
