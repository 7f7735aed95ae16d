-- The machine at the start of a run, and what its calls report of it.
use Rattle.std.proofs.Common.{◌≡◌, ℕ, zero, suc, ◌+◌, ◌<◌, ◌≤◌, ◌≢◌, true, false, List, [], ◌∷◌}
use Rattle.std.proofs.Common.{◌++◌, length, length-append, take, Option, Some, None, refl, sym, ◌∙◌}
use Rattle.std.proofs.Common.{ap}
use Rattle.std.proofs.Common.{subst, inl, inr, arith}
use Rattle.std.specs.Prelude.{◌==◌, nat_le, if◌then◌else◌, map, slice_get}
use Rattle.std.proofs.lemmas.Bool.{cases_Bool, cases_lt, eq-eqb, false≢true, ne_eqb}
use Rattle.std.proofs.lemmas.Bool.Decides.{nat_tests}
use Rattle.std.proofs.lemmas.List.{ext_get_or, get_or-map, length-map, map-append, take_more}
use Rattle.std.proofs.Math.ListN.{get_or-append}
use Rattle.std.proofs.Math.Seq.{get_or-append_seam}
use Rattle.crpd_base.proofs.Options.{none_some}
use Rattle.crpd_base.specs.declared.data.JobId.{JobId}
use Rattle.crpd_base.specs.declared.data.ScriptJob.{ScriptJob}
use Rattle.crpd_base.specs.declared.data.TaskPlan.{TaskPlan}
use Rattle.preempt_machine.specs.declared.Completion.{Completion}
use Rattle.preempt_machine.specs.declared.End.TheVariants as «end»
use Rattle.std.proofs.lemmas.Option.{get_or_from_slice_get}
use Rattle.flow_watch.specs.Iterations.{HasIterations}
use Rattle.icache.specs.Cache.{Cache}
use Rattle.rv_core.specs.Memory.{Memory}
use Rattle.preempt_machine.specs.Machine.{System, Job, Machine, Open, job_at, new_job, no_job}
use Rattle.preempt_machine.specs.Machine.{number_in_script, start_machine}
use Rattle.preempt_machine.specs.Step.{is_open}
use Rattle.preempt_machine.specs.Candidate.{job_number, task_of}
use Rattle.preempt_machine.specs.Safe.{completions, end_by}
use Rattle.preempt_machine.specs.Running.{completion_at, job_id, HasPlan, IsJobAt}
use Rattle.preempt_machine.specs.Schedule.{script_line, completion}
use Rattle.preempt_machine.specs.declared.queue.Due.{Due}
use Rattle.preempt_machine.specs.Inner.Queue.{due_place, due_task, IsReleaseOrder, IsFirstAt}
use Rattle.preempt_machine.specs.Inner.Queue.{IsFirstFrom, position_at, IsLinked}
use Rattle.preempt_machine.specs.Inner.Schedule.{HasTaskHeads, script_lines, IsRepresented}
use Rattle.preempt_machine.proofs.Firsts.{line_is, lines_long}
use Rattle.preempt_machine.proofs.ReleaseOrder.{from_first}
use Rattle.preempt_machine.proofs.Numbers.{number_grows}

-- the number of jobs of a task before a place, one place later
pub number_next : (lines : List ScriptJob) (t k : ℕ) → k < length lines
    → number_in_script lines t (k + 1)
    ≡ number_in_script lines t k + (if (script_line lines k).task.0 == t then 1 else 0)
number_next [] t k h = absurd (omega arith)
number_next (l ∷ lines) t zero h = none lines where
  none : (ls : List ScriptJob)
      → (if l.task.0 == t then 1 else 0) + number_in_script ls t 0
      ≡ 0 + (if l.task.0 == t then 1 else 0)
  none [] = omega arith
  none (x ∷ xs) = omega arith
number_next (l ∷ lines) t (suc k) h =
    let e : suc k + 1 ≡ suc (k + 1) = omega arith in
    let rest = number_next lines t k (omega arith) in
    ap (number_in_script (l ∷ lines) t) e
    ∙ add (if l.task.0 == t then 1 else 0) (number_in_script lines t (k + 1))
    (number_in_script lines t k) (if (script_line lines k).task.0 == t then 1 else 0) rest
  where
    add : (a b c d : ℕ) → b ≡ c + d → a + b ≡ a + c + d
    add a b c d e = omega arith

pub number_same : (lines : List ScriptJob) (k : ℕ) → k < length lines
    → number_in_script lines (script_line lines k).task.0 (k + 1)
    ≡ number_in_script lines (script_line lines k).task.0 k + 1
number_same lines k h =
    let b : ((script_line lines k).task.0 == (script_line lines k).task.0) ≡ true =
    eq-eqb _ _ refl in
    number_next lines (script_line lines k).task.0 k h ∙ rw b refl

pub number_other : (lines : List ScriptJob) (t k : ℕ) → k < length lines
    → t ≢ (script_line lines k).task.0
    → number_in_script lines t (k + 1) ≡ number_in_script lines t k
number_other lines t k h ne =
    let b : ((script_line lines k).task.0 == t) ≡ false = ne_eqb _ _ (λ e. ne (sym e)) in
    number_next lines t k h ∙ rw b (omega arith)

pub number_start : (lines : List ScriptJob) (t : ℕ) → number_in_script lines t 0 ≡ 0
number_start [] t = refl
number_start (l ∷ lines) t = refl

pub number_bound : (lines : List ScriptJob) (t k : ℕ) → number_in_script lines t k ≤ k
number_bound [] t k = omega arith
number_bound (l ∷ lines) t zero = omega arith
number_bound (l ∷ lines) t (suc k) =
    elim (cases_Bool (l.task.0 == t)) [
      | inl b ↦ rw b (omega (arith, number_bound lines t k))
      | inr b ↦ rw b (omega (arith, number_bound lines t k))
    ]

-- the lines of new jobs
new_lines : (sys : System) (lines : List ScriptJob) → script_lines (map (new_job sys) lines) ≡ lines
new_lines sys [] = refl
new_lines sys (l ∷ lines) = ap (λ ls. l ∷ ls) (new_lines sys lines)

new_open : (sys : System) (lines : List ScriptJob) (x : ℕ) → x < length lines
    → job_at (map (new_job sys) lines) x ≡ new_job sys (script_line lines x)
new_open sys lines x h = get_or-map (new_job sys) lines x no_job.line no_job h

-- the representation of the start of a run
pub start_kept : (sets : ℕ) (sys : System) (cache : Cache) (memory : Memory)
    (lines : List ScriptJob) (due : List Due) (later heads : List (Option ℕ)) (cs : List Completion)
    → sets ≤ length cache → IsReleaseOrder lines due → IsLinked lines due later
    → ((x : ℕ) → x < length lines → (script_line lines x).task.0 < length heads)
    → ((t : ℕ) → t < length heads → IsFirstFrom lines due t 0 (position_at heads t))
    → length cs ≡ length lines
    → ((x : ℕ) → x < length lines → completion cs x ≡ record {
      job = record {
        task = (script_line lines x).task;
        number = number_in_script lines (script_line lines x).task.0 x;
      };
      «end» = «end».Unreleased;
    }) → IsRepresented sets (start_machine sys cache memory lines) due later heads 0 cs
start_kept sets sys cache memory lines due later heads cs room d k tasks first long told =
    let jobs = map (new_job sys) lines in
    let same = new_lines sys lines in
    let count = length-map lines (new_job sys) in
    let at : (t p : ℕ) → t < length heads → position_at heads t ≡ Some p
    → IsFirstAt lines due t 0 p = λ t p a is. subst (IsFirstFrom lines due t 0) is (first t a) in
    let opening : (x : ℕ) → x < length lines → is_open (job_at jobs x).standing ≡ true = λ x h.
    ap (λ (j : Job). is_open j.standing) (new_open sys lines x h) in
    record {
      room = room;
      due = subst (λ ls. IsReleaseOrder ls due) (sym same) d;
      linked = subst (λ ls. IsLinked ls due later) (sym same) k;
      waiting = subst (λ ls. HasTaskHeads ls due heads jobs) (sym same) (record {
        tasks = tasks;
        inside = λ t p a is. (at t p a is).inside;
        head = λ t p a is. (at t p a is).here;
        over = λ p a b.
            absurd (from_first lines due (due_task lines due p) 0 p
            (position_at heads (due_task lines due p))
            (first (due_task lines due p) (tasks (due_place due p) (d.places p a))) (omega arith) a
            refl b);
        open_still = λ p a b. opening (due_place due p) (d.places p a);
      });
      released = record {
        within = omega arith;
        before = λ p a. absurd (omega arith);
        after = λ p a b. omega arith;
      };
      over = λ x a b. absurd (false≢true (sym b ∙ opening x (omega (arith, count))));
      told = long ∙ sym count;
      completions = λ x a.
          let inside : x < length lines = omega (arith, count) in
          let is = new_open sys lines x inside in
          told x inside
          ∙ ap (λ (ls : List ScriptJob). record {
            job = record {
              task = (script_line lines x).task;
              number = number_in_script ls (script_line lines x).task.0 x;
            };
            «end» = «end».Unreleased;
          }) (sym same)
          ∙ ap (λ (l : ScriptJob). record {
            job = record {
              task = record { 0 = l.task.0 };
              number = number_in_script (script_lines jobs) l.task.0 x;
            };
            «end» = «end».Unreleased;
          }) (sym (ap (λ (j : Job). j.line) is))
          ∙ ap (λ e. record { job = job_id (start_machine sys cache memory lines) x; «end» = e })
          (waits (job_at jobs x).line.release
          ∙ ap (end_by 0 (job_at jobs x).line.release) (sym (ap (λ (j : Job). j.standing) is)));
      owner = λ o e. absurd (none_some e);
    }
  where
    waits : (release : ℕ) → «end».Unreleased ≡ end_by 0 release Open
    waits release = let b : nat_le 0 release ≡ true = grind (arith, nat_tests) in rw b refl

-- the representation of parts with that state
pub starts_kept : (sets : ℕ) (sys : System) (cache : Cache) (memory : Memory)
    (lines : List ScriptJob) (jobs : List Job) (count : ℕ) (due : List Due)
    (later heads : List (Option ℕ)) (cs : List Completion) → jobs ≡ map (new_job sys) lines
    → count ≡ 0 → sets ≤ length cache → IsReleaseOrder lines due → IsLinked lines due later
    → ((x : ℕ) → x < length lines → (script_line lines x).task.0 < length heads)
    → ((t : ℕ) → t < length heads → IsFirstFrom lines due t 0 (position_at heads t))
    → length cs ≡ length lines
    → ((x : ℕ) → x < length lines → completion cs x ≡ record {
      job = record {
        task = (script_line lines x).task;
        number = number_in_script lines (script_line lines x).task.0 x;
      };
      «end» = «end».Unreleased;
    }) → IsRepresented sets (record {
      time = 0;
      cache = cache;
      memory = memory;
      owner = None;
      switch_left = 0;
      jobs = jobs;
    }) due later heads count cs
starts_kept sets sys cache memory lines jobs count due later heads cs e f room d k tasks
    first long told =
    rw (
      e,
      f,
    ) (start_kept sets sys cache memory lines due later heads cs room d k tasks first long told)

-- one more job with its plan
pub plans_more : (plans : List TaskPlan) (jobs : List Job) (job : Job)
    → ((x : ℕ) → x < length jobs → HasPlan plans (job_at jobs x)) → HasPlan plans job → (x : ℕ)
    → x < length (jobs ++ job ∷ []) → HasPlan plans (job_at (jobs ++ job ∷ []) x)
plans_more plans jobs job all one x h =
    elim (cases_lt x (length jobs)) [
      | inl l ↦
          subst (λ (j : Job). HasPlan plans j) (sym (get_or-append jobs (job ∷ []) no_job x l))
          (all x l)
      | inr g ↦
          let e : x ≡ length jobs = omega (arith, length-append jobs (job ∷ [])) in
          subst (λ (j : Job). HasPlan plans j)
          (sym (ap (job_at (jobs ++ job ∷ [])) e ∙ get_or-append_seam jobs job [] no_job)) one
    ]

-- one more job of those that a script starts with
pub jobs_more : (sys : System) (lines : List ScriptJob) (jobs : List Job) (job : Job) (i : ℕ)
    → i < length lines → jobs ≡ map (new_job sys) (take i lines)
    → job ≡ new_job sys (script_line lines i)
    → jobs ++ job ∷ [] ≡ map (new_job sys) (take (i + 1) lines)
jobs_more sys lines jobs job i h e f =
    rw (
      e,
      f,
    ) (sym (ap (map (new_job sys)) (take_more lines i no_job.line h)
    ∙ map-append (new_job sys) (take i lines) (script_line lines i ∷ [])))

-- one more completion
pub completions_more : (cs : List Completion) (c : Completion) (give : ℕ → Completion) (i : ℕ)
    → length cs ≡ i → ((x : ℕ) → x < i → completion cs x ≡ give x) → c ≡ give i → (x : ℕ)
    → x < i + 1 → completion (cs ++ c ∷ []) x ≡ give x
completions_more cs c give i long all one x h =
    elim (cases_lt x i) [
      | inl l ↦ get_or-append cs (c ∷ []) _ x (omega (arith, long)) ∙ all x l
      | inr g ↦
          let e : x ≡ length cs = omega (arith, long) in
          ap (completion (cs ++ c ∷ [])) e ∙ get_or-append_seam cs c [] _ ∙ one
          ∙ ap give (sym (e ∙ long))
    ]

-- the completions of a state
pub ends_are : (m : Machine) (cs : List Completion) → length cs ≡ length m.jobs
    → ((x : ℕ) → x < length m.jobs → completion cs x ≡ completion_at m x)
    → map (λ (c : Completion). c.«end») cs ≡ completions m
ends_are m cs long each =
    let none = completion [] 0 in
    let give = λ (c : Completion). c.«end» in
    let tell = λ (job : Job). end_by m.time job.line.release job.standing in
    ext_get_or none.«end» (map give cs) (completions m)
    (length-map cs give ∙ long ∙ sym (length-map m.jobs tell))
    (λ i h.
    let inside : i < length cs = omega (arith, length-map cs give) in
    get_or-map give cs i none none.«end» inside
    ∙ ap give (each i (omega (arith, long)))
    ∙ sym (get_or-map tell m.jobs i no_job none.«end» (omega (arith, long))))

-- a job is at one place
pub one_place : (m : Machine) (job : JobId) (x y : ℕ) → IsJobAt m job x → IsJobAt m job y → x ≡ y
one_place m job x y a b =
    elim (cases_lt x y) [
      | inl l ↦ absurd (apart x y a b l)
      | inr g ↦ elim (cases_lt y x) [ inl l ↦ absurd (apart y x b a l) | inr k ↦ omega arith ]
    ]
  where
    apart : (p q : ℕ) → IsJobAt m job p → IsJobAt m job q → p < q → ⊥
    apart p q c d l =
        let task = ap (λ (line : ScriptJob). line.task.0) (line_is m.jobs p) in
        let grows = number_grows (script_lines m.jobs) p q (task_of m p) no_job.line l
        (omega (arith, d.below, lines_long m.jobs)) task in
        let same : number_in_script (script_lines m.jobs) (task_of m p) q ≡ job_number m q =
        ap (λ t. number_in_script (script_lines m.jobs) t q) (sym c.task ∙ d.task) in
        omega (arith, c.number, d.number)

pub at_place : (m : Machine) (job : JobId) (x : ℕ) → x < length m.jobs → job_id m x ≡ job
    → IsJobAt m job x
at_place m job x h e =
    record {
      below = h;
      task = sym (ap (λ (j : JobId). j.task.0) e);
      number = sym (ap (λ (j : JobId). j.number) e);
    }

pub id_at : (m : Machine) (job : JobId) (x : ℕ) → IsJobAt m job x → job_id m x ≡ job
id_at m job x h = by_parts job (job_id m x) h.task h.number where
  by_parts : (a b : JobId) → a.task.0 ≡ b.task.0 → a.number ≡ b.number → b ≡ a
  by_parts a b e f =
      ap (λ n. record { task = record { 0 = n }; number = b.number }) (sym e)
      ∙ ap (λ n. record { task = a.task; number = n }) (sym f)

pub has_plan : (plans : List TaskPlan) (line : ScriptJob) (plan : TaskPlan) (job : Job)
    → job.line ≡ line → line.task.0 < length plans → slice_get plans line.task.0 ≡ Some plan
    → HasIterations (length plan.loops) job.watch → HasPlan plans job
has_plan plans line plan job e below there turns =
    let found = get_or_from_slice_get plans line.task.0 plan
    (record { entry = 0; stack = 0; global = 0; loops = [] }) there in
    rw e
    (record {
      task = below;
      loops = subst (λ (p : TaskPlan). HasIterations (length p.loops) job.watch) (sym found) turns;
    })
