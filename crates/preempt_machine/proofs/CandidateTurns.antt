-- The turn of a candidate, with and without switch cycles.
use Rattle.std.proofs.Common.{◌≡◌, ℕ, ◌-◌, ◌<◌, true, false, List, length, Option, Some, None}
use Rattle.std.proofs.Common.{refl, sym, ◌∙◌, ap, subst, inl, inr, arith, get_or-set_same}
use Rattle.std.proofs.Common.{get_or-set_other, length-set, ◌==◌, ◌&&◌, nat_lt, is_some, option_map}
use Rattle.std.proofs.Common.{slice_set, if◌then◌else◌, IfSome, MatchOption}
use Rattle.std.proofs.lemmas.Bool.{cases_Bool, cases_eq}
use Rattle.std.proofs.lemmas.Bool.Decides.{nat_tests}
use Rattle.crpd_base.specs.declared.data.JobId.{JobId}
use Rattle.crpd_base.specs.declared.data.ScriptJob.{ScriptJob}
use Rattle.crpd_base.specs.declared.data.Switching.{Switching}
use Rattle.crpd_base.specs.declared.data.TaskPlan.{TaskPlan}
use Rattle.code_map.specs.Words.{Code}
use Rattle.icache.specs.Cache.{Cache}
use Rattle.icache.specs.declared.Access.{Access}
use Rattle.rv_core.specs.Memory.{Memory}
use Rattle.preempt_machine.specs.declared.Fetch.{Fetch}
use Rattle.preempt_machine.specs.Machine.{System, Job, Machine, ins_at, job_at, no_job}
use Rattle.preempt_machine.specs.Step.{candidate, candidate_by}
use Rattle.preempt_machine.specs.Step.{first_ready, turn_of, turn_after_step, turn_after_execution}
use Rattle.preempt_machine.specs.Step.{makes_fetch, fetch_by}
use Rattle.preempt_machine.specs.Jobs.{turn_by}
use Rattle.preempt_machine.specs.Inner.Jobs.{found_by}
use Rattle.preempt_machine.specs.declared.queue.Due.{Due}
use Rattle.preempt_machine.specs.Inner.Queue.{due_place, IsReleaseOrder, position_at}
use Rattle.preempt_machine.specs.Inner.Queue.{IsFirstReleased, NoneIsReleased}
use Rattle.preempt_machine.specs.Inner.Schedule.{HasTaskHeads, script_lines, IsOwner, IsHead}
use Rattle.preempt_machine.specs.Inner.Schedule.{owner_keeps}
use Rattle.preempt_machine.specs.Inner.Parts.{machine_of, HasTurned}
use Rattle.preempt_machine.specs.Running.{fetch_told, job_id, HasPlan, HasPlans}
use Rattle.preempt_machine.specs.declared.parts.Parts.{Parts}
use Rattle.preempt_machine.proofs.Firsts.{line_is, lines_long}
use Rattle.preempt_machine.proofs.Steps.{keeps_ready, ready_open}

-- a turn with k switch cycles left
with_switch : (sys : System) (m : Machine) (i k : ℕ) → (turn_of sys m i).switch_left ≡ k
    → turn_of sys m i ≡ turn_by m.cache m.memory k (job_at m.jobs i)
with_switch sys m i k e = ap (λ (n : ℕ). turn_by m.cache m.memory n (job_at m.jobs i)) e

pub turned_on : (sys : System) (m : Machine) (i : ℕ) (cache : Cache) (memory : Memory) (job : Job)
    → (turn_of sys m i).switch_left ≡ 0
    → turn_by cache memory 0 job
    ≡ turn_after_execution sys m.time (turn_by m.cache m.memory 0 (job_at m.jobs i))
    (ins_at sys (job_at m.jobs i).pc)
    → turn_after_step sys m.time (turn_of sys m i) ≡ turn_by cache memory 0 job
unfolding turn_after_step
turned_on sys m i cache memory job e h =
    ap (turn_after_step sys m.time) (with_switch sys m i 0 e) ∙ sym h

pub turned_off : (sys : System) (m : Machine) (i k : ℕ) → (turn_of sys m i).switch_left ≡ k → 0 < k
    → turn_after_step sys m.time (turn_of sys m i)
    ≡ turn_by m.cache m.memory (k - 1) (job_at m.jobs i)
unfolding turn_after_step
turned_off sys m i k e h =
    let b : nat_lt 0 k ≡ true = grind (arith, nat_tests) in
    ap (turn_after_step sys m.time) (with_switch sys m i k e) ∙ rw b refl

abbrev pub fetches : JobId → ℕ → Option Access → Option Fetch
fetches id pc found =
    option_map (λ (access : Access). record { job = id; address = pc; access = access }) found

pub fetch_made : (sys : System) (m : Machine) (i : ℕ) → (turn_of sys m i).switch_left ≡ 0
    → option_map (fetch_told sys m) (fetch_by sys m (Some i))
    ≡ fetches (job_id m i) (job_at m.jobs i).pc
    (found_by sys (turn_by m.cache m.memory 0 (job_at m.jobs i)))
fetch_made sys m i e =
    let job = job_at m.jobs i in
    let made : makes_fetch sys (turn_of sys m i)
    ≡ ((job.left == 0) && is_some (ins_at sys job.pc)) =
    ap (makes_fetch sys) (with_switch sys m i 0 e) in
    elim (cases_Bool ((job.left == 0) && is_some (ins_at sys job.pc))) [
      | inl b ↦ rw (made, b) refl
      | inr b ↦ rw (made, b) refl
    ]

pub no_fetch : (sys : System) (m : Machine) (i k : ℕ) → (turn_of sys m i).switch_left ≡ k → 0 < k
    → option_map (fetch_told sys m) (fetch_by sys m (Some i)) ≡ None
no_fetch sys m i k e h =
    let b : (k == 0) ≡ false = grind (arith, nat_tests) in
    let made : makes_fetch sys (turn_of sys m i) ≡ false =
    ap (makes_fetch sys) (with_switch sys m i k e) ∙ rw b refl in
    rw made refl

-- the jobs have plans, also with one of them replaced by another with a plan
pub plans_set : (plans : List TaskPlan) (jobs : List Job) (i : ℕ) (job : Job)
    → ((x : ℕ) → x < length jobs → HasPlan plans (job_at jobs x)) → HasPlan plans job → (x : ℕ)
    → x < length (slice_set jobs i job) → HasPlan plans (job_at (slice_set jobs i job) x)
plans_set plans jobs i job all one x h =
    let below : x < length jobs = omega (arith, length-set jobs i job) in
    elim (cases_eq x i) [
      | inl e ↦
          subst (λ (j : Job). HasPlan plans j)
          (sym (rw e (get_or-set_same jobs i job no_job (omega arith)))) one
      | inr ne ↦
          subst (λ (j : Job). HasPlan plans j) (sym (get_or-set_other jobs i x job no_job ne))
          (all x below)
    ]

-- the candidate, by whether the owner keeps the core
by_owner : (sys : System) (m : Machine) (o : Option ℕ)
    → candidate_by sys m o ≡ (if owner_keeps sys.platform.switching m.time m.jobs o then o
    else first_ready m.time m.jobs (length m.jobs))
by_owner sys m None = refl
by_owner sys m (Some o) = refl

pub candidate_is : (sys : System) (m : Machine)
    → candidate sys m ≡ (if owner_keeps sys.platform.switching m.time m.jobs m.owner then m.owner
    else first_ready m.time m.jobs (length m.jobs))
unfolding candidate
candidate_is sys m = by_owner sys m m.owner

-- an owner that keeps the core is the first of its task
pub keeping_head : (s : Switching) (time : ℕ) (jobs : List Job) (due : List Due)
    (heads : List (Option ℕ)) (owner : Option ℕ)
    → ((o : ℕ) → owner ≡ Some o → IsOwner jobs due heads o) → owner_keeps s time jobs owner ≡ true
    → IfSome owner (IsHead jobs due heads)
keeping_head s time jobs due heads None h t = tt
keeping_head s time jobs due heads (Some o) h t =
    let own = h o refl in
    record {
      below = own.below;
      first = own.first (ready_open time (job_at jobs o) (keeps_ready s time (job_at jobs o) t));
    }

-- the first job released by now is the first of its task
pub come_head : (jobs : List Job) (due : List Due) (heads : List (Option ℕ)) (now : ℕ)
    (found : Option ℕ) → IsReleaseOrder (script_lines jobs) due
    → HasTaskHeads (script_lines jobs) due heads jobs
    → MatchOption found (NoneIsReleased due heads now) (IsFirstReleased due heads now)
    → IfSome found (IsHead jobs due heads)
come_head jobs due heads now None d w h = tt
come_head jobs due heads now (Some x) d w f =
    let task : (job_at jobs x).line.task.0 ≡ f.task =
    ap (λ y. (job_at jobs y).line.task.0) f.is
    ∙ ap (λ (l : ScriptJob). l.task.0) (sym (line_is jobs (due_place due f.at)))
    ∙ w.head f.task f.at f.below f.come.head in
    record {
      below =
          subst (λ y. y < length jobs) (sym f.is)
          (omega (arith, d.places f.at f.come.inside, lines_long jobs));
      first = record {
        at = f.at;
        head = ap (position_at heads) task ∙ f.come.head;
        inside = f.come.inside;
        is = sym f.is;
      };
    }

-- the plans after a turn
pub plans_turned : (sys : System) (code : Code) (old new : Parts) (place : ℕ)
    → place < length old.schedule.jobs.items → HasTurned sys old new place
    → HasPlans code (machine_of old) → HasPlan code.plans (job_at new.schedule.jobs.items place)
    → HasPlans code (machine_of new)
plans_turned sys code old new place below turn all one =
    let job = (turn_after_step sys old.schedule.steps (turn_of sys (machine_of old) place)).job in
    let jobs : new.schedule.jobs.items ≡ slice_set old.schedule.jobs.items place job =
    ap (λ (m : Machine). m.jobs) turn.state in
    let own : job_at new.schedule.jobs.items place ≡ job =
    ap (λ (js : List Job). job_at js place) jobs
    ∙ get_or-set_same old.schedule.jobs.items place job no_job below in
    subst (λ (js : List Job). (x : ℕ) → x < length js → HasPlan code.plans (job_at js x)) (sym jobs)
    (plans_set code.plans old.schedule.jobs.items place job all
    (subst (λ (j : Job). HasPlan code.plans j) own one))
