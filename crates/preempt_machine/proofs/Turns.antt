-- A turn of a job as the program makes it.
use Rattle.std.proofs.Common.{◌≡◌, ℕ, ◌<◌, ◌≤◌, true, false, Option, Some, refl, sym, ◌∙◌, ap}
use Rattle.std.proofs.Common.{arith}
use Rattle.std.specs.Prelude.{◌==◌, nat_lt, Result, Ok, Err, OnOk, OnErr, length, slice_get, []}
use Rattle.std.proofs.lemmas.Bool.Decides.{nat_tests}
use Rattle.std.proofs.lemmas.Option.{get_or_from_slice_get}
use Rattle.crpd_base.specs.declared.data.TaskPlan.{TaskPlan}
use Rattle.rv_core.specs.declared.Next.{Next}
use Rattle.rv_core.specs.declared.Next.TheVariants.{Goto, Answer, Fault}
use Rattle.rv_core.specs.Effect.{next_pc}
use Rattle.rv_core.specs.Memory.{Memory}
use Rattle.rv_decode.specs.declared.Ins.{Ins}
use Rattle.icache.specs.Cache.{Cache, cache_after_access, block_of}
use Rattle.flow_watch.specs.Iterations.{HasIterations}
use Rattle.preempt_machine.specs.Machine.{System, Job, plan_of}
use Rattle.preempt_machine.specs.Step.{Turn, turn_after_execution, turn_after_fetch, fetch_cost}
use Rattle.preempt_machine.specs.Step.{turn_after_effect, turn_after_cycle}
use Rattle.preempt_machine.specs.Jobs.{turn_by}
use Rattle.preempt_machine.specs.Running.{HasPlan}
use Rattle.preempt_machine.proofs.Steps.{executed_line}

pub on_err_of : {T E : Type 0} (r : Result T E) (P : Type 0) → P → OnErr r P
on_err_of (Ok x) P p = tt
on_err_of (Err e) P p = p

pub on_ok_both : {T E P Q R : Type 0} (r : Result T E) → (P → Q → R) → OnOk r P
    → OnOk r Q → OnOk r R
on_ok_both (Ok x) f p q = f p q
on_ok_both (Err e) f p q = tt

pub on_err_both : {T E P Q R : Type 0} (r : Result T E) → (P → Q → R) → OnErr r P
    → OnErr r Q → OnErr r R
on_err_both (Ok x) f p q = tt
on_err_both (Err e) f p q = f p q

-- the effect does not depend on the cycles left
pub went_left : (sys : System) (n : ℕ) (ins : Ins) (cache : Cache) (memory : Memory) (k l : ℕ)
    (job : Job) (next : Next)
    → turn_after_effect sys n ins (turn_by cache memory k job) next
    ≡ turn_after_effect sys n ins (turn_by cache memory k (record job { left = l })) next
went_left sys n ins cache memory k l job (Goto to) = refl
went_left sys n ins cache memory k l job Answer = refl
went_left sys n ins cache memory k l job Fault = refl

-- the last cycle of an instruction
pub works_last : (sys : System) (n : ℕ) (ins : Ins) (cache : Cache) (memory : Memory) (k l : ℕ)
    (job : Job) → l ≤ 1 → turn_after_effect sys n ins (turn_by cache memory k job)
    (next_pc ins job.pc job.registers)
    ≡ turn_after_cycle sys n ins (turn_by cache memory k (record job { left = l }))
works_last sys n ins cache memory k l job h =
    let b : nat_lt 1 l ≡ false = grind (arith, nat_tests) in
    rw b (went_left sys n ins cache memory k l job (next_pc ins job.pc job.registers))

-- an instruction under way is not fetched again
pub under_way : (sys : System) (ins : Ins) (cache : Cache) (memory : Memory) (k l : ℕ) (job : Job)
    → l ≡ job.left → 0 < l → turn_by cache memory k (record job { left = l })
    ≡ turn_after_fetch sys ins (turn_by cache memory k job)
under_way sys ins cache memory k l job e h =
    let b : (job.left == 0) ≡ false = grind (arith, nat_tests) in
    rw (e, b) refl

-- if none is under way it is fetched
pub newly : (sys : System) (ins : Ins) (cache : Cache) (memory : Memory) (k l : ℕ) (job : Job)
    → job.left ≡ 0 → l ≡ fetch_cost sys ins (turn_by cache memory k job)
    → turn_by (cache_after_access sys.platform cache (block_of sys.platform job.pc)) memory k
    (record job { left = l }) ≡ turn_after_fetch sys ins (turn_by cache memory k job)
newly sys ins cache memory k l job h e =
    let b : (job.left == 0) ≡ true = grind (arith, nat_tests) in
    rw (b, e) refl

pub newly_left : (sys : System) (ins : Ins) (cache : Cache) (memory : Memory) (k l : ℕ) (job : Job)
    → job.left ≡ 0 → l ≡ fetch_cost sys ins (turn_by cache memory k job)
    → (turn_after_fetch sys ins (turn_by cache memory k job)).job.left ≡ l
newly_left sys ins cache memory k l job h e =
    ap (λ (t : Turn). t.job.left) (sym (newly sys ins cache memory k l job h e))

-- the plan of a task by its place
pub plan_is : (sys : System) (task : ℕ) (plan : TaskPlan) → slice_get sys.plans task ≡ Some plan
    → plan_of sys task ≡ plan
plan_is sys task plan h =
    get_or_from_slice_get sys.plans task plan
    (record { entry = 0; stack = 0; global = 0; loops = [] }) h

-- a job keeps its plan after a turn
pub keeps_plan : (sys : System) (n : ℕ) (cache after : Cache) (memory new : Memory) (old job : Job)
    (ins : Option Ins) → turn_by after new 0 job
    ≡ turn_after_execution sys n (turn_by cache memory 0 old) ins → HasPlan sys.plans old
    → HasIterations (length (plan_of sys old.line.task.0).loops) job.watch → HasPlan sys.plans job
keeps_plan sys n cache after memory new old job ins e h turns =
    let same : job.line ≡ old.line = ap (λ (t : Turn). t.job.line) e
    ∙ executed_line sys n (turn_by cache memory 0 old) ins in
    rw same (record { task = h.task; loops = turns })
