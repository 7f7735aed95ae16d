-- The most cycles that remain for a job.
use Rattle.std.specs.Prelude.{ℕ, ◌+◌, Bool, false, not, ◌&&◌, ◌||◌, ◌==◌, if◌then◌else◌, List}
use Rattle.std.specs.Prelude.{◌∷◌, Option, Some, None}
use Rattle.crpd_base.specs.declared.data.TaskPlan.{TaskPlan}
use Rattle.rv_decode.specs.declared.Ins.{Ins}
use Rattle.rv_decode.specs.Address.{end_address}
use Rattle.rv_core.specs.declared.Next.{Next}
use Rattle.rv_core.specs.declared.Next.TheVariants.{Goto, Answer, Fault}
use Rattle.rv_core.specs.Effect.{next_pc}
use Rattle.flow_watch.specs.Watch.{is_unbroken, step as watch_step}
use Rattle.loop_regions.specs.TaskGraph.{TaskGraph}
use Rattle.preempt_machine.specs.Machine.{System, Job, ins_at}
use Rattle.preempt_machine.specs.Step.{is_open}
use Rattle.run_account.specs.Nodes.{node_number, node_of_job}
use Rattle.sound_laws.specs.Walks.{before_of}

-- the rest of the walk, by what remains of walks, after the instruction under way; 0 if that completes the job, faults or
-- breaks the watch
abbrev pub rest_after : TaskPlan → TaskGraph → (List ℕ → ℕ) → Job → List ℕ → Ins → Next → ℕ
rest_after plan t rest job walk ins (Goto to) =
    let w = watch_step plan job.watch job.pc ins to in
    if not (to == end_address) && is_unbroken w then rest (node_number t w to ∷ walk)
    else 0
rest_after plan t rest job walk ins Answer = 0
rest_after plan t rest job walk ins Fault = 0

-- the same for an optional instruction
abbrev pub rest_of_ins : TaskPlan → TaskGraph → (List ℕ → ℕ) → Job → List ℕ → Option Ins → ℕ
rest_of_ins plan t rest job walk None = 0
rest_of_ins plan t rest job walk (Some ins) =
    rest_after plan t rest job walk ins (next_pc ins job.pc job.registers)

-- the walk to a job's node
abbrev pub walk_of : TaskGraph → Job → List ℕ → List ℕ
walk_of t job nodes = node_of_job t job ∷ before_of job nodes

-- the rest of a job's walk after fetches at these nodes: from its node on, or after its node if an
-- instruction is under way
abbrev pub rest_of_walk : System → TaskPlan → TaskGraph → (List ℕ → ℕ) → Job → List ℕ → ℕ
rest_of_walk sys plan t rest job nodes =
    if job.left == 0 then rest (walk_of t job nodes)
    else rest_of_ins plan t rest job (walk_of t job nodes) (ins_at sys job.pc)

-- the most cycles that remain for a job: those left of its instruction, and the rest
abbrev pub cycles_to_go : System → TaskPlan → TaskGraph → (List ℕ → ℕ) → Job → List ℕ → ℕ
cycles_to_go sys plan t rest job nodes =
    if is_open job.standing then job.left + rest_of_walk sys plan t rest job nodes else 0

-- whether the instruction under way leaves the job open, with its watch unbroken
abbrev pub goes_on : TaskPlan → Job → Ins → Next → Bool
goes_on plan job ins (Goto to) =
    not (to == end_address) && is_unbroken (watch_step plan job.watch job.pc ins to)
goes_on plan job ins Answer = false
goes_on plan job ins Fault = false

-- the same for an optional instruction
abbrev pub ins_goes_on : TaskPlan → Job → Option Ins → Bool
ins_goes_on plan job None = false
ins_goes_on plan job (Some ins) = goes_on plan job ins (next_pc ins job.pc job.registers)

-- whether an open job has a rest: no instruction is under way, or the job continues after it
abbrev pub has_rest : System → TaskPlan → Job → Bool
has_rest sys plan job = (job.left == 0) || ins_goes_on plan job (ins_at sys job.pc)
