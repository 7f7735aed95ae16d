-- The state after a step, from the parts of the step.
use Rattle.std.proofs.Common.{◌≡◌, ℕ, suc, List, length, Option, Some, sym, ◌∙◌, ap, subst}
use Rattle.std.proofs.Common.{arith, option_map}
use Rattle.icache.specs.declared.Geometry.{Geometry}
use Rattle.crpd_base.specs.declared.data.ScriptJob.{ScriptJob}
use Rattle.preempt_machine.specs.declared.Completion.{Completion}
use Rattle.preempt_machine.specs.declared.parts.Parts.{Parts}
use Rattle.preempt_machine.specs.declared.queue.Queue.{Queue}
use Rattle.preempt_machine.specs.declared.schedule.Schedule.{Schedule}
use Rattle.preempt_machine.specs.Machine.{System, Job, Machine, job_at}
use Rattle.preempt_machine.specs.Step.{candidate, fetch_by, step, step_by}
use Rattle.preempt_machine.specs.Running.{fetch_told}
use Rattle.preempt_machine.specs.declared.queue.Due.{Due}
use Rattle.preempt_machine.specs.Inner.Queue.{HasHead}
use Rattle.preempt_machine.specs.Inner.Schedule.{machine_by, IsHead, IsRepresented, IsScheduled}
use Rattle.preempt_machine.specs.Inner.Schedule.{AreReleased, heads_after, completions_after}
use Rattle.preempt_machine.specs.Inner.Schedule.{HasToldEnd, HasPassed}
use Rattle.preempt_machine.specs.Inner.Parts.{machine_of, IsMachine, HasTurned, HasStepped}
use Rattle.preempt_machine.proofs.Stepping.{kept_some}
use Rattle.preempt_machine.proofs.Steps.{step_length, step_line}

-- equal parts have equal representations
pub kept_along : (sets other_sets : ℕ) (m n : Machine) (due order : List Due)
    (later links heads firsts : List (Option ℕ)) (count number : ℕ) (cs ds : List Completion)
    → other_sets ≡ sets → n ≡ m → order ≡ due → links ≡ later → firsts ≡ heads → number ≡ count
    → ds ≡ cs → IsRepresented sets m due later heads count cs
    → IsRepresented other_sets n order links firsts number ds
kept_along sets other_sets m n due order later links heads firsts count number cs ds a b c d e f g
    k = rw (a, b, c, d, e, f, g) k

-- the state after a turn and the cycle of it
abbrev pub passed : Parts → Schedule → Machine
passed turn pass = machine_by turn.core.cache turn.core.memory pass

pub taken_state : (sys : System) (old turn : Parts) (pass : Schedule) (place : ℕ)
    → candidate sys (machine_of old) ≡ Some place → HasTurned sys old turn place
    → HasPassed turn.schedule pass → passed turn pass ≡ step sys (machine_of old)
taken_state sys old turn pass place e t p =
    p.state turn.core.cache turn.core.memory
    ∙ ap (λ (n : ℕ). record (machine_of turn) { time = suc n }) t.steps
    ∙ t.state
    ∙ sym (ap (step_by sys (machine_of old)) e)

-- the job that had its turn is still the first of its task
pub taken_head : (sys : System) (old turn : Parts) (pass : Schedule) (place : ℕ)
    → candidate sys (machine_of old) ≡ Some place
    → IsHead old.schedule.jobs.items old.schedule.queue.due.items old.schedule.queue.heads.items
    place → HasTurned sys old turn place → HasPassed turn.schedule pass
    → IsHead pass.jobs.items pass.queue.due.items pass.queue.heads.items place
taken_head sys old turn pass place e h t p =
    let m = machine_of old in
    let jobs : pass.jobs.items ≡ (step sys m).jobs =
    ap (λ (n : Machine). n.jobs) (taken_state sys old turn pass place e t p) in
    let due : pass.queue.due.items ≡ old.schedule.queue.due.items =
    p.due ∙ ap (λ (q : Queue). q.due.items) t.queue in
    let heads : pass.queue.heads.items ≡ old.schedule.queue.heads.items =
    p.heads ∙ ap (λ (q : Queue). q.heads.items) t.queue in
    rw (
      jobs,
      due,
      heads,
    ) (stays m.jobs (step sys m).jobs old.schedule.queue.due.items old.schedule.queue.heads.items
    place (step_length sys m) (step_line sys m place) h)
  where
    stays : (js ks : List Job) (due : List Due) (heads : List (Option ℕ)) (x : ℕ)
        → length ks ≡ length js → (job_at ks x).line ≡ (job_at js x).line
        → IsHead js due heads x → IsHead ks due heads x
    stays js ks due heads x long line k =
        record {
          below = omega (arith, k.below);
          first = subst (λ (l : ScriptJob). HasHead due heads l.task.0 x) (sym line) k.first;
        }

pub taken_kept : (sys : System) (old turn : Parts) (pass settle : Schedule) (place : ℕ)
    → IsMachine old → candidate sys (machine_of old) ≡ Some place
    → IsHead old.schedule.jobs.items old.schedule.queue.due.items old.schedule.queue.heads.items
    place → HasTurned sys old turn place → HasPassed turn.schedule pass
    → HasToldEnd pass settle place
    → IsScheduled turn.core.geometry.platform.sets turn.core.cache turn.core.memory settle
taken_kept sys old turn pass settle place k e h t p s =
    let m = machine_of old in
    let sets = old.core.geometry.platform.sets in
    let due = old.schedule.queue.due.items in
    let later = old.schedule.queue.later.items in
    let heads = old.schedule.queue.heads.items in
    let told = pass.completions.items in
    let jobs : pass.jobs.items ≡ (step sys m).jobs =
    ap (λ (n : Machine). n.jobs) (taken_state sys old turn pass place e t p) in
    let released : AreReleased due old.schedule.steps old.schedule.queue.released
    pass.queue.released old.schedule.completions.items told =
    let one = subst (λ (n : ℕ).
    AreReleased turn.schedule.queue.due.items n turn.schedule.queue.released pass.queue.released
    turn.schedule.completions.items told) t.steps p.released in
    let two = subst (λ (q : Queue).
    AreReleased q.due.items old.schedule.steps q.released pass.queue.released
    turn.schedule.completions.items told) t.queue one in
    subst (λ cs. AreReleased due old.schedule.steps old.schedule.queue.released pass.queue.released
    cs.items told) t.completions two in
    kept_along sets turn.core.geometry.platform.sets
    (step sys m) (passed turn settle)
    due settle.queue.due.items later settle.queue.later.items
    (heads_after (step sys m).jobs later heads place) settle.queue.heads.items
    pass.queue.released settle.queue.released
    (completions_after (step sys m).jobs told place) settle.completions.items
    (ap (λ (g : Geometry). g.platform.sets) t.geometry)
    (s.state turn.core.cache turn.core.memory ∙ taken_state sys old turn pass place e t p)
    (s.due ∙ p.due ∙ ap (λ (q : Queue). q.due.items) t.queue)
    (s.later ∙ p.later ∙ ap (λ (q : Queue). q.later.items) t.queue)
    (s.heads
    ∙ ap (λ (js : List Job). heads_after js pass.queue.later.items pass.queue.heads.items place)
    jobs
    ∙ ap (λ (ls : List (Option ℕ)). heads_after (step sys m).jobs ls pass.queue.heads.items place)
    (p.later ∙ ap (λ (q : Queue). q.later.items) t.queue)
    ∙ ap (λ (hs : List (Option ℕ)). heads_after (step sys m).jobs later hs place)
    (p.heads ∙ ap (λ (q : Queue). q.heads.items) t.queue))
    s.released
    (s.completions ∙ ap (λ (js : List Job). completions_after js told place) jobs)
    (kept_some sys sets m due later heads old.schedule.queue.released pass.queue.released
    old.schedule.completions.items told place k e h released)

-- each job still has a completion
pub taken_told : (sys : System) (old turn : Parts) (pass : Schedule) (place : ℕ) → IsMachine old
    → candidate sys (machine_of old) ≡ Some place → HasTurned sys old turn place
    → HasPassed turn.schedule pass → length pass.completions.items ≡ length pass.jobs.items
taken_told sys old turn pass place k e t p =
    let jobs = ap (λ (n : Machine). length n.jobs) (taken_state sys old turn pass place e t p) in
    p.released.opens.long
    ∙ ap (λ cs. length cs.items) t.completions
    ∙ k.told
    ∙ sym (step_length sys (machine_of old))
    ∙ sym jobs

-- a turn, its cycle and what is recorded of it are a step
pub taken_step : (sys : System) (old turn : Parts) (pass settle : Schedule) (place : ℕ)
    → candidate sys (machine_of old) ≡ Some place → HasTurned sys old turn place
    → HasPassed turn.schedule pass → HasToldEnd pass settle place
    → HasStepped sys old (record turn { schedule = settle })
taken_step sys old turn pass settle place e t p s =
    let m = machine_of old in
    record {
      state = s.state turn.core.cache turn.core.memory ∙ taken_state sys old turn pass place e t p;
      fetch =
          t.fetch ∙ ap (λ (c : Option ℕ). option_map (fetch_told sys m) (fetch_by sys m c)) (sym e);
      geometry = t.geometry;
    }

pub taken_jobs : (turn : Parts) (pass settle : Schedule) (place : ℕ) → HasPassed turn.schedule pass
    → HasToldEnd pass settle place → settle.jobs.items ≡ turn.schedule.jobs.items
taken_jobs turn pass settle place p s =
    ap (λ (n : Machine). n.jobs)
    (s.state turn.core.cache turn.core.memory ∙ p.state turn.core.cache turn.core.memory)
