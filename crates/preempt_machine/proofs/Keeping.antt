-- What a stretch of steps leaves of the order and of the completions.
use Rattle.std.proofs.Common.{◌≡◌, ℕ, zero, suc, ◌+◌, ◌<◌, ◌≤◌, true, List, length, Option, Some}
use Rattle.std.proofs.Common.{refl, sym, subst, inl, inr, arith}
use Rattle.std.proofs.lemmas.Bool.{cases_lt}
use Rattle.crpd_base.specs.declared.data.ScriptJob.{ScriptJob}
use Rattle.preempt_machine.specs.declared.Completion.{Completion}
use Rattle.preempt_machine.specs.Machine.{System, Job, Machine, job_at}
use Rattle.preempt_machine.specs.Step.{candidate, is_open, run}
use Rattle.preempt_machine.specs.declared.queue.Due.{Due}
use Rattle.preempt_machine.specs.Inner.Queue.{due_release, HasHead}
use Rattle.preempt_machine.specs.Inner.Schedule.{IsHead, IsRepresented, AreReleased, heads_after}
use Rattle.preempt_machine.specs.Inner.Schedule.{completions_after}
use Rattle.preempt_machine.proofs.ReleaseOrder.{opened_none}
use Rattle.preempt_machine.proofs.Firsts.{before_or_from}
use Rattle.preempt_machine.proofs.Runs.{run_length, run_line, run_time}
use Rattle.preempt_machine.proofs.Stepping.{kept_some}
use Rattle.preempt_machine.specs.Stretch.{NoRelease}

-- no job is released between the releases already recorded and the next one
pub no_release : (sets : ℕ) (m : Machine) (due : List Due) (later heads : List (Option ℕ))
    (from to : ℕ) (cs new : List Completion) (k : ℕ) → IsRepresented sets m due later heads from cs
    → AreReleased due m.time from to cs new → (to < length due → m.time + k ≤ due_release due to)
    → NoRelease m k
no_release sets m due later heads from to cs new k kept r next x below =
    let come : (p : ℕ) → p < to → due_release due p < m.time + 1 = λ p l.
    elim (cases_lt p from) [
      | inl b ↦ let e = kept.released.before p b in omega (arith, e)
      | inr g ↦ let e = r.come p g l in omega (arith, e)
    ] in
    elim (before_or_from m.jobs due to (m.time + 1) (m.time + k) kept.due come next x below) [
      | inl l ↦ inl (omega (arith, l))
      | inr g ↦ inr g
    ]

-- while a job is open the order and the completions stay
heads_stay : (jobs : List Job) (later heads : List (Option ℕ)) (i : ℕ)
    → is_open (job_at jobs i).standing ≡ true → heads_after jobs later heads i ≡ heads
heads_stay jobs later heads i o = rw o refl

completions_stay : (jobs : List Job) (cs : List Completion) (i : ℕ)
    → is_open (job_at jobs i).standing ≡ true → completions_after jobs cs i ≡ cs
completions_stay jobs cs i o = rw o refl

pub head_stays : (sys : System) (m : Machine) (due : List Due) (heads : List (Option ℕ)) (i j : ℕ)
    → IsHead m.jobs due heads i → IsHead (run sys m j).jobs due heads i
head_stays sys m due heads i j h =
    let line = run_line sys m j i in
    record {
      below = omega (arith, h.below, run_length sys m j);
      first = subst (λ (l : ScriptJob). HasHead due heads l.task.0 i) (sym line) h.first;
    }

-- a state is kept after each of the steps of one candidate
pub kept_by : (sys : System) (sets : ℕ) (m : Machine) (due : List Due)
    (later heads : List (Option ℕ)) (from to : ℕ) (cs new : List Completion) (i k : ℕ)
    → IsRepresented sets m due later heads from cs → IsHead m.jobs due heads i
    → AreReleased due m.time from to cs new → (to < length due → m.time + k ≤ due_release due to)
    → ((j : ℕ) → j < k → candidate sys (run sys m j) ≡ Some i)
    → ((j : ℕ) → 1 ≤ j → j < k → is_open (job_at (run sys m j).jobs i).standing ≡ true) → (j : ℕ)
    → 1 ≤ j → j ≤ k → IsRepresented sets (run sys m j) due later
    (heads_after (run sys m j).jobs later heads i) to (completions_after (run sys m j).jobs new i)
kept_by sys sets m due later heads from to cs new i k kept h r next c o zero a b =
    absurd (omega arith)
kept_by sys sets m due later heads from to cs new i k kept h r next c o (suc zero) a b =
    kept_some sys sets m due later heads from to cs new i kept (c 0 (omega arith)) h r
kept_by sys sets m due later heads from to cs new i k kept h r next c o (suc (suc j)) a b =
    let n = run sys m (suc j) in
    let opening = o (suc j) (omega arith) (omega arith) in
    let one = kept_by sys sets m due later heads from to cs new i k kept h r next c o (suc j)
    (omega arith) (omega arith) in
    let two = subst (λ hs. IsRepresented sets n due later hs to (completions_after n.jobs new i))
    (heads_stay n.jobs later heads i opening) one in
    let three = subst (λ ds. IsRepresented sets n due later heads to ds)
    (completions_stay n.jobs new i opening) two in
    kept_some sys sets n due later heads to to new new i three (c (suc j) (omega arith))
    (head_stays sys m due heads i (suc j) h)
    (record {
      opens = opened_none due to new;
      rises = omega arith;
      within = λ w. w;
      come = λ p x y. absurd (omega arith);
      wait = λ w. omega (arith, run_time sys m (suc j), next w);
    })
