-- A broken watch stays broken. So a flag that is updated from the owner alone says whether no watch
-- is broken.
use Rattle.std.proofs.Common.{◌≡◌, ℕ, ◌<◌, Bool, true, false, ◌&&◌, List, length, Option, Some}
use Rattle.std.proofs.Common.{None, refl, sym, ◌∙◌, ap, subst, inl, inr, arith, ◌↔◌, nat_lt, IsTrue}
use Rattle.std.proofs.lemmas.Bool.{cases_Bool, cases_eq, and_from, and_parts, false≢true}
use Rattle.std.proofs.lemmas.Bool.{true≢false}
use Rattle.std.proofs.lemmas.List.{get_or_default}
use Rattle.flow_watch.proofs.Steps.{step_none}
use Rattle.crpd_base.proofs.Options.{some_injective, same_or_not}
use Rattle.rv_decode.specs.declared.Ins.{Ins}
use Rattle.rv_core.specs.declared.Next.{Next}
use Rattle.rv_core.specs.declared.Next.TheVariants.{Goto, Answer, Fault}
use Rattle.rv_core.specs.Effect.{next_pc}
use Rattle.flow_watch.specs.Watch.{Watch, is_unbroken}
use Rattle.preempt_machine.specs.Inner.KeptFlag.{kept_at, owner_is_kept, ChangesOwner}
use Rattle.preempt_machine.specs.Machine.{System, Job, Machine, ins_at, job_at, no_job, plan_of}
use Rattle.preempt_machine.specs.Safe.{IsKept}
use Rattle.preempt_machine.specs.Step.{Turn, candidate, turn_after_execution, turn_after_fetch}
use Rattle.preempt_machine.specs.Step.{step, turn_after_step, turn_of, turn_after_effect}
use Rattle.preempt_machine.specs.Step.{turn_after_cycle}
use Rattle.preempt_machine.proofs.Steps.{step_length, step_other, step_own}
use Rattle.preempt_machine.proofs.TurnLaws.{fetched_watch}

went_watch : (sys : System) (n : ℕ) (ins : Ins) (t : Turn) (next : Next) → t.job.watch ≡ None
    → (turn_after_effect sys n ins t next).job.watch ≡ None
went_watch sys n ins t (Goto to) e =
    rw e (step_none (plan_of sys t.job.line.task.0) t.job.pc ins to)
went_watch sys n ins t Answer e = e
went_watch sys n ins t Fault e = e

worked_watch : (sys : System) (n : ℕ) (ins : Ins) (t : Turn) → t.job.watch ≡ None
    → (turn_after_cycle sys n ins t).job.watch ≡ None
worked_watch sys n ins t e =
    elim (cases_Bool (nat_lt 1 t.job.left)) [
      | inl b ↦ rw b e
      | inr b ↦ rw b (went_watch sys n ins t (next_pc ins t.job.pc t.job.registers) e)
    ]

executed_watch : (sys : System) (n : ℕ) (t : Turn) (ins : Option Ins) → t.job.watch ≡ None
    → (turn_after_execution sys n t ins).job.watch ≡ None
executed_watch sys n t None e = e
executed_watch sys n t (Some ins) e =
    worked_watch sys n ins (turn_after_fetch sys ins t) (fetched_watch sys ins t ∙ e)

pub turned_watch : (sys : System) (n : ℕ) (t : Turn) → t.job.watch ≡ None
    → (turn_after_step sys n t).job.watch ≡ None
unfolding turn_after_step
turned_watch sys n t e =
    elim (cases_Bool (nat_lt 0 t.switch_left)) [
      | inl b ↦ rw b e
      | inr b ↦ rw b (executed_watch sys n t (ins_at sys t.job.pc) e)
    ]

-- a watch that is not broken was not broken before
broken_is : (w : Watch) → is_unbroken w ≡ false → w ≡ None
broken_is None h = refl
broken_is (Some frames) h = absurd (true≢false h)

pub unbroken_before : (old new : Watch) → (old ≡ None → new ≡ None) → is_unbroken new ≡ true
    → is_unbroken old ≡ true
unbroken_before old new stays k =
    elim (cases_Bool (is_unbroken old)) [
      | inl b ↦ b
      | inr b ↦ absurd (false≢true (ap is_unbroken (sym (stays (broken_is old b))) ∙ k))
    ]

-- a step of a candidate changes no other job
pub step_changes : (sys : System) (m : Machine) (i : ℕ) → candidate sys m ≡ Some i
    → ChangesOwner m (step sys m)
step_changes sys m i e =
    let other : (x : ℕ) → (x ≡ i → ⊥) → job_at (step sys m).jobs x ≡ job_at m.jobs x = λ x ne.
    step_other sys m x (λ f. ne (sym (some_injective (sym e ∙ f)))) in
    let owner : (step sys m).owner ≡ Some i = rw e refl in
    record {
      long = step_length sys m;
      others = λ x ne. other x (λ same. ne (owner ∙ ap Some (sym same)));
      before = λ x k. elim (cases_eq x i) [
        | inl same ↦
            let own = step_own sys m i e in
            let now : is_unbroken (turn_after_step sys m.time (turn_of sys m i)).job.watch ≡ true =
            ap (λ (j : Job). is_unbroken j.watch) (sym own)
            ∙ ap (λ y. is_unbroken (job_at (step sys m).jobs y).watch) (sym same) ∙ k in
            ap (λ y. is_unbroken (job_at m.jobs y).watch) same
            ∙ unbroken_before (job_at m.jobs i).watch _
            (turned_watch sys m.time (turn_of sys m i)) now
        | inr ne ↦ ap (λ (j : Job). is_unbroken j.watch) (sym (other x ne)) ∙ k
      ];
    }

-- steps in which no job is ready change no job either
pub none_changes : (old new : Machine) → new.jobs ≡ old.jobs → ChangesOwner old new
none_changes old new same =
    record {
      long = ap length same;
      others = λ x ne. ap (λ (js : List Job). job_at js x) same;
      before = λ x k. ap (λ (js : List Job). is_unbroken (job_at js x).watch) (sym same) ∙ k;
    }

-- in a kept state no watch is broken, by places
each_kept : (m : Machine) (x : ℕ) → x < length m.jobs → IsKept m
    → is_unbroken (job_at m.jobs x).watch ≡ true
each_kept m x h k = k x no_job h

by_places : (m : Machine)
    → ((x : ℕ) → x < length m.jobs → is_unbroken (job_at m.jobs x).watch ≡ true) → IsKept m
by_places m each = λ x d h.
    subst (λ (j : Job). is_unbroken j.watch ≡ true) (get_or_default m.jobs x no_job d h) (each x h)

-- the owner's watch is checked if there is an owner
owner_at : (jobs : List Job) (owner : Option ℕ) (x : ℕ) → owner ≡ Some x → kept_at jobs owner ≡ true
    → is_unbroken (job_at jobs x).watch ≡ true
owner_at jobs None x e k = absurd (cc)
owner_at jobs (Some o) x e k =
    let same : o ≡ x = some_injective e in
    ap (λ y. is_unbroken (job_at jobs y).watch) (sym same) ∙ k

owner_kept : (jobs : List Job) (owner : Option ℕ) → ((x : ℕ) → owner ≡ Some x → x < length jobs)
    → ((x : ℕ) → x < length jobs → is_unbroken (job_at jobs x).watch ≡ true)
    → kept_at jobs owner ≡ true
owner_kept jobs None below each = refl
owner_kept jobs (Some o) below each = each o (below o refl)

-- so the flag stays true if the new owner's watch is not broken
pub flag_goes_on : (old new : Machine) (flag : Bool) → ChangesOwner old new
    → ((x : ℕ) → new.owner ≡ Some x → x < length new.jobs) → (IsTrue flag ↔ IsKept old)
    → (IsTrue (flag && owner_is_kept new) ↔ IsKept new)
flag_goes_on old new flag changes below was = (
  λ t.
      let parts = and_parts flag (owner_is_kept new) t in
      by_places new (λ x h. elim (same_or_not new.owner (Some x)) [
        | inl e ↦ owner_at new.jobs new.owner x e parts.1
        | inr ne ↦
            ap (λ (j : Job). is_unbroken j.watch) (changes.others x ne)
            ∙ each_kept old x (omega (arith, changes.long)) (was.0 parts.0)
      ]),
  λ k.
      let each : (x : ℕ) → x < length new.jobs → is_unbroken (job_at new.jobs x).watch ≡ true =
      λ x h. each_kept new x h k in
      and_from flag (owner_is_kept new)
      (was.1 (by_places old (λ x h. changes.before x (each x (omega (arith, changes.long))))))
      (owner_kept new.jobs new.owner below each),
)
