-- undisturbed_bound: after a yes, an undisturbed job completes within its switch and its bound.
use Rattle.std.proofs.Common.{◌≡◌, ℕ, zero, suc, ◌+◌, ◌-◌, ◌<◌, ◌≤◌, ◌≢◌, true, false, length, Some}
use Rattle.std.proofs.Common.{refl, sym, ◌∙◌, ap, subst, inl, inr, arith}
use Rattle.std.proofs.lemmas.Bool.{cases_Bool, cases_eq, cases_lt, false≢true, or_left, or_right}
use Rattle.crpd_base.proofs.Options.{some_injective}
use Rattle.preempt_machine.specs.Machine.{Job}
use Rattle.preempt_machine.specs.Step.{is_open, turn_of, is_owner, state}
use Rattle.preempt_machine.specs.Safe.{IsAnsweredBy}
use Rattle.preempt_machine.proofs.Runs.{over_stays}
use Rattle.run_account.specs.Fetches.{job_after}
use Rattle.run_account.proofs.Jobs.{owns_none}
use Rattle.run_account.proofs.Owners.{candidate_at, was_owner, owns_same, owner_after, owner_was}
use Rattle.run_account.proofs.Owners.{was_open}
use Rattle.run_account.proofs.ReloadLaws.{evictor_is_other}
use Rattle.run_account.proofs.OwnFetches.{own_candidate}
use Rattle.sound_laws.specs.Headline.{IsUndisturbed, UndisturbedBound}
use Rattle.sound_laws.specs.PartLaws.{PartIsBounded}
use Rattle.sound_laws.proofs.Windows.Busy.{task_at}
use Rattle.sound_laws.proofs.Walks.NoFaults.{no_fault}
use Rattle.sound_laws.proofs.Execution.Certified.{yes_meets}
use Rattle.sound_laws.proofs.Walks.CheckedRuns.{CheckedRun, checked_run, kept_run, runs_jobs, bound_of}
use Rattle.sound_laws.proofs.Walks.CheckedRuns.{cached_run, kept_at, answered_in_time}
use Rattle.sound_laws.proofs.Reloads.Checked.{is_reload, extra, victim, evictor_at, reload_says}
use Rattle.sound_laws.proofs.Reloads.CertifiedRuns.{certified_run, by_parts}
use Rattle.sound_laws.proofs.Execution.Spent.{rest, rest_spends, fresh}

module _ (K : CheckedRun) where
  open K use {start as s, set, graphs, horizon, in_range as R, code as C, run}

  was_from : (n u x : ℕ) → u < n → candidate_at s u ≡ Some x → was_owner s n x ≡ true
  was_from zero u x l e = absurd (omega arith)
  was_from (suc n) u x l e =
      elim (cases_eq u n) [
        | inl q ↦
            or_left (is_owner (candidate_at s n) x) (was_owner s n x)
            (subst (λ c. is_owner c x ≡ true) (sym (subst (λ k. candidate_at s k ≡ Some x) q e))
            (owns_same x))
        | inr ne ↦
            or_right (is_owner (candidate_at s n) x) (was_owner s n x)
            (was_from n u x (omega arith) e)
      ]

  never_was : (n x : ℕ) → ((m : ℕ) → m < n → candidate_at s m ≢ Some x) → was_owner s n x ≡ false
  never_was zero x h = refl
  never_was (suc n) x h =
      let here : is_owner (candidate_at s n) x ≡ false =
      owns_none (candidate_at s n) x (h n (omega arith)) in
      rw here (never_was n x (λ m l. h m (omega arith)))

  -- an undisturbed job completes within its switch and its cost
  module _ (x first : ℕ) (h : x < length s.lines)
      (still : IsUndisturbed s x first (s.system.platform.switch + bound_of K (task_at s x))) where
    abbrev all : ℕ
    all = s.system.platform.switch + bound_of K (task_at s x)

    fresh_at_first : was_owner s first x ≡ false
    fresh_at_first = never_was first x still.first_time

    no_reload : (k : ℕ) → first ≤ k → k < first + all → is_open (job_after s k x).standing ≡ true
        → is_reload K k ≡ false
    no_reload k f l o =
        elim (cases_Bool (is_reload K k)) [
          | inr b ↦ b
          | inl b ↦
              let e = reload_says K k b in
              let mine : candidate_at s k ≡ Some x = elim (still.alone k f l) [
                | inl c ↦ c
                | inr over ↦ absurd (false≢true (sym over ∙ o))
              ] in
              let vx : victim K k ≡ x = some_injective (sym e.is_candidate ∙ mine) in
              let own_x : candidate_at s e.own_time ≡ Some x =
              own_candidate s (victim K k) e.own_time e.own e.reload.own.own ∙ ap Some vx in
              let others = evictor_is_other s (victim K k) k e.own_time e.fetch e.own
              (evictor_at K k) e.last_time e.last (cached_run K) e.reload e.evicts in
              let late : first ≤ e.own_time =
              elim (cases_lt e.own_time first) [
                | inl early ↦
                    absurd (false≢true (sym fresh_at_first
                    ∙ was_from first e.own_time x early own_x))
                | inr g ↦ g
              ] in
              let since = others.since in
              let before_k = e.evicts.last.earlier in
              let y_is : candidate_at s e.last_time ≡ Some (evictor_at K k) =
              own_candidate s (evictor_at K k) e.last_time e.last
              (record { is = e.evicts.last.is; by = e.evicts.by }) in
              let x_is : candidate_at s e.last_time ≡ Some x =
              elim (still.alone e.last_time (omega arith) (omega arith)) [
                | inl c ↦ c
                | inr over ↦
                    absurd (false≢true (sym over ∙ was_open s e.last_time k x (omega arith) o))
              ] in
              absurd (others.other (some_injective (sym y_is ∙ x_is) ∙ sym vx))
        ]

    no_extra : (k : ℕ) → first ≤ k → k < first + all → is_open (job_after s k x).standing ≡ true
        → extra K k ≡ 0
    no_extra k f l o = rw (no_reload k f l o) refl

    -- what is left after k more steps
    spent_alone : (k : ℕ) → suc (first + k) ≤ first + all → first + all ≤ horizon
        → is_open (job_after s (suc (first + k)) x).standing ≡ true →
        (suc k + rest K (suc (first + k)) x + (state s (suc (first + k))).switch_left ≤ all)
        × ((state s (suc (first + k))).owner ≡ Some x)
    spent_alone zero l hz o =
        let z : first + 0 ≡ first = omega arith in
        let o0 = was_open s first (suc (first + 0)) x (omega arith) o in
        let sp = (rest_spends K).spends (first + 0) x (omega arith)
        (subst (λ n. candidate_at s n ≡ Some x) (sym z) still.starts) in
        let none = no_extra (first + 0) (omega arith) (omega arith)
        (subst (λ n. is_open (job_after s n x).standing ≡ true) (sym z) o0) in
        let was0 = fresh K (first + 0) x
        (subst (λ n. was_owner s n x ≡ false) (sym z) fresh_at_first) in
        let not_owner : (state s (first + 0)).owner ≢ Some x = λ q.
        false≢true (sym (subst (λ n. was_owner s n x ≡ false) (sym z) fresh_at_first)
        ∙ owner_was s (first + 0) x q) in
        let full : (turn_of s.system (state s (first + 0)) x).switch_left
        ≡ s.system.platform.switch =
        rw (owns_none (state s (first + 0)).owner x not_owner) refl in (
          omega (arith, sp, none, was0, full),
          owner_after s (first + 0) x (subst (λ n. candidate_at s n ≡ Some x) (sym z) still.starts),
        )
    spent_alone (suc k) l hz o =
        let z : first + suc k ≡ suc (first + k) = omega arith in
        let o0 = was_open s (suc (first + k)) (suc (first + suc k)) x (omega arith) o in
        let r = spent_alone k (omega arith) hz o0 in
        let mine : candidate_at s (suc (first + k)) ≡ Some x =
        elim (still.alone (suc (first + k)) (omega arith) (omega arith)) [
          | inl c ↦ c
          | inr over ↦ absurd (false≢true (sym over ∙ o0))
        ] in
        let sp = (rest_spends K).spends (suc (first + k)) x (omega arith) mine in
        let none = no_extra (suc (first + k)) (omega arith) (omega arith) o0 in
        let kept_switch : (turn_of s.system (state s (suc (first + k))) x).switch_left
        ≡ (state s (suc (first + k))).switch_left = rw (r.1, owns_same x) refl in
        subst (λ n. (suc (suc k) + rest K (suc n) x + (state s (suc n)).switch_left ≤ all)
        × ((state s (suc n)).owner ≡ Some x)) (sym z)
        (omega (arith, sp, none, kept_switch, r.0), owner_after s (suc (first + k)) x mine)

    over_alone : first + all ≤ horizon → is_open (job_after s (first + all) x).standing ≡ false
    over_alone hz =
        elim (cases_Bool (is_open (job_after s (first + all) x).standing)) [
          | inr b ↦ b
          | inl b ↦
              let some = (rest_spends K).some (first + all) x hz b in
              elim (cases_eq all 0) [
                | inl none ↦
                    let z : first + all ≡ first = omega arith in
                    let was0 = fresh K (first + all) x
                    (subst (λ n. was_owner s n x ≡ false) (sym z) fresh_at_first) in
                    absurd (omega (arith, some, was0, none))
                | inr ne ↦
                    let k = all - 1 in
                    let z : first + all ≡ suc (first + (all - 1)) = omega arith in
                    let r = spent_alone (all - 1) (omega arith) hz
                    (subst (λ n. is_open (job_after s n x).standing ≡ true) z b) in
                    let some_z = subst (λ n. 1 ≤ rest K n x) z some in
                    absurd (omega (arith, r.0, some_z))
              ]
        ]

    pub undisturbed : first + all ≤ horizon
        → IsAnsweredBy (first + all) (job_after s horizon x).standing
    undisturbed hz =
        let over = over_alone hz in
        let same : (job_after s horizon x).standing ≡ (job_after s (first + all) x).standing =
        ap (λ (j : Job). j.standing) (over_stays s x (first + all) horizon hz over) in
        subst (λ st. IsAnsweredBy (first + all) st) (sym same)
        (answered_in_time K (first + all) (first + all) x (job_after s (first + all) x).standing
        refl over
        (no_fault s set graphs R C run.tasks (first + all) x h (kept_at K (first + all) x hz h))
        (omega arith))

pub undisturbed_bound : UndisturbedBound
undisturbed_bound s set graphs c n x first A run kept h hz still =
    undisturbed
    (by_parts (certified_run s set graphs c n A.in_range A.code (yes_meets set graphs c A.says)
    (runs_jobs run) kept))
    x first h still hz

pub part_is_bounded : PartIsBounded
part_is_bounded s set graphs parts n x first R C run kept sound h hz still =
    undisturbed
    (checked_run (kept_run s set graphs (λ k. 0) n R C (runs_jobs run) kept) parts sound) x first h
    still hz
