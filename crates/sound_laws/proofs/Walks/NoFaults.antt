-- For step 7: no job on a walk faults.
use Rattle.std.proofs.Common.{◌≡◌, ◌≢◌, ℕ, zero, suc, ◌<◌, true, length, Some, sym, ap, subst, inl}
use Rattle.std.proofs.Common.{inr}
use Rattle.crpd_base.proofs.Options.{same_or_not}
use Rattle.crpd_base.specs.declared.data.TaskSet.{TaskSet}
use Rattle.flow_watch.specs.Watch.{is_unbroken}
use Rattle.loop_regions.specs.TaskGraph.{TaskGraph}
use Rattle.preempt_machine.specs.Machine.{Job, Faulted}
use Rattle.preempt_machine.specs.Step.{Start, state}
use Rattle.preempt_machine.specs.Safe.{NamesTasks}
use Rattle.preempt_machine.proofs.Steps.{step_own, step_other}
use Rattle.run_account.specs.Fetches.{job_after}
use Rattle.run_account.proofs.Jobs.{new_at}
use Rattle.run_account.proofs.Owners.{candidate_at}
use Rattle.sound_laws.specs.Walks.{HasTaskRanges, IsCodeOf}
use Rattle.run_account.proofs.JobWalks.{kept_before}
use Rattle.sound_laws.proofs.Walks.KeptWalks.{walking, turn_walks}

pub no_fault : (s : Start) (set : TaskSet) (graphs : ℕ → TaskGraph) → HasTaskRanges set
    → IsCodeOf s.system set graphs → NamesTasks set s.lines → (n x : ℕ) → x < length s.lines
    → is_unbroken (job_after s n x).watch ≡ true → (job_after s n x).standing ≢ Faulted
no_fault s set graphs R C T zero x h k =
    let st = ap (λ (j : Job). j.standing) (new_at s x h) in λ q. cc
no_fault s set graphs R C T (suc n) x h k =
    let kn = kept_before s graphs n x k in
    elim (same_or_not (candidate_at s n) (Some x)) [
      | inl e ↦
          subst (λ (j : Job). j.standing ≢ Faulted) (sym (step_own s.system (state s n) x e))
          (turn_walks s set graphs R C T n x e (walking s set graphs R C T n x h kn)).no_fault
      | inr ne ↦
          subst (λ (j : Job). j.standing ≢ Faulted) (sym (step_other s.system (state s n) x ne))
          (no_fault s set graphs R C T n x h kn)
    ]
