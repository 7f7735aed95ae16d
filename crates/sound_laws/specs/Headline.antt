-- What holds if the checker accepts.
use Rattle.std.specs.Prelude.{◌≡◌, ◌≢◌, ◌⊎◌, ℕ, ◌+◌, ◌<◌, ◌≤◌, false, length, Some}
use Rattle.crpd_base.specs.declared.data.TaskSet.{TaskSet}
use Rattle.crpd_base.specs.declared.data.Certificate.{Certificate}
use Rattle.code_map.specs.Words.{Code}
use Rattle.loop_regions.specs.TaskGraph.{TaskGraph}
use Rattle.evict_sets.specs.ListedPart.{certified_task}
use Rattle.cert_check.specs.JudgeInput.{responses}
use Rattle.preempt_machine.specs.Machine.{System}
use Rattle.preempt_machine.specs.Step.{is_open, candidate, Start, state}
use Rattle.preempt_machine.specs.Safe.{IsSafe, IsSafeWith, IsRunOf, IsKept, IsAnsweredBy}
use Rattle.run_account.specs.Fetches.{job_after}
use Rattle.run_account.specs.Nodes.{job_task}
use Rattle.sound_laws.specs.Accepted.{IsAccepted, IsChecked}

-- after a yes the set with its code and the certified responses is safe
abbrev pub YesIsSafe : Type 0
YesIsSafe =
    (sys : System) (set : TaskSet) (graphs : ℕ → TaskGraph) (c : Certificate) →
    IsAccepted sys set graphs c → IsSafe sys set (responses c)

-- the same of a set with the code of its files
abbrev pub CheckedCodeIsSafe : Type 0
CheckedCodeIsSafe =
    (set : TaskSet) (code : Code) (graphs : ℕ → TaskGraph) (c : Certificate) →
    IsChecked set code graphs c → IsSafeWith set code (responses c)

-- for a number of steps, from its first one as the candidate, a job is the candidate or has ended
pub record IsUndisturbed (s : Start) (x first steps : ℕ) : Type 0 where
  pub starts : candidate s.system (state s first) ≡ Some x
  pub first_time : (n : ℕ) → n < first → candidate s.system (state s n) ≢ Some x
  pub alone : (n : ℕ) → first ≤ n → n < first + steps
      → (candidate s.system (state s n) ≡ Some x) ⊎ (is_open (job_after s n x).standing ≡ false)

-- after a yes, in a kept run, legal or not, an undisturbed job completes within its switch and its
-- bound
abbrev pub UndisturbedBound : Type 0
UndisturbedBound =
    (s : Start) (set : TaskSet) (graphs : ℕ → TaskGraph) (c : Certificate) (n x first : ℕ) →
    IsAccepted s.system set graphs c → IsRunOf set s → IsKept (state s n) → x < length s.lines →
    let steps = s.system.platform.switch + (certified_task c (job_task s x)).part.bound in
    first + steps ≤ n → IsUndisturbed s x first steps
    → IsAnsweredBy (first + steps) (job_after s n x).standing
