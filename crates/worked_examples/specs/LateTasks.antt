-- The two tasks again, with switches that wait for the end of an instruction, a late release of the
-- higher task, and a delay of the lower one by the ECB-union method.
use Rattle.std.specs.Prelude.{◌≡◌, [], ◌∷◌, None}
use Rattle.crpd_base.specs.declared.data.Certificate.{Certificate}
use Rattle.crpd_base.specs.declared.data.Method.TheVariants.{Ecb}
use Rattle.crpd_base.specs.declared.data.Platform.{Platform}
use Rattle.crpd_base.specs.declared.data.Switching.TheVariants.{Instruction}
use Rattle.crpd_base.specs.declared.data.TaskSet.{TaskSet}
use Rattle.preempt_machine.specs.declared.End.TheVariants.{Answered}
use Rattle.preempt_machine.specs.Step.{Start, state}
use Rattle.preempt_machine.specs.Safe.{system_of, IsSafeWith, IsLegalRun, IsKept, completions}
use Rattle.run_account.specs.Ledger.{IsWindowStart, LedgerReload, IsLedger}
use Rattle.sound_laws.specs.Accepted.{IsChecked}
use Rattle.worked_examples.specs.StraightCode.{named_task, job, first_alone, named}
use Rattle.worked_examples.specs.TwoTasks as two
use Rattle.worked_examples.specs.TwoWords as words

-- the platform whose switches wait for the end of an instruction
abbrev pub platform : Platform
platform = record words.platform { switching = Instruction }

-- the higher task may be released ten cycles after it arrives
abbrev pub set : TaskSet
set = record {
  platform = platform;
  tasks =
      record (named_task two.high_name 100) { jitter = 10 } ∷ named_task two.low_name 100 ∷ [];
}

-- an instruction under way takes up to ten cycles of each window
abbrev pub certificate : Certificate
certificate =
    record {
      platform = platform;
      tasks =
          record (named two.high_name
          (first_alone 12 words.zero_alone words.zero_alone (12 ∷ 1 ∷ []) 27)) { response = 37 }
          ∷ record (named two.low_name
          (first_alone 12 words.zero_alone words.zero_alone (12 ∷ 1 ∷ []) 59)) { method = Ecb }
          ∷ [];
    }

-- the higher task is released eight cycles after its arrival, when the lower one is between two
-- instructions
abbrev pub start : Start
start = record {
  system = system_of set two.code;
  cache = None ∷ None ∷ None ∷ None ∷ [];
  memory = [];
  lines = job 1 0 ∷ record (job 0 8) { release = 16 } ∷ [];
}

-- the higher job evicts the block of the lower one, which misses when it resumes
abbrev pub reload : LedgerReload
reload = record { job = 0; set = 0; time = 38; evictor = 1; preemptor = 1 }

-- the premises of the laws hold of the set with its code, so it is safe with the responses 37 and
-- 59; they also hold of a legal run in which the window of the lower job starts at 0, and whose
-- ledger is that one reload
pub record LateTasks : Type 0 where
  pub checked : IsChecked set two.code two.graphs certificate
  pub safe : IsSafeWith set two.code (37 ∷ 59 ∷ [])
  pub legal : IsLegalRun set start
  pub kept : IsKept (state start 100)
  pub answers : completions (state start 100) ≡ Answered 49 ∷ Answered 33 ∷ []
  pub window : IsWindowStart start 0 0
  pub ledger : IsLedger start two.graphs certificate 100 (reload ∷ [])
