-- Two tasks on one cache set, of which the higher one preempts: their code, graphs and certificate,
-- and a run in which jobs take exactly the certified responses.
use Rattle.std.specs.Prelude.{◌≡◌, ℕ, zero, suc, List, [], ◌∷◌, None, codes}
use Rattle.crpd_base.specs.declared.data.TaskSet.{TaskSet}
use Rattle.crpd_base.specs.declared.data.Certificate.{Certificate}
use Rattle.code_map.specs.Words.{Code}
use Rattle.loop_regions.specs.TaskGraph.{TaskGraph}
use Rattle.preempt_machine.specs.declared.End.TheVariants.{Answered}
use Rattle.preempt_machine.specs.Machine.{System}
use Rattle.preempt_machine.specs.Step.{Start, state}
use Rattle.preempt_machine.specs.Safe.{system_of, IsSafeWith, IsLegalRun, IsKept, completions}
use Rattle.sound_laws.specs.Accepted.{IsChecked}
use Rattle.worked_examples.specs.TwoWords.{platform, graph_from, zero_alone}
use Rattle.worked_examples.specs.Least.{AreLeast}
use Rattle.worked_examples.specs.StraightCode.{plan, named_task, file_of, job, first_alone, named}

-- one into x5, ECALL: the lower task at 0x1000, the higher one at 0x2000
abbrev pub words : List ℕ
words = 0x00100293 ∷ 0x00000073 ∷ []

-- the files and the plans of both
abbrev pub code : Code
code = record {
  images = file_of ((0x2000, words) ∷ []) ∷ file_of ((0x1000, words) ∷ []) ∷ [];
  plans = plan 0x2000 ∷ plan 0x1000 ∷ [];
}

-- the name of the higher task
abbrev pub high_name : List ℕ
high_name = codes "high"

-- the name of the lower task
abbrev pub low_name : List ℕ
low_name = codes "low"

-- the set of the two
abbrev pub set : TaskSet
set = record {
  platform = platform;
  tasks = named_task high_name 100 ∷ named_task low_name 100 ∷ [];
}

-- the machine's system for them
abbrev pub system : System
system = system_of set code

-- the graph of each task
abbrev pub graphs : ℕ → TaskGraph
graphs zero = graph_from 0x2000
graphs (suc k) = graph_from 0x1000

-- the lower response has in addition a reload by the one preemption, two switches and the higher
-- bound
abbrev pub certificate : Certificate
certificate =
    record {
      platform = platform;
      tasks =
          named high_name (first_alone 12 zero_alone zero_alone (12 ∷ 1 ∷ []) 17)
          ∷ named low_name (first_alone 12 zero_alone zero_alone (12 ∷ 1 ∷ []) 49) ∷ [];
    }

-- the lower task first, and the higher one during its job
abbrev pub start : Start
start = record {
  system = system;
  cache = None ∷ None ∷ None ∷ None ∷ [];
  memory = [];
  lines = job 1 0 ∷ job 0 16 ∷ [];
}

-- the premises of the laws hold of the set with its code, so it is safe with the responses 17 and
-- 49, and with no shorter ones: in a legal run jobs take exactly these
pub record TwoTasks : Type 0 where
  pub checked : IsChecked set code graphs certificate
  pub safe : IsSafeWith set code (17 ∷ 49 ∷ [])
  pub least : AreLeast system set (17 ∷ 49 ∷ [])
  pub legal : IsLegalRun set start
  pub kept : IsKept (state start 100)
  pub answers : completions (state start 100) ≡ Answered 49 ∷ Answered 33 ∷ []
