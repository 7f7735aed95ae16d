-- Two tasks, of which the lower one uses two lines, one after the other, and the higher one evicts
-- both: a preemption costs one reload at each point of the code, and two by the code as a whole.
-- Their code, graphs and refined windows, and a run in which jobs take exactly the refined
-- responses.
use Rattle.std.specs.Prelude.{◌≡◌, ℕ, zero, suc, pos, List, [], ◌∷◌, Some, None, codes}
use Rattle.crpd_base.specs.declared.data.PointMethod.TheVariants.{Point, Ucb}
use Rattle.crpd_base.specs.declared.data.RefinedTask.{RefinedTask}
use Rattle.crpd_base.specs.declared.data.TaskSet.{TaskSet}
use Rattle.rv_decode.specs.declared.Ins.TheVariants.{Addi, Ecall}
use Rattle.code_map.specs.Words.{Code}
use Rattle.loop_regions.specs.TaskGraph.{TaskGraph}
use Rattle.preempt_machine.specs.declared.End.TheVariants.{Answered}
use Rattle.preempt_machine.specs.Machine.{System}
use Rattle.preempt_machine.specs.Step.{Start, state}
use Rattle.preempt_machine.specs.Safe.{system_of, IsSafeWith, IsLegalRun, IsKept, completions}
use Rattle.delay_point.specs.Refined.{AreRefined}
use Rattle.worked_examples.specs.TwoWords.{platform}
use Rattle.worked_examples.specs.Least.{AreLeast}
use Rattle.worked_examples.specs.StraightCode.{plan, named_task, file_of, job, listed_graph}

-- one into x5, ECALL: the higher task at 0x200C, with a word in each of the cache sets 0 and 1; and
-- three times one into x5, ECALL: the lower one at 0x1008, with two words in each
abbrev pub code : Code
code =
    record {
      images =
          file_of ((0x200C, 0x00100293 ∷ 0x00000073 ∷ []) ∷ [])
          ∷ file_of ((0x1008, 0x00100293 ∷ 0x00100293 ∷ 0x00100293 ∷ 0x00000073 ∷ []) ∷ []) ∷ [];
      plans = plan 0x200C ∷ plan 0x1008 ∷ [];
    }

-- the name of the higher task
abbrev pub high_name : List ℕ
high_name = codes "high"

-- the name of the lower task
abbrev pub low_name : List ℕ
low_name = codes "low"

-- the set of the two
abbrev pub set : TaskSet
set = record {
  platform = platform;
  tasks = named_task high_name 100 ∷ named_task low_name 100 ∷ [];
}

-- the machine's system for them
abbrev pub system : System
system = system_of set code

-- the graph of each task
abbrev pub graphs : ℕ → TaskGraph
graphs zero =
    listed_graph (0x200C ∷ 0x2010 ∷ []) (Addi 5 0 (pos 1) ∷ Ecall ∷ []) (Some 1 ∷ None ∷ [])
graphs (suc k) =
    listed_graph (0x1008 ∷ 0x100C ∷ 0x1010 ∷ 0x1014 ∷ [])
    (Addi 5 0 (pos 1) ∷ Addi 5 0 (pos 1) ∷ Addi 5 0 (pos 1) ∷ Ecall ∷ [])
    (Some 1 ∷ Some 2 ∷ Some 3 ∷ None ∷ [])

-- the refined windows: the lower one has a switch, its bound, the higher bound with two switches,
-- and one reload, since at each point at most one line is useful. By the other delays it has two
abbrev pub windows : List RefinedTask
windows =
    record { bound = 22; window = 27; response = 27; method = Ucb }
    ∷ record { bound = 24; window = 71; response = 71; method = Point } ∷ []

-- the lower task first, and the higher one before the second use of the first line
abbrev pub start : Start
start = record {
  system = system;
  cache = None ∷ None ∷ None ∷ None ∷ [];
  memory = [];
  lines = job 1 0 ∷ job 0 16 ∷ [];
}

-- these are the refined windows of the set, the lower one by program point. So it is safe with the
-- responses 27 and 71, and with no shorter ones: in a legal run jobs take exactly these
pub record PointTasks : Type 0 where
  pub refined : AreRefined set graphs windows
  pub safe : IsSafeWith set code (27 ∷ 71 ∷ [])
  pub least : AreLeast system set (27 ∷ 71 ∷ [])
  pub legal : IsLegalRun set start
  pub kept : IsKept (state start 100)
  pub answers : completions (state start 100) ≡ Answered 71 ∷ Answered 43 ∷ []
