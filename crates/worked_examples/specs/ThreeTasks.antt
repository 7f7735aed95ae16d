-- Three tasks, of which each higher one preempts the next: their code, graphs and certificate, and
-- a run in which jobs take exactly the certified responses.
use Rattle.std.specs.Prelude.{◌≡◌, ℕ, zero, suc, ◌+◌, List, [], ◌∷◌, replicate, Some, None, pos}
use Rattle.std.specs.Prelude.{negsuc, codes}
use Rattle.crpd_base.specs.declared.data.Platform.{Platform}
use Rattle.crpd_base.specs.declared.data.TaskSet.{TaskSet}
use Rattle.crpd_base.specs.declared.data.Certificate.{Certificate}
use Rattle.code_map.specs.Words.{Code}
use Rattle.rv_decode.specs.declared.Ins.TheVariants.{Jal, Ecall}
use Rattle.loop_regions.specs.TaskGraph.{TaskGraph}
use Rattle.preempt_machine.specs.declared.End.TheVariants.{Answered}
use Rattle.preempt_machine.specs.Machine.{System}
use Rattle.preempt_machine.specs.Step.{Start, state}
use Rattle.preempt_machine.specs.Safe.{system_of, IsSafeWith, IsLegalRun, IsKept, completions}
use Rattle.sound_laws.specs.Accepted.{IsChecked}
use Rattle.worked_examples.specs.TwoWords as two_words
use Rattle.worked_examples.specs.Least.{AreLeast}
use Rattle.worked_examples.specs.StraightCode.{plan, named_task, file_of, job, listed_graph}
use Rattle.worked_examples.specs.StraightCode.{first_alone, named}

-- the platform with eight cache sets
abbrev pub platform : Platform
platform = record two_words.platform { sets = 8 }

-- the highest task jumps through four lines; each of the others jumps from its first line to its
-- second, back, and to the second again
abbrev pub code : Code
code =
    record {
      images =
          file_of ((0x3010, 0x0100006F ∷ []) ∷ (0x3020, 0x0100006F ∷ []) ∷ (0x3030, 0x0100006F ∷ [])
          ∷ (0x3040, 0x00000073 ∷ []) ∷ [])
          ∷ file_of ((0x2010, 0x0100006F ∷ 0x0100006F ∷ [])
          ∷ (0x2020, 0xFF5FF06F ∷ 0x00000073 ∷ []) ∷ [])
          ∷ file_of ((0x1030, 0x0100006F ∷ 0x0100006F ∷ [])
          ∷ (0x1040, 0xFF5FF06F ∷ 0x00000073 ∷ []) ∷ []) ∷ [];
      plans = plan 0x3010 ∷ plan 0x2010 ∷ plan 0x1030 ∷ [];
    }

-- the name of the highest task
abbrev pub high_name : List ℕ
high_name = codes "high"

-- the name of the second task
abbrev pub middle_name : List ℕ
middle_name = codes "middle"

-- the name of the lowest task
abbrev pub low_name : List ℕ
low_name = codes "low"

-- the set of the three
abbrev pub set : TaskSet
set = record {
  platform = platform;
  tasks =
      named_task high_name 10000 ∷ named_task middle_name 10000 ∷ named_task low_name 10000 ∷ [];
}

-- the machine's system for them
abbrev pub system : System
system = system_of set code

-- the graph of four jumps from line to line
abbrev pub lines : ℕ → TaskGraph
lines entry =
    listed_graph (entry ∷ (entry + 16) ∷ (entry + 32) ∷ (entry + 48) ∷ [])
    (Jal 0 (pos 16) ∷ Jal 0 (pos 16) ∷ Jal 0 (pos 16) ∷ Ecall ∷ [])
    (Some 1 ∷ Some 2 ∷ Some 3 ∷ None ∷ [])

-- the graph of a jump to the second line, back, and to it again
abbrev pub there_again : ℕ → TaskGraph
there_again entry =
    listed_graph (entry ∷ (entry + 4) ∷ (entry + 16) ∷ (entry + 20) ∷ [])
    (Jal 0 (pos 16) ∷ Jal 0 (pos 16) ∷ Jal 0 (negsuc 11) ∷ Ecall ∷ [])
    (Some 2 ∷ Some 3 ∷ Some 1 ∷ None ∷ [])

-- the graph of each task
abbrev pub graphs : ℕ → TaskGraph
graphs zero = lines 0x3010
graphs (suc zero) = there_again 0x2010
graphs (suc (suc k)) = there_again 0x1030

-- the cache sets 1 to 4, as the words of a set of cache sets
abbrev pub one_to_four : List ℕ
one_to_four = 30 ∷ replicate 7 0

-- the cache sets 1 and 2
abbrev pub one_and_two : List ℕ
one_and_two = 6 ∷ replicate 7 0

-- the cache sets 3 and 4
abbrev pub three_and_four : List ℕ
three_and_four = 24 ∷ replicate 7 0

-- no cache set
abbrev pub nothing : List ℕ
nothing = replicate 8 0

-- the certificate of the three
abbrev pub certificate : Certificate
certificate =
    record {
      platform = platform;
      tasks = named high_name (first_alone 50 one_to_four nothing (50 ∷ 37 ∷ 24 ∷ 11 ∷ []) 55)
          ∷ named middle_name (first_alone 30 one_and_two one_and_two (30 ∷ 4 ∷ 17 ∷ 1 ∷ []) 115)
          ∷ named low_name (first_alone 30 three_and_four three_and_four (30 ∷ 4 ∷ 17 ∷ 1 ∷ []) 175)
          ∷ [];
    }

-- the lowest task first, the middle one during its job, and the highest one during that of the
-- middle one
abbrev pub start : Start
start =
    record {
      system = system;
      cache = replicate 8 None;
      memory = [];
      lines = job 2 0 ∷ job 1 31 ∷ job 0 62 ∷ [];
    }

-- the premises of the laws hold of the set with its code, so it is safe with the responses 55, 115
-- and 175, and with no shorter ones: in a legal run jobs take exactly these
pub record ThreeTasks : Type 0 where
  pub checked : IsChecked set code graphs certificate
  pub safe : IsSafeWith set code (55 ∷ 115 ∷ 175 ∷ [])
  pub least : AreLeast system set (55 ∷ 115 ∷ 175 ∷ [])
  pub legal : IsLegalRun set start
  pub kept : IsKept (state start 180)
  pub answers : completions (state start 180) ≡ Answered 175 ∷ Answered 146 ∷ Answered 117 ∷ []
