-- A task of two words: its system, its graph and its certificate.
use Rattle.std.specs.Prelude.{ℕ, ◌+◌, pos, List, [], ◌∷◌, replicate, Option, Some, None}
use Rattle.crpd_base.specs.declared.data.Platform.{Platform}
use Rattle.crpd_base.specs.declared.data.Switching.TheVariants.{Cycle}
use Rattle.crpd_base.specs.declared.data.TaskSet.{TaskSet}
use Rattle.rv_decode.specs.declared.Ins.TheVariants.{Addi, Ecall}
use Rattle.crpd_base.specs.declared.data.TaskPart.{TaskPart}
use Rattle.crpd_base.specs.declared.data.Certificate.{Certificate}
use Rattle.loop_regions.specs.TaskGraph.{TaskGraph}
use Rattle.preempt_machine.specs.Machine.{System}
use Rattle.preempt_machine.specs.Safe.{IsSafe}
use Rattle.sound_laws.specs.Accepted.{IsAccepted}
use Rattle.worked_examples.specs.StraightCode.{word_in, plan, task, listed_graph, first_alone}

-- a platform with four cache sets of one line of 16 bytes
abbrev pub platform : Platform
platform = record {
  line = 16;
  sets = 4;
  hit = 1;
  miss = 10;
  memory = 3;
  taken = 2;
  switch = 5;
  mul = 0;
  div = 0;
  switching = Cycle;
}

-- one into x5, ECALL
abbrev pub words : ℕ → Option ℕ
words = word_in ((0x1000, 0x00100293) ∷ (0x1004, 0x00000073) ∷ [])

-- the machine's system for them
abbrev pub system : System
system = record { platform = platform; plans = plan 0x1000 ∷ []; word = words }

-- the set of this task alone
abbrev pub set : TaskSet
set = record { platform = platform; tasks = task 100 ∷ [] }

-- the graph of these two instructions, from any entry
abbrev pub graph_from : ℕ → TaskGraph
graph_from entry =
    listed_graph (entry ∷ (entry + 4) ∷ []) (Addi 5 0 (pos 1) ∷ Ecall ∷ []) (Some 1 ∷ None ∷ [])

-- the graph of the task
abbrev pub graph : TaskGraph
graph = graph_from 0x1000

-- the set with cache set 0 alone, as its words
abbrev pub zero_alone : List ℕ
zero_alone = 1 ∷ replicate 7 0

-- the certificate lists the one leader; the second node is a hit by the state after the first
abbrev pub task_certificate : TaskPart
task_certificate = first_alone 12 zero_alone zero_alone (12 ∷ 1 ∷ []) 17

-- the certificate of the set, with this task alone
abbrev pub certificate : Certificate
certificate = record { platform = platform; tasks = task_certificate ∷ [] }

-- the premises of the laws hold of it, so the set is safe with the response 17
pub record TwoWords : Type 0 where
  pub accepted : IsAccepted system set (λ k. graph) certificate
  pub safe : IsSafe system set (17 ∷ [])
