-- A task with a loop: its system, its graph with a region, and its certificate as the analysis
-- writes it.
use Rattle.std.specs.Prelude.{ℕ, zero, suc, ◌==◌, ◌||◌, pos, negsuc, List, [], ◌∷◌, replicate}
use Rattle.std.specs.Prelude.{Option}
use Rattle.crpd_base.specs.declared.data.LoopAt.{LoopAt}
use Rattle.crpd_base.specs.declared.data.TaskPlan.{TaskPlan}
use Rattle.crpd_base.specs.declared.data.TaskSet.{TaskSet}
use Rattle.rv_decode.specs.declared.Ins.{Ins}
use Rattle.rv_decode.specs.declared.Ins.TheVariants.{Addi, Bne, Ecall}
use Rattle.crpd_base.specs.declared.data.Method.TheVariants.{Ucb}
use Rattle.crpd_base.specs.declared.data.TaskPart.{TaskPart}
use Rattle.crpd_base.specs.declared.data.Certificate.{Certificate}
use Rattle.loop_regions.specs.TaskGraph.{TaskGraph}
use Rattle.preempt_machine.specs.Machine.{System}
use Rattle.preempt_machine.specs.Safe.{IsSafe}
use Rattle.sound_laws.specs.Accepted.{IsAccepted}
use Rattle.worked_examples.specs.StraightCode.{word_in, task}
use Rattle.worked_examples.specs.TwoWords.{platform, zero_alone}

-- three into x5, minus one, back while it is not 0, ECALL
abbrev pub words : ℕ → Option ℕ
words =
    word_in ((0x1000, 0x00300293) ∷ (0x1004, 0xFFF28293) ∷ (0x1008, 0xFE029EE3)
    ∷ (0x100C, 0x00000073) ∷ [])

-- the stated loop: its head, its bound and its one range
abbrev pub loop : LoopAt
loop = record { head = 0x1004; bound = 3; ranges = (0x1004, 0x100C) ∷ [] }

-- the task of these words, with that loop
abbrev pub plan : TaskPlan
plan = record { entry = 0x1000; stack = 0; global = 0; loops = loop ∷ [] }

-- the machine's system for it
abbrev pub system : System
system = record { platform = platform; plans = plan ∷ []; word = words }

-- the set of this task alone
abbrev pub set : TaskSet
set = record { platform = platform; tasks = task 100 ∷ [] }

-- the successors of a node
abbrev pub next_of : ℕ → List ℕ
next_of zero = 1 ∷ []
next_of (suc zero) = 2 ∷ []
next_of (suc (suc zero)) = 3 ∷ 1 ∷ []
next_of (suc (suc (suc k))) = []

-- the address of a node
abbrev pub address_of : ℕ → ℕ
address_of zero = 0x1000
address_of (suc zero) = 0x1004
address_of (suc (suc zero)) = 0x1008
address_of (suc (suc (suc k))) = 0x100C

-- the instruction at a node
abbrev pub ins_of : ℕ → Ins
ins_of zero = Addi 5 0 (pos 3)
ins_of (suc zero) = Addi 5 5 (negsuc 0)
ins_of (suc (suc zero)) = Bne 5 0 (negsuc 3)
ins_of (suc (suc (suc k))) = Ecall

-- the graph, with the loop as its one region
abbrev pub graph : TaskGraph
graph =
    record {
      graph = record { size = 4; first = 0; next = next_of };
      places = record { context = λ y. []; address = address_of };
      ins = ins_of;
      nest = record {
        size = 1;
        head = λ r. 1;
        bound = λ r. 3;
        holds = λ r y. (y == 1) || (y == 2);
      };
    }

-- the certificate lists three leaders; each iteration of the loop costs at most 4 cycles
abbrev pub task_certificate : TaskPart
task_certificate =
    record {
      name = [];
      part = record { bound = 24; evicting = zero_alone; useful = zero_alone };
      states = record { node = 0; sure = []; useful = replicate 8 0 }
          ∷ record { node = 1; sure = (0, 256) ∷ []; useful = zero_alone }
          ∷ record { node = 3; sure = (0, 256) ∷ []; useful = zero_alone } ∷ [];
      potentials = 24 ∷ 4 ∷ 3 ∷ 1 ∷ [];
      loops = 13 ∷ [];
      window = 29;
      method = Ucb;
      response = 29;
    }

-- the certificate of the set, with this task alone
abbrev pub certificate : Certificate
certificate = record { platform = platform; tasks = task_certificate ∷ [] }

-- the premises of the laws hold of it, so the set is safe with the response 29
pub record OneLoop : Type 0 where
  pub accepted : IsAccepted system set (λ k. graph) certificate
  pub safe : IsSafe system set (29 ∷ [])
