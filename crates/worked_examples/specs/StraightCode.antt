-- Tasks with straight-line code, without branches, calls and loops: their words, graphs and
-- certificates.
use Rattle.std.specs.Prelude.{ℕ, ◌*◌, ◌/◌, ◌%◌, ◌==◌, if◌then◌else◌, true, false, map, List, []}
use Rattle.std.specs.Prelude.{◌∷◌, length, replicate, slice_index_or, Option, Some, None}
use Rattle.crpd_base.specs.declared.data.Image.{Image}
use Rattle.crpd_base.specs.declared.data.Segment.{Segment}
use Rattle.crpd_base.specs.declared.data.TaskPlan.{TaskPlan}
use Rattle.crpd_base.specs.declared.data.TaskSpec.{TaskSpec}
use Rattle.crpd_base.specs.declared.data.TaskPart.{TaskPart}
use Rattle.crpd_base.specs.declared.data.ScriptJob.{ScriptJob}
use Rattle.crpd_base.specs.declared.data.Place.TheVariants.{Number}
use Rattle.crpd_base.specs.declared.data.Method.TheVariants.{Ucb}
use Rattle.rv_decode.specs.declared.Ins.{Ins}
use Rattle.rv_decode.specs.declared.Ins.TheVariants.{Ecall}
use Rattle.flat_graph.specs.Graph.{Graph}
use Rattle.loop_regions.specs.Nest.{Nest}
use Rattle.loop_regions.specs.TaskGraph.{TaskGraph}

-- the word at an address, by a table of addresses and words
abbrev pub word_in : List (ℕ × ℕ) → ℕ → Option ℕ
word_in [] a = None
word_in (e ∷ table) a = if a == e.0 then Some e.1 else word_in table a

-- a plan from an entry: no stack, no loops
abbrev pub plan : ℕ → TaskPlan
plan entry = record { entry = entry; stack = 0; global = 0; loops = [] }

-- a task with a period that is its deadline, without a name: no stack, no jitter, no loops
abbrev pub task : ℕ → TaskSpec
task period =
    record {
      name = [];
      file = [];
      entry = None;
      period = period;
      deadline = period;
      jitter = 0;
      stack = Number 0;
      global = Number 0;
      loops = [];
    }

-- the same with a name, which is also the name of its file
abbrev pub named_task : List ℕ → ℕ → TaskSpec
named_task name period = record (task period) { name = name; file = name }

-- the bytes of words, the lowest byte of each first
abbrev pub bytes_of : List ℕ → List ℕ
bytes_of [] = []
bytes_of (w ∷ ws) =
    (w % 256) ∷ ((w / 256) % 256) ∷ ((w / 65536) % 256) ∷ (w / 16777216) ∷ bytes_of ws

-- a segment with words from an address on
abbrev pub segment_of : ℕ × List ℕ → Segment
segment_of run = record {
  address = run.0;
  size = 4 * length run.1;
  bytes = bytes_of run.1;
  executable = true;
}

-- a file with such segments
abbrev pub file_of : List (ℕ × List ℕ) → Image
file_of runs = record { entry = 0; segments = map segment_of runs; symbols = [] }

-- a job of a task, released when it arrives
abbrev pub job : ℕ → ℕ → ScriptJob
job t at = record { task = record { 0 = t }; arrival = at; release = at }

-- the one successor of a node, if it has one
abbrev pub to_one : Option ℕ → List ℕ
to_one None = []
to_one (Some v) = v ∷ []

-- a graph of a number of nodes, each with at most one successor
abbrev pub straight_graph : ℕ → (ℕ → Option ℕ) → Graph
straight_graph size next = record { size = size; first = 0; next = λ y. to_one (next y) }

-- no region
abbrev pub no_regions : Nest
no_regions = record { size = 0; head = λ r. 0; bound = λ r. 0; holds = λ r y. false }

-- the graph of a task outside calls, with the address and the instruction of each node
abbrev pub graph_of : Graph → (ℕ → ℕ) → (ℕ → Ins) → TaskGraph
graph_of g address ins = record {
  graph = g;
  places = record { context = λ y. []; address = address };
  ins = ins;
  nest = no_regions;
}

-- the same by lists: the addresses, the instructions and the successors of the nodes 0, 1, ..
abbrev pub listed_graph : List ℕ → List Ins → List (Option ℕ) → TaskGraph
listed_graph addresses instructions successors =
    graph_of (straight_graph (length addresses) (λ y. slice_index_or successors y None))
    (λ y. slice_index_or addresses y 0) (λ y. slice_index_or instructions y Ecall)

-- a certificate that lists the first node alone, with an empty state and no useful set
abbrev pub first_alone : ℕ → List ℕ → List ℕ → List ℕ → ℕ → TaskPart
first_alone bound evicting useful potentials window =
    record {
      name = [];
      part = record { bound = bound; evicting = evicting; useful = useful };
      states = record { node = 0; sure = []; useful = replicate 8 0 } ∷ [];
      potentials = potentials;
      loops = [];
      window = window;
      method = Ucb;
      response = window;
    }

-- the same with a name
abbrev pub named : List ℕ → TaskPart → TaskPart
named name part = record part { name = name }
