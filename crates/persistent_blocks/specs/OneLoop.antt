-- A task with a loop whose blocks are persistent: ten words from 0x1000 on, of which the fifth to the
-- ninth are a loop of bound 3, on lines of 16 bytes.
use Rattle.std.specs.Prelude.{◌≡◌, ◌≢◌, ◌↔◌, ℕ, suc, ◌+◌, ◌*◌, ◌<◌, ◌≤◌, ◌==◌, ◌&&◌, nat_lt, nat_le}
use Rattle.std.specs.Prelude.{if◌then◌else◌, pos, negsuc, List, [], ◌∷◌, slice_index_or}
use Rattle.crpd_base.specs.declared.data.Platform.{Platform}
use Rattle.crpd_base.specs.declared.data.Switching.TheVariants.{Cycle}
use Rattle.rv_decode.specs.declared.Ins.{Ins}
use Rattle.rv_decode.specs.declared.Ins.TheVariants.{Addi, Bne, Ecall}
use Rattle.flat_graph.specs.Graph.{Edge, IsGraph}
use Rattle.icache.specs.Accesses.{Accesses, accesses}
use Rattle.loop_regions.specs.Nest.{IsNested}
use Rattle.loop_regions.specs.TaskGraph.{TaskGraph}
use Rattle.must_cache.specs.Events.{Events}
use Rattle.must_cache.specs.Prepaid.{IsPrepaidHit, Pays}
use Rattle.persistent_blocks.specs.Regions.{IsPersistent, AreRegionEvents}
use Rattle.persistent_blocks.specs.PersistentPart.{IsPersistentBound}

-- a platform with four cache sets of one line of 16 bytes
abbrev pub platform : Platform
platform = record {
  line = 16;
  sets = 4;
  hit = 1;
  miss = 10;
  memory = 3;
  taken = 2;
  switch = 5;
  mul = 0;
  div = 0;
  switching = Cycle;
}

-- three into x5, six words that do nothing, minus one, back while it is not 0, ECALL
abbrev pub instructions : List Ins
instructions =
    Addi 5 0 (pos 3) ∷ Addi 0 0 (pos 0) ∷ Addi 0 0 (pos 0) ∷ Addi 0 0 (pos 0) ∷ Addi 0 0 (pos 0)
    ∷ Addi 0 0 (pos 0) ∷ Addi 0 0 (pos 0) ∷ Addi 5 5 (negsuc 0) ∷ Bne 5 0 (negsuc 15) ∷ Ecall ∷ []

-- the successors of a node: the next one, and of the branch also the loop's head
abbrev pub next_of : ℕ → List ℕ
next_of y = if y == 8 then 9 ∷ 4 ∷ [] else if nat_lt y 9 then suc y ∷ [] else []

-- the graph, with the loop as its one region
abbrev pub task : TaskGraph
task =
    record {
      graph = record { size = 10; first = 0; next = next_of };
      places = record { context = λ y. []; address = λ y. 0x1000 + 4 * y };
      ins = λ y. slice_index_or instructions y Ecall;
      nest = record {
        size = 1;
        head = λ r. 4;
        bound = λ r. 3;
        holds = λ r y. nat_le 4 y && nat_lt y 9;
      };
    }

-- the accesses of its nodes
abbrev pub uses : Accesses
uses = accesses platform task.places.address

-- the graph and its region are as the laws ask; the two lines of the loop are persistent in it; the
-- edge that enters it, and no other, pays for both; every node but the first is a prepaid hit; and the
-- bound is 56: four words and a load, the price of 20, three turns of 5 + 2, and the last word
pub record OneLoop : Type 0 where
  pub graph : IsGraph task.graph
  pub nested : IsNested task.graph task.nest
  pub pairs : (s m : ℕ)
      → IsPersistent uses task.nest 0 s m ↔ ((1 ≤ s) × (s ≤ 2) × (m ≡ 256 + s))
  pub payments : (e : Events) (u v s : ℕ) → AreRegionEvents task.graph uses task.nest e
      → Edge task.graph u v
      → Pays task.graph e u v s ↔ ((u ≡ 3) × (1 ≤ s) × (s ≤ 2))
  pub hits : (e : Events) (y : ℕ) → AreRegionEvents task.graph uses task.nest e → y < 10
      → IsPrepaidHit task.graph e y ↔ (y ≢ 0)
  pub bound : IsPersistentBound platform task 56
