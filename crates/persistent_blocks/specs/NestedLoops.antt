-- A task with a loop in a loop: 29 words from 0x1000 on, of which the fifth to the 28th are a loop of
-- bound 4, and the ninth to the 15th one of bound 5 in it, on eight sets of lines of 16 bytes.
use Rattle.std.specs.Prelude.{◌≡◌, ◌≢◌, ◌↔◌, ℕ, suc, ◌+◌, ◌*◌, ◌<◌, ◌≤◌, ◌==◌, ◌&&◌, nat_lt, nat_le}
use Rattle.std.specs.Prelude.{if◌then◌else◌, pos, negsuc, List, [], ◌∷◌}
use Rattle.crpd_base.specs.declared.data.Platform.{Platform}
use Rattle.rv_decode.specs.declared.Ins.{Ins}
use Rattle.rv_decode.specs.declared.Ins.TheVariants.{Addi, Bne, Ecall}
use Rattle.flat_graph.specs.Graph.{Edge, IsGraph}
use Rattle.icache.specs.Accesses.{Accesses, accesses}
use Rattle.loop_regions.specs.Nest.{IsNested}
use Rattle.loop_regions.specs.TaskGraph.{TaskGraph}
use Rattle.must_cache.specs.Events.{Events}
use Rattle.must_cache.specs.Prepaid.{IsPrepaidHit, Pays}
use Rattle.persistent_blocks.specs.Regions.{IsPersistent, AreRegionEvents}
use Rattle.persistent_blocks.specs.PersistentPart.{IsPersistentBound}
use Rattle.persistent_blocks.specs.OneLoop.{platform as four_sets}

-- the platform with eight cache sets
abbrev pub platform : Platform
platform = record four_sets { sets = 8 }

-- three into x5, words that do nothing, minus one, back to 0x1020 while x5 is not 0, words that do
-- nothing, back to 0x1010 while x6 is not 0, ECALL
abbrev pub ins_of : ℕ → Ins
ins_of y =
    if y == 0 then Addi 5 0 (pos 3) else if y == 11 then Addi 5 5 (negsuc 0)
    else if y == 14 then Bne 5 0 (negsuc 23) else if y == 27 then Bne 6 0 (negsuc 91)
    else if y == 28 then Ecall else Addi 0 0 (pos 0)

-- the successors of a node: the next one, and of a branch also its loop's head
abbrev pub next_of : ℕ → List ℕ
next_of y =
    if y == 14 then 15 ∷ 8 ∷ [] else if y == 27 then 28 ∷ 4 ∷ []
    else if nat_lt y 28 then suc y ∷ [] else []

-- the graph, with the outer loop as region 0 and the inner one as region 1
abbrev pub task : TaskGraph
task =
    record {
      graph = record { size = 29; first = 0; next = next_of };
      places = record { context = λ y. []; address = λ y. 0x1000 + 4 * y };
      ins = ins_of;
      nest = record {
        size = 2;
        head = λ r. if r == 0 then 4 else 8;
        bound = λ r. if r == 0 then 4 else 5;
        holds = λ r y.
            if r == 0 then nat_le 4 y && nat_lt y 28 else nat_le 8 y && nat_lt y 15;
      };
    }

-- the accesses of its nodes
abbrev pub uses : Accesses
uses = accesses platform task.places.address

-- the six lines of the outer loop are persistent in it, and the two of the inner one also in that; the
-- edge that enters the outer loop pays for all six, and the one that enters the inner one, which finds
-- its two held, for none; every node but the first and the last is a prepaid hit; and the bound is
-- 341: four words and a load, the price of 60, four turns of 17 + 2 + 5 * 9, and the last word
pub record NestedLoops : Type 0 where
  pub graph : IsGraph task.graph
  pub nested : IsNested task.graph task.nest
  pub outer : (s m : ℕ)
      → IsPersistent uses task.nest 0 s m ↔ ((1 ≤ s) × (s ≤ 6) × (m ≡ 256 + s))
  pub inner : (s m : ℕ)
      → IsPersistent uses task.nest 1 s m ↔ ((2 ≤ s) × (s ≤ 3) × (m ≡ 256 + s))
  pub payments : (e : Events) (u v s : ℕ) → AreRegionEvents task.graph uses task.nest e
      → Edge task.graph u v
      → Pays task.graph e u v s ↔ ((u ≡ 3) × (1 ≤ s) × (s ≤ 6))
  pub hits : (e : Events) (y : ℕ) → AreRegionEvents task.graph uses task.nest e → y < 29
      → IsPrepaidHit task.graph e y ↔ ((y ≢ 0) × (y ≢ 28))
  pub bound : IsPersistentBound platform task 341
