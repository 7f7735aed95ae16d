-- A task with a call in a loop: words from 0x1000 on, of which the fifth to the eighth are a loop of
-- bound 3 that calls the function at 0x102C, on eight sets of lines of 16 bytes. Its nodes are those
-- outside the call in order, and behind them those of the call.
use Rattle.std.specs.Prelude.{◌≡◌, ◌≢◌, ◌↔◌, ℕ, suc, ◌+◌, ◌*◌, ◌<◌, ◌≤◌, ◌==◌, ◌&&◌, ◌||◌, not, nat_lt}
use Rattle.std.specs.Prelude.{nat_le, if◌then◌else◌, pos, negsuc, List, [], ◌∷◌}
use Rattle.rv_decode.specs.declared.Ins.{Ins}
use Rattle.rv_decode.specs.declared.Ins.TheVariants.{Addi, Bne, Ecall, Jal, Jalr}
use Rattle.flat_graph.specs.Graph.{Edge, IsGraph}
use Rattle.icache.specs.Accesses.{Accesses, accesses}
use Rattle.loop_regions.specs.Nest.{IsNested}
use Rattle.loop_regions.specs.TaskGraph.{TaskGraph}
use Rattle.must_cache.specs.Events.{Events}
use Rattle.must_cache.specs.Prepaid.{IsPrepaidHit, Pays}
use Rattle.persistent_blocks.specs.Regions.{IsPersistent, AreRegionEvents}
use Rattle.persistent_blocks.specs.PersistentPart.{IsPersistentBound}
use Rattle.persistent_blocks.specs.NestedLoops.{platform}

-- three into x5; in the loop a word that does nothing, the call, minus one, back to 0x1010 while x5 is
-- not 0; ECALL; and in the function words that do nothing, and the return
abbrev pub ins_of : ℕ → Ins
ins_of y =
    if y == 0 then Addi 5 0 (pos 3) else if y == 5 then Jal 1 (pos 24)
    else if y == 6 then Addi 5 5 (negsuc 0) else if y == 7 then Bne 5 0 (negsuc 11)
    else if y == 8 then Ecall else if y == 13 then Jalr 0 1 (pos 0) else Addi 0 0 (pos 0)

-- the successors of a node: of the call the function, of the return the node behind the call
abbrev pub next_of : ℕ → List ℕ
next_of y =
    if y == 5 then 9 ∷ [] else if y == 13 then 6 ∷ [] else if y == 7 then 8 ∷ 4 ∷ []
    else if (y == 8) || nat_le 13 y then [] else suc y ∷ []

-- the graph: the loop holds the nodes of the call too
abbrev pub task : TaskGraph
task =
    record {
      graph = record { size = 14; first = 0; next = next_of };
      places = record {
        context = λ y. if nat_le 9 y then 0x1014 ∷ [] else [];
        address = λ y. if nat_le 9 y then 0x1008 + 4 * y else 0x1000 + 4 * y;
      };
      ins = ins_of;
      nest = record {
        size = 1;
        head = λ r. 4;
        bound = λ r. 3;
        holds = λ r y. (nat_le 4 y && nat_lt y 14) && not (y == 8);
      };
    }

-- the accesses of its nodes
abbrev pub uses : Accesses
uses = accesses platform task.places.address

-- the line of the loop and the two of the function are persistent in the loop; the edge that enters
-- the loop pays for all three, and the edge to the function for none; every node but the first is a
-- prepaid hit; and the bound is 90: four words and a load, the price of 30, three turns of 9 words
-- with three jumps, and the last word
pub record LoopWithCall : Type 0 where
  pub graph : IsGraph task.graph
  pub nested : IsNested task.graph task.nest
  pub pairs : (s m : ℕ)
      → IsPersistent uses task.nest 0 s m ↔ ((1 ≤ s) × (s ≤ 3) × (m ≡ 256 + s))
  pub payments : (e : Events) (u v s : ℕ) → AreRegionEvents task.graph uses task.nest e
      → Edge task.graph u v
      → Pays task.graph e u v s ↔ ((u ≡ 3) × (1 ≤ s) × (s ≤ 3))
  pub hits : (e : Events) (y : ℕ) → AreRegionEvents task.graph uses task.nest e → y < 14
      → IsPrepaidHit task.graph e y ↔ (y ≢ 0)
  pub bound : IsPersistentBound platform task 90
