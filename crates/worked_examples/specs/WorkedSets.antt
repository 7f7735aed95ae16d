-- Worked rows of the cache analyses: the three tasks that preempt each other, and a program that
-- calls one function twice.
use Rattle.std.specs.Prelude.{◌≡◌, ℕ, ◌↔◌, List, [], ◌∷◌, replicate, slice_index_or, Option, Some}
use Rattle.std.specs.Prelude.{None, Contains, pos, negsuc}
use Rattle.rv_decode.specs.declared.Ins.{Ins}
use Rattle.rv_decode.specs.declared.Ins.TheVariants.{Addi, Sw, Lw, Jal, Jalr}
use Rattle.flat_graph.specs.Graph.{Graph}
use Rattle.icache.specs.Accesses.{Accesses}
use Rattle.must_cache.specs.Sure.{Sure}
use Rattle.useful_sets.specs.Useful.{Useful, IsUcb, IsEcb}
use Rattle.loop_regions.specs.TaskGraph.{TaskGraph}
use Rattle.evict_sets.specs.Full.{Listed, FullState, FullUseful}
use Rattle.evict_sets.specs.ListedPart.{block_of_set, listed_of, certified_task}
use Rattle.cert_check.specs.JudgeInput.{accesses_of}
use Rattle.worked_examples.specs.StraightCode.{listed_graph, first_alone}
use Rattle.worked_examples.specs.TwoWords as two_words
use Rattle.worked_examples.specs.ThreeTasks as three

-- these numbers have the property, and no others
abbrev pub AreThese : List ℕ → (ℕ → Type 0) → Type 0
AreThese numbers P = (s : ℕ) → P s ↔ Contains numbers s

-- what is known before a node, if only the first node is listed: the blocks that sets surely hold
-- and the useful sets; the full state with its useful set is the same
pub record IsRow (g : Graph) (a : Accesses) (l : Listed) (y : ℕ) (blocks : List (ℕ × ℕ))
    (useful : List ℕ) : Type 0 where
  pub sure : (s m : ℕ) → Sure g a y s m ↔ (block_of_set blocks s ≡ Some m)
  pub useful_sets : AreThese useful (Useful g a y)
  pub full_state : (s m : ℕ) → FullState g a l y s m ↔ (block_of_set blocks s ≡ Some m)
  pub full_useful : AreThese useful (FullUseful g a l y)

-- the evicting and the useful cache sets of a task
pub record HasSets (g : Graph) (a : Accesses) (evicting useful : List ℕ) : Type 0 where
  pub evicts : AreThese evicting (IsEcb g a)
  pub reuses : AreThese useful (IsUcb g a)

-- the three tasks, from the highest, on eight cache sets
abbrev pub graph : ℕ → Graph
graph k = (three.graphs k).graph

-- the accesses of their nodes
abbrev pub uses : ℕ → Accesses
uses k = accesses_of three.platform (three.graphs k)

-- the listings of their certificate
abbrev pub lists : ℕ → Listed
lists k = listed_of (certified_task three.certificate k)

-- the program with two calls, on four cache sets: seven nodes outside calls, then the function's
-- one instruction in the context of each call
abbrev pub call_addresses : List ℕ
call_addresses = 0x1000 ∷ 0x1004 ∷ 0x1008 ∷ 0x100C ∷ 0x1010 ∷ 0x1014 ∷ 0x1018 ∷ 0x101C ∷ 0x101C ∷ []

-- its instructions
abbrev pub call_instructions : List Ins
call_instructions =
    Addi 2 2 (negsuc 15) ∷ Sw 2 1 (pos 12) ∷ Jal 1 (pos 20) ∷ Jal 1 (pos 16) ∷ Lw 1 2 (pos 12)
    ∷ Addi 2 2 (pos 16) ∷ Jalr 0 1 (pos 0)
    ∷ Jalr 0 1 (pos 0) ∷ Jalr 0 1 (pos 0) ∷ []

-- its successors
abbrev pub call_successors : List (Option ℕ)
call_successors = Some 1 ∷ Some 2 ∷ Some 7 ∷ Some 8 ∷ Some 5 ∷ Some 6 ∷ None ∷ Some 3 ∷ Some 4 ∷ []

-- its contexts
abbrev pub call_context : ℕ → List ℕ
call_context y =
    slice_index_or ([] ∷ [] ∷ [] ∷ [] ∷ [] ∷ [] ∷ [] ∷ (0x1008 ∷ []) ∷ (0x100C ∷ []) ∷ []) y []

-- its graph
abbrev pub two_calls : TaskGraph
two_calls =
    record (listed_graph call_addresses call_instructions call_successors)
    { places = record { context = call_context; address = λ y. slice_index_or call_addresses y 0 } }

-- the accesses of its nodes
abbrev pub call_uses : Accesses
call_uses = accesses_of two_words.platform two_calls

-- the cache sets 0 and 1
abbrev pub zero_and_one : List ℕ
zero_and_one = 3 ∷ replicate 7 0

-- the listing of a certificate for it
abbrev pub call_lists : Listed
call_lists =
    listed_of
    (first_alone 45 zero_and_one zero_and_one (45 ∷ 34 ∷ 30 ∷ 14 ∷ 8 ∷ 4 ∷ 3 ∷ 27 ∷ 11 ∷ []) 50)

-- the results of the analyses for the three tasks and for the program with two calls
pub record WorkedSets : Type 0 where
  -- the highest task reuses no block
  pub high : HasSets (graph 0) (uses 0) (1 ∷ 2 ∷ 3 ∷ 4 ∷ []) []
  pub high_last : IsRow (graph 0) (uses 0) (lists 0) 3
      ((1, 0x301) ∷ (2, 0x302) ∷ (3, 0x303) ∷ []) []
  -- the middle one goes to its nodes 0, 2, 1 and 3, and reuses both of its blocks
  pub middle : HasSets (graph 1) (uses 1) (1 ∷ 2 ∷ []) (1 ∷ 2 ∷ [])
  pub middle_first : IsRow (graph 1) (uses 1) (lists 1) 0 [] []
  pub middle_second : IsRow (graph 1) (uses 1) (lists 1) 2 ((1, 0x201) ∷ []) (1 ∷ [])
  pub middle_third : IsRow (graph 1) (uses 1) (lists 1) 1 ((1, 0x201) ∷ (2, 0x202) ∷ [])
      (1 ∷ 2 ∷ [])
  pub middle_last : IsRow (graph 1) (uses 1) (lists 1) 3 ((1, 0x201) ∷ (2, 0x202) ∷ []) (2 ∷ [])
  -- the lowest one does the same with its own blocks
  pub low : HasSets (graph 2) (uses 2) (3 ∷ 4 ∷ []) (3 ∷ 4 ∷ [])
  pub low_third : IsRow (graph 2) (uses 2) (lists 2) 1 ((3, 0x103) ∷ (4, 0x104) ∷ []) (3 ∷ 4 ∷ [])
  pub low_last : IsRow (graph 2) (uses 2) (lists 2) 3 ((3, 0x103) ∷ (4, 0x104) ∷ []) (4 ∷ [])
  -- the calls: the function's block is reused in the second call, and the caller's block after each
  pub calls : HasSets two_calls.graph call_uses (0 ∷ 1 ∷ []) (0 ∷ 1 ∷ [])
  pub in_first : IsRow two_calls.graph call_uses call_lists 7 ((0, 0x100) ∷ []) (0 ∷ [])
  pub between : IsRow two_calls.graph call_uses call_lists 3 ((0, 0x100) ∷ (1, 0x101) ∷ [])
      (0 ∷ 1 ∷ [])
  pub in_second : IsRow two_calls.graph call_uses call_lists 8
      ((0, 0x100) ∷ (1, 0x101) ∷ []) (1 ∷ [])
