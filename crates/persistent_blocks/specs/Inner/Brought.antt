-- What edges bring, by a table of the regions that nodes head and the persistent pairs of regions.
use Rattle.std.specs.Prelude.{ℕ, Bool, ◌||◌, if◌then◌else◌, List, Option, Some, None, slice_get}
use Rattle.std.specs.Prelude.{slice_index_or}
use Rattle.crpd_base.specs.declared.data.Platform.{Platform}
use Rattle.flat_graph.specs.CodeGraph.{CodeGraph, graph_of, places_of}
use Rattle.flat_graph.specs.Graph.{Graph}
use Rattle.icache.specs.Accesses.{accesses}
use Rattle.icache.specs.Cache.{Cache, held, is_block}
use Rattle.loop_regions.specs.CodeNest.{CodeNest, nest_of}
use Rattle.loop_regions.specs.Nest.{Nest}
use Rattle.must_cache.specs.Events.{Events, events}
use Rattle.must_cache.specs.States.{state_at}

-- whether v is the first or the second successor of u
abbrev pub is_next : Graph → ℕ → ℕ → Bool
is_next g u v = is_block (slice_get (g.next u) 0) v || is_block (slice_get (g.next u) 1) v

-- the region that a node heads, by a table
abbrev pub headed : List (Option ℕ) → ℕ → Option ℕ
headed heads v = slice_index_or heads v None

-- the region, if it does not hold node u
abbrev pub unless_round : Nest → ℕ → Option ℕ → Option ℕ
unless_round n u None = None
unless_round n u (Some r) = if n.holds r u then None else Some r

-- the region that the edge from u to v enters
abbrev pub entered : Graph → Nest → List (Option ℕ) → ℕ → ℕ → Option ℕ
entered g n heads u v = if is_next g u v then unless_round n u (headed heads v) else None

-- the block of a set in a region, if there is one
abbrev pub block_in : List Cache → Option ℕ → ℕ → Option ℕ
block_in blocks None s = None
block_in blocks (Some r) s = held (state_at blocks r) s

-- what an edge brings: the blocks of the region that it enters
abbrev pub region_brings : Graph → Nest → List (Option ℕ) → List Cache → ℕ → ℕ → ℕ → Option ℕ
region_brings g n heads blocks u v s = block_in blocks (entered g n heads u v) s

-- what is brought before the first node: the blocks of the region that it heads
abbrev pub region_start : Graph → List (Option ℕ) → List Cache → ℕ → Option ℕ
region_start g heads blocks s = block_in blocks (headed heads g.first) s

-- the events of a task with these tables
abbrev pub region_events : Platform → CodeGraph → CodeNest → List (Option ℕ) → List Cache → Events
region_events p g n heads blocks =
    events (accesses p (places_of g).address)
    (region_brings (graph_of g) (nest_of n) heads blocks)
    (region_start (graph_of g) heads blocks)
