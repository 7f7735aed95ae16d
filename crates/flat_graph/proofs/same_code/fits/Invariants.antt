-- The nodes so far.
use Rattle.std.proofs.Common.{ℕ, ◌<◌}
use Rattle.code_map.specs.Words.{word_at}
use Rattle.flat_graph.specs.CodeGraph.{ins_of, places_of}
use Rattle.flat_graph.specs.Inner.GraphErrors.{HasInstructionAt}
use Rattle.flat_graph.proofs.same_code.fits.Given as goal

abbrev pub invariant-loop-u : goal.invariant-loop-u
invariant-loop-u l =
    (v : ℕ) → v < l.u → HasInstructionAt (word_at l.code.images) ((places_of l.graph).address v)
    (ins_of l.graph v)
