-- What the analysis of a task's code builds is the graph of the clauses and laws.
use Rattle.std.specs.Prelude.{◌≡◌, ℕ, ◌<◌, List, Some}
use Rattle.crpd_base.specs.declared.data.TaskPlan.{TaskPlan}
use Rattle.rv_decode.specs.Flow.{Words, flows}
use Rattle.rv_decode.specs.Table.{ins_of_word}
use Rattle.flat_graph.specs.FlatGraph.{FlatNode, HasNoErrors}
use Rattle.flat_graph.specs.Numbered.{IsFlatGraph, ArePlaces}
use Rattle.loop_regions.specs.Stated.{IsRegions, HasNoLoopRefusals}
use Rattle.loop_regions.specs.TaskGraph.{TaskGraph}
use Rattle.cert_check.specs.JudgeInput.{IsGraphOf}

-- the flat graph under its numbering, without errors, with the instructions at its nodes, and the
-- regions of the stated loops without refusals
pub record IsBuilt (words : Words) (plan : TaskPlan) (nodes : List FlatNode)
    (t : TaskGraph) : Type 0 where
  pub flat : IsFlatGraph (flows words) plan.entry nodes t.graph
  pub places : ArePlaces nodes t.places
  pub no_errors : HasNoErrors (flows words) plan.entry
  pub instructions : (u w : ℕ) → u < t.graph.size → words (t.places.address u) ≡ Some w
      → ins_of_word w ≡ Some (t.ins u)
  pub regions : IsRegions t.graph t.places plan.loops t.nest
  pub accepted : HasNoLoopRefusals t.graph t.nest

-- what is built of the code is the graph of the code
abbrev pub GraphOfLaw : Type 0
GraphOfLaw =
    (words : Words) (plan : TaskPlan) (nodes : List FlatNode) (t : TaskGraph)
    → IsBuilt words plan nodes t → IsGraphOf words plan t
