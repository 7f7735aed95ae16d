-- The laws on an updated certificate, and what they require of both sides.
use Rattle.std.specs.Prelude.{◌≡◌, ℕ, ◌<◌, List, length, Result}
use Rattle.crpd_base.specs.Ranges.{IsTaskSet}
use Rattle.crpd_base.specs.declared.data.Platform.{Platform}
use Rattle.crpd_base.specs.declared.data.TaskSet.{TaskSet}
use Rattle.crpd_base.specs.declared.data.TaskPart.{TaskPart}
use Rattle.crpd_base.specs.declared.data.Certificate.{Certificate}
use Rattle.crpd_base.specs.declared.data.LoopAt.{LoopAt}
use Rattle.flat_graph.specs.CodeGraph.{CodeGraph, HasCode, graph_of, places_of, graph_at}
use Rattle.loop_regions.specs.CodeNest.{CodeNest, nest_of}
use Rattle.loop_regions.specs.Stated.{HasNoLoopRefusals, IsRegions}
use Rattle.loop_regions.specs.TaskGraph.{TaskGraph}
use Rattle.loop_regions.specs.TaskGraphs.{task_graph, task_graph_at, nest_at}
use Rattle.cert_check.specs.declared.outcome.Clause.{Clause}
use Rattle.cert_check.specs.Verdict.{IsJudged, Yes, GraphHolds}
use Rattle.cert_build.specs.Best.{IsBest, IsBestPart}
use Rattle.cert_build.specs.Certify.{IsBuildError}
use Rattle.cert_build.specs.StatedRegions.{AreStatedRegions}
use Rattle.cert_build.specs.declared.error.BuildError.{BuildError}
use Rattle.cert_update.specs.Answer.{IsUpdateEnd, IsUpdateError}
use Rattle.cert_update.specs.Unchanged.{Side, IsSameCode}
use Rattle.cert_update.specs.Update.{HasSameAnalysis, IsUpdate}

-- a task set with stored graphs and their regions
abbrev pub side : TaskSet → List CodeGraph → List CodeNest → Side
side set graphs nests = record { set = set; graphs = task_graph_at graphs nests }

-- the nest has the regions of some stated loops in the graph, with none of the refusals of loops
pub record HasRegions (g : CodeGraph) (n : CodeNest) : Type 0 where
  pub loops : List LoopAt
  pub regions : IsRegions (graph_of g) (places_of g) loops (nest_of n)
  pub accepted : HasNoLoopRefusals (graph_of g) (nest_of n)

-- each graph is that of some code, and each nest has its regions
pub record HasCodes (set : TaskSet) (graphs : List CodeGraph) (nests : List CodeNest) : Type 0 where
  pub range : IsTaskSet set
  pub code : (i : ℕ) → i < length set.tasks → HasCode (graph_at graphs i)
  pub regions : (i : ℕ) → i < length set.tasks → HasRegions (graph_at graphs i) (nest_at nests i)

-- a task as code stores it: on a platform, with its graph and the regions of its loops
pub record StoredTask : Type 0 where
  pub platform : Platform
  pub graph : CodeGraph
  pub nest : CodeNest
  -- the graph is that of some code
  pub code : HasCode graph
  -- the nest has its regions
  pub regions : HasRegions graph nest

-- its graph with the regions
abbrev pub stored_graph : StoredTask → TaskGraph
stored_graph t = task_graph t.graph t.nest

-- an old task and a new one with the same code
pub record SameTask : Type 0 where
  pub old : StoredTask
  pub new : StoredTask
  pub same : IsSameCode old.platform (stored_graph old) new.platform (stored_graph new)

-- a set as code stores it, with the graph and the regions of each task
pub record StoredSet : Type 0 where
  pub set : TaskSet
  pub graphs : List CodeGraph
  pub nests : List CodeNest
  -- each graph is that of some code, and each nest has its regions
  pub codes : HasCodes set graphs nests

-- the set as a side of a change
abbrev pub stored_side : StoredSet → Side
stored_side s = side s.set s.graphs s.nests

-- a change from an old set to a new one
pub record Change : Type 0 where
  pub old : StoredSet
  pub new : StoredSet

-- a set in its ranges with the stated loops of its tasks and the graphs of their code
pub record StatedSet : Type 0 where
  pub set : TaskSet
  pub range : IsTaskSet set
  pub loops : ℕ → List LoopAt
  pub graphs : List CodeGraph

-- the nests are regions of its stated loops
abbrev pub HasNests : StatedSet → List CodeNest → Type 0
HasNests s nests = AreStatedRegions s.set s.loops s.graphs nests

-- the graphs start at the same node and have the same edges
pub record AreSameGraphs (t u : TaskGraph) : Type 0 where
  pub first : t.graph.first ≡ u.graph.first
  pub next : (y : ℕ) → y < t.graph.size → t.graph.next y ≡ u.graph.next y

-- graphs of the same code, each with its regions, do so
abbrev pub SameGraphLaw : Type 0
SameGraphLaw = (s : SameTask) → AreSameGraphs (stored_graph s.old) (stored_graph s.new)

-- the clauses of a task's graph that hold for the old task with its part also hold for the
-- unchanged new one
abbrev pub PassLaw : Type 0
PassLaw =
    (s : SameTask) (c d : TaskPart) (k : Clause) → HasSameAnalysis c d →
    GraphHolds s.old.platform (stored_graph s.old) c k
    → GraphHolds s.new.platform (stored_graph s.new) d k

-- and a part that the analysis finds for the old task is the one that it finds for the new one
abbrev pub BestPassLaw : Type 0
BestPassLaw =
    (s : SameTask) (c d : TaskPart) → HasSameAnalysis c d →
    IsBestPart s.old.platform (stored_graph s.old) c
    → IsBestPart s.new.platform (stored_graph s.new) d

-- the checker accepts an update of a certificate that it accepts
abbrev pub UpdateIsJudgedLaw : Type 0
UpdateIsJudgedLaw =
    (h : Change) (c d : Certificate) →
    IsJudged h.old.set (stored_side h.old).graphs c Yes
    → IsUpdate (stored_side h.old) c (stored_side h.new) d →
    IsJudged h.new.set (stored_side h.new).graphs d Yes

-- an update of the analysis' certificate is the analysis' certificate of the new set
abbrev pub UpdateIsBestLaw : Type 0
UpdateIsBestLaw =
    (h : Change) (c d : Certificate) →
    IsBest h.old.set (stored_side h.old).graphs c
    → IsUpdate (stored_side h.old) c (stored_side h.new) d →
    IsBest h.new.set (stored_side h.new).graphs d

-- and where there is no update of it, the reason is that of the new set's analysis
abbrev pub UpdateIsRefusedLaw : Type 0
UpdateIsRefusedLaw =
    (h : Change) (c : Certificate) (e : BuildError) →
    IsBest h.old.set (stored_side h.old).graphs c
    → IsUpdateError (stored_side h.old) c (stored_side h.new) e →
    IsBuildError h.new.set (stored_side h.new).graphs e

-- there is at most one update
abbrev pub OneUpdateLaw : Type 0
OneUpdateLaw =
    (old new : Side) (c d e : Certificate) →
    IsTaskSet old.set → IsTaskSet new.set → IsUpdate old c new d → IsUpdate old c new e → d ≡ e

-- and an update ends in one way, for any regions of the stated loops of both sets
abbrev pub OneUpdateByLoops : Type 0
OneUpdateByLoops =
    (old new : StatedSet) (ns vs ms ws : List CodeNest) (c : Certificate)
    (r s : Result Certificate BuildError) →
    HasNests old ns → HasNests old vs → HasNests new ms → HasNests new ws →
    IsUpdateEnd (side old.set old.graphs ns) c (side new.set new.graphs ms) r
    → IsUpdateEnd (side old.set old.graphs vs) c (side new.set new.graphs ws) s → r ≡ s
