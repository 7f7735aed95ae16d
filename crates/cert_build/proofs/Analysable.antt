-- The graph of code with the regions of its loops is one that an analysis can take.
use Rattle.std.proofs.Common.{◌≡◌, ℕ, zero, suc, ◌<◌, ◌≤◌, List, Contains, refl, subst, arith}
use Rattle.crpd_base.specs.declared.data.LoopAt.{LoopAt}
use Rattle.crpd_base.specs.declared.data.TaskPlan.{TaskPlan}
use Rattle.rv_decode.specs.Flow.{IsCodeMap, Words}
use Rattle.flat_graph.specs.Graph.{Graph, Places}
use Rattle.flat_graph.specs.Numbered.{node_at}
use Rattle.flat_graph.proofs.SameCode.{some_word}
use Rattle.loop_regions.specs.CodeNest.{AreBounded}
use Rattle.loop_regions.specs.Nest.{Nest}
use Rattle.loop_regions.specs.Stated.{IsRegions}
use Rattle.loop_regions.specs.TaskGraph.{TaskGraph}
use Rattle.loop_regions.proofs.Stated.{regions_law}
use Rattle.cert_check.specs.JudgeInput.{IsGraphOf}
use Rattle.cert_build.specs.AnalysisEnds.{IsAnalysable}

module _ (g : Graph) (p : Places) (loops : List LoopAt) (n : Nest) (R : IsRegions g p loops n) where
  -- the heads ascend, so there are at most as many regions as nodes
  head_past : (r : ℕ) → r < n.size → r ≤ n.head r
  head_past zero lt = omega arith
  head_past (suc r) lt =
      let before = head_past r (omega (arith, lt)) in
      let rises = R.numbered r (suc r) (omega arith) lt in omega (arith, before, rises)

  few_heads : (k : ℕ) → n.size ≡ k → n.size ≤ g.size
  few_heads zero e = omega (arith, e)
  few_heads (suc k) e =
      let last = head_past k (omega (arith, e)) in
      let node = R.node k (omega (arith, e)) in omega (arith, e, last, node)

  turns : AreBounded loops → (r : ℕ) → r < n.size → 1 ≤ n.bound r
  turns bounded r lt =
      let s = R.stated r lt in
      let bound = s.2.bound in
      let least = (of_item s.0 s.1).0 in omega (arith, bound, least)
    where
      of_item : (l : LoopAt) → Contains loops l → (1 ≤ l.bound) × (l.bound ≤ 1000000)
      of_item l (k, within, e) =
          subst (λ (x : LoopAt). (1 ≤ x.bound) × (x.bound ≤ 1000000)) e (bounded k l within)

pub analysable : (words : Words) (plan : TaskPlan) (t : TaskGraph) → IsCodeMap words
    → IsGraphOf words plan t → AreBounded plan.loops → t.graph.size ≤ 16384 → IsAnalysable t
analysable words plan t C B bounded few = record {
  graph = B.follows.graph;
  nested = regions_law t.graph t.places plan.loops t.nest B.regions B.accepted;
  no_cycle = B.accepted.no_cycle;
  turns = turns t.graph t.places plan.loops t.nest B.regions bounded;
  few = few;
  few_regions =
      let le = few_heads t.graph t.places plan.loops t.nest B.regions t.nest.size refl in
      omega (arith, le, few);
  addresses = λ y lt.
      let n = node_at t.places y in
      let w = some_word words plan.entry (node_at t.places y)
      (B.no_errors (node_at t.places y) (B.follows.nodes y lt)) in
      let room = C (t.places.address y) w.0 w.1 in omega (arith, room);
}
