-- Clauses 2 to 7 of a part, and that it is the analysis', carry over from an old task to the
-- unchanged new one.
use Rattle.std.proofs.Common.{◌≡◌, ℕ, ◌+◌, ◌≤◌, Bool, IsFalse, if◌then◌else◌, length, refl, sym, ap}
use Rattle.std.proofs.Common.{◌∙◌, subst, inl, inr, arith, ◌&&◌, ◌==◌, not}
use Rattle.std.proofs.lemmas.Bool.{cases_lt}
use Rattle.crpd_base.specs.declared.data.Platform.{Platform}
use Rattle.crpd_base.specs.declared.data.TaskPart.{TaskPart}
use Rattle.rv_decode.specs.declared.Ins.{Ins}
use Rattle.rv_decode.specs.Cost.{cost, changes_flow}
use Rattle.rv_decode.specs.Flow.{flow}
use Rattle.rv_decode.proofs.WorkCost.{same_work}
use Rattle.flat_graph.specs.EdgeCost.{NodeCode, is_return}
use Rattle.flat_graph.specs.CodeGraph.{CodeGraph, graph_of, HasCode}
use Rattle.loop_regions.specs.Nest.{IsNested}
use Rattle.loop_regions.specs.CodeNest.{CodeNest, nest_of}
use Rattle.loop_regions.specs.TaskGraph.{TaskGraph, node_code_of, answering}
use Rattle.loop_regions.specs.Potentials.{Costs}
use Rattle.cert_check.specs.ListedPotentials.{potentials_of}
use Rattle.cert_check.specs.PotentialClauses.{edge_costs, PotentialsMeet}
use Rattle.loop_regions.specs.TaskGraphs.{task_graph}
use Rattle.cert_check.specs.declared.outcome.Clause.{Clause}
use Rattle.cert_check.specs.declared.outcome.Clause.TheVariants.{Leaders, Inequalities}
use Rattle.cert_check.specs.Verdict.{GraphHolds}
use Rattle.flat_graph.proofs.CodeGraphs.{code_is_graph}
use Rattle.loop_regions.proofs.Alike.{Alike, turned}
use Rattle.loop_regions.proofs.Stated.{regions_law}
use Rattle.cert_check.proofs.Alike.{graph_holds_too}
use Rattle.cert_build.proofs.Alike.{part_too}
use Rattle.cert_build.specs.Best.{IsBestPart, AreBestPotentials}
use Rattle.cert_build.proofs.Certified.{beside}
use Rattle.cert_update.specs.Unchanged.{AreAlike, HasSameNodes, HasSameRegions}
use Rattle.cert_update.specs.Update.{HasSameAnalysis}
use Rattle.cert_update.specs.Laws.{HasRegions, SameTask, stored_graph, SameGraphLaw, PassLaw}
use Rattle.cert_update.specs.Laws.{BestPassLaw}
use Rattle.cert_update.proofs.SameNodes.{AreSameNodes, same_lists}
use Rattle.cert_update.proofs.FirstNodes.{IsAhead, ahead_too, reached_ahead, one_first}

-- ---- the graphs are the same

nested : (g : CodeGraph) (n : CodeNest) → HasRegions g n → IsNested (graph_of g) (nest_of n)
nested g n N = regions_law (graph_of g) _ N.loops (nest_of n) N.regions N.accepted

-- past the nodes no region holds anything
pub alike : (g h : CodeGraph) (n m : CodeNest)
    → ((r y : ℕ) → length g.nodes ≤ y → IsFalse ((nest_of n).holds r y))
    → ((r y : ℕ) → length h.nodes ≤ y → IsFalse ((nest_of m).holds r y))
    → length g.nodes ≡ length h.nodes → HasSameRegions (task_graph g n) (task_graph h m)
    → Alike (nest_of n) (nest_of m)
alike g h n m g_only h_only size R = record {
  size = R.size;
  head = R.head;
  bound = R.bound;
  holds = λ r y lt. elim (cases_lt y (length g.nodes)) [
    | inl below ↦ R.holds r y lt below
    | inr past ↦ g_only r y past ∙ sym (h_only r y (omega (arith, past, size)))
  ];
}

same_nodes : (g h : CodeGraph) (n m : CodeNest) → HasSameNodes (task_graph g n) (task_graph h m)
    → AreSameNodes g h
same_nodes g h n m S = λ u lt. (
  (let c = S.context u lt in let a = S.address u lt in
      λ i. record { context = c i; address = a i }),
  S.instruction u lt,
)

module _ (g h : CodeGraph) (n m : CodeNest) (G : HasCode g) (H : HasCode h) (N : HasRegions g n)
    (M : HasRegions h m) (S : HasSameNodes (task_graph g n) (task_graph h m))
    (R : HasSameRegions (task_graph g n) (task_graph h m)) where
  nodes_same : g.nodes ≡ h.nodes
  nodes_same =
      same_lists g h G.words H.words G.entry H.entry G.of_code H.of_code S.size
      (same_nodes g h n m S)

  -- the new graph over the old nodes
  abbrev moved : CodeGraph
  moved = record { nodes = g.nodes; first = h.first }

  moved_is : h ≡ moved
  moved_is = λ i. record { nodes = (sym nodes_same) i; first = h.first }

  first_same : g.first ≡ h.first
  first_same =
      let H1 : HasCode moved = subst (λ (x : CodeGraph). HasCode x) moved_is H in
      let M1 : HasRegions moved m = subst (λ (x : CodeGraph). HasRegions x m) moved_is M in
      let one = code_is_graph g G in
      let two = code_is_graph moved H1 in
      let n_nested = nested g n N in
      let m_nested = nested moved m M1 in
      let A = alike g h n m N.regions.nodes_only M.regions.nodes_only S.size R in
      let out : IsAhead (graph_of g) (nest_of n) g.first h.first =
      reached_ahead (graph_of g) (nest_of n) n_nested one h.first two.first in
      let back : IsAhead (graph_of moved) (nest_of m) h.first g.first =
      reached_ahead (graph_of moved) (nest_of m) m_nested two g.first one.first in
      one_first (graph_of g) (nest_of n) g.first h.first N.accepted.no_cycle out
      (ahead_too (graph_of g) (nest_of m) (nest_of n) (turned (nest_of n) (nest_of m) A) h.first
      g.first back)

  pub same_graph : g ≡ h
  same_graph = λ i. record { nodes = nodes_same i; first = first_same i }

-- tasks with the same code have one graph, and alike regions
graph_of_same : (s : SameTask) → s.old.graph ≡ s.new.graph
graph_of_same s =
    same_graph s.old.graph s.new.graph s.old.nest s.new.nest s.old.code s.new.code s.old.regions
    s.new.regions s.same.nodes s.same.regions

nests_of_same : (s : SameTask) → Alike (nest_of s.old.nest) (nest_of s.new.nest)
nests_of_same s =
    alike s.old.graph s.new.graph s.old.nest s.new.nest s.old.regions.regions.nodes_only
    s.new.regions.regions.nodes_only s.same.nodes.size s.same.regions

pub same_graph_law : SameGraphLaw
same_graph_law s =
    let e = graph_of_same s in
    record {
      first = ap (λ (x : CodeGraph). x.first) e;
      next = λ y lt. ap (λ (x : CodeGraph). (graph_of x).next y) e;
    }

-- ---- the platforms have the same costs

abbrev pub seen : Platform → Platform → Platform
seen p q = record p { switch = q.switch; switching = q.switching }

cost_same : (p q : Platform) (ins : Ins) (missed taken : Bool)
    → cost p ins missed taken ≡ cost (seen p q) ins missed taken
cost_same p q ins missed taken =
    ap (λ w. p.hit + (if missed then p.miss else 0) + w
    + (if taken && changes_flow ins then p.taken else 0))
    (same_work p (seen p q) ins refl refl refl)

costs_same : (p q : Platform) (l : NodeCode) (answers is_hit : ℕ → Bool)
    → edge_costs p l answers is_hit ≡ edge_costs (seen p q) l answers is_hit
costs_same p q l answers is_hit = λ i. record {
  edge = λ u v. (cost_same p q (l.ins u) (not (is_hit u)) (not (l.address v == l.address u + 4))) i;
  price = λ u v. 0;
  answers = answers;
  end = λ u.
      (cost_same p q (l.ins u) (not (is_hit u)) (is_return (flow (l.address u) (l.ins u)))) i;
}

module _ (p q : Platform) (same : AreAlike p q) (t : TaskGraph) (c : TaskPart) where
  seen_holds : (k : Clause) → GraphHolds p t c k → GraphHolds (seen p q) t c k
  seen_holds (Inequalities u) h = λ is_hit hits below.
      subst (λ (x : Costs). PotentialsMeet t.graph t.nest x (potentials_of c) u)
      (costs_same p q (node_code_of t) (answering t) is_hit) (h is_hit hits below)
  seen_holds k h = h

  pub platform_holds : (k : Clause) → GraphHolds p t c k → GraphHolds q t c k
  platform_holds k h = subst (λ (x : Platform). GraphHolds x t c k) same (seen_holds k h)

  seen_best : IsBestPart p t c → IsBestPart (seen p q) t c
  seen_best B =
      record {
        states = record {
          leaders = B.states.leaders;
          each = B.states.each;
          ascending = B.states.ascending;
        };
        evicting = B.evicting;
        useful = B.useful;
        is_hit = B.is_hit;
        hits = B.hits;
        potentials =
            subst (λ (x : Costs). AreBestPotentials t.graph t.nest x c)
            (costs_same p q (node_code_of t) (answering t) B.is_hit) B.potentials;
      }

  pub platform_best : IsBestPart p t c → IsBestPart q t c
  platform_best B = subst (λ (x : Platform). IsBestPart x t c) same (seen_best B)

-- ---- the parts state the same

module _ (p : Platform) (t : TaskGraph) (c d : TaskPart) (K : HasSameAnalysis c d) where
  abbrev kept : TaskPart
  kept =
      record {
        name = d.name;
        part = c.part;
        states = c.states;
        potentials = c.potentials;
        loops = c.loops;
        method = d.method;
        window = d.window;
        response = d.response;
      }

  kept_is : kept ≡ d
  kept_is = λ i. record {
    name = d.name;
    part = (sym K.part) i;
    states = (sym K.states) i;
    potentials = (sym K.potentials) i;
    loops = (sym K.loops) i;
    method = d.method;
    window = d.window;
    response = d.response;
  }

  kept_holds : (k : Clause) → GraphHolds p t c k → GraphHolds p t kept k
  kept_holds Leaders h = h
  kept_holds k h = h

  pub part_holds : (k : Clause) → GraphHolds p t c k → GraphHolds p t d k
  part_holds k h = subst (λ (x : TaskPart). GraphHolds p t x k) kept_is (kept_holds k h)

  pub part_best : IsBestPart p t c → IsBestPart p t d
  part_best B =
      subst (λ (x : TaskPart). IsBestPart p t x) kept_is
      (beside p t c d.name d.method d.window d.response B)

pub pass_law : PassLaw
pass_law s c d k K holds =
    let p = s.old.platform in
    let q = s.new.platform in
    let m = s.new.nest in
    let here = graph_holds_too p s.old.graph s.old.nest m (nests_of_same s) c k holds in
    let there = subst (λ (x : CodeGraph). GraphHolds p (task_graph x m) c k) (graph_of_same s)
    here in
    part_holds q (stored_graph s.new) c d K k
    (platform_holds p q s.same.platform (stored_graph s.new) c k there)

pub best_pass_law : BestPassLaw
best_pass_law s c d K best =
    let p = s.old.platform in
    let q = s.new.platform in
    let m = s.new.nest in
    let here = part_too p s.old.graph s.old.nest m (nests_of_same s) c best in
    let there = subst (λ (x : CodeGraph). IsBestPart p (task_graph x m) c) (graph_of_same s) here in
    part_best q (stored_graph s.new) c d K
    (platform_best p q s.same.platform (stored_graph s.new) c there)
