-- The graph that is assembled from its parts.
use Rattle.std.proofs.Common.{◌≡◌, ℕ, ◌+◌, ◌<◌, ◌≤◌, ◌↔◌, Bool, List, [], ◌∷◌, ◌++◌, length, map}
use Rattle.std.proofs.Common.{Some, slice_get, refl, sym, ap, ◌∙◌, subst, arith, option_map, IsTrue}
use Rattle.std.proofs.Common.{All, ⊎_elim}
use Rattle.std.proofs.lemmas.Bool.{cases_eq}
use Rattle.std.proofs.lemmas.List.{length-map}
use Rattle.std.proofs.lemmas.Option.{slice_get_within, slice_get-map, get_or_from_slice_get}
use Rattle.crpd_base.proofs.Elements.{contains_at, some_at, at_end, at_kept}
use Rattle.rv_decode.specs.Table.{ins_of_word}
use Rattle.rv_decode.specs.Flow.{Words, IsCodeMap, flows}
use Rattle.flat_graph.specs.FlatGraph.{FlatNode, IsNumbering, error_of, successors}
use Rattle.flat_graph.specs.Graph.{IsLeader}
use Rattle.flat_graph.specs.Numbered.{IsFlatGraph}
use Rattle.flat_graph.specs.CodeGraph.{GraphNode, CodeGraph, IsCodeGraph, node_of, no_node}
use Rattle.flat_graph.specs.CodeGraph.{graph_of}
use Rattle.flat_graph.specs.Inner.StoredGraph.{IsStoredGraph, stored_graph, stored_node, next_nodes}
use Rattle.flat_graph.specs.Inner.GraphParts.{AreNodeBodies, IsNodeBody, AreStoredNodes}
use Rattle.flat_graph.specs.Inner.Leaders.{IsGraphOfBodies, HasLeaders}
use Rattle.flat_graph.specs.Inner.Points.{point_node, point_nodes}
use Rattle.flat_graph.specs.declared.graph.StoredNode.{StoredNode}
use Rattle.flat_graph.specs.declared.graph.NodeBody.{NodeBody}
use Rattle.flat_graph.specs.declared.points.ProgramPoint.{ProgramPoint}
use Rattle.flat_graph.proofs.Numbered.{flat_graph_law}

-- the node that is assembled from its parts
abbrev pub stored : ProgramPoint → NodeBody → Bool → StoredNode
stored s l b =
    record { context = s.context; address = s.address; ins = l.ins; next = l.next; leader = b }

abbrev pub AreStoredBelow : List ProgramPoint → List NodeBody → List Bool → ℕ → List StoredNode
    → Type 0
AreStoredBelow points bodies leaders place stored_nodes =
    (k : ℕ) (s : ProgramPoint) (l : NodeBody) (b : Bool) → k < place → slice_get points k ≡ Some s
    → slice_get bodies k ≡ Some l → slice_get leaders k ≡ Some b →
    slice_get stored_nodes k ≡ Some (stored s l b)

pub stored_more : (points : List ProgramPoint) (bodies : List NodeBody) (leaders : List Bool)
    (old new : List StoredNode) (place : ℕ) (t : ProgramPoint) (m : NodeBody) (c : Bool)
    → length old ≡ place →
    slice_get points place ≡ Some t → slice_get bodies place ≡ Some m
    → slice_get leaders place ≡ Some c → new ≡ old ++ stored t m c ∷ [] →
    AreStoredBelow points bodies leaders place old
    → AreStoredBelow points bodies leaders (place + 1) new
stored_more points bodies leaders old new place t m c all at_t at_m at_c is kept k s l b lt es el
    eb =
    subst (λ xs. slice_get xs k ≡ Some (stored s l b)) (sym is)
    (⊎_elim
    (λ e.
    let point = same points k place t s e at_t es in
    let body = same bodies k place m l e at_m el in
    let leader = same leaders k place c b e at_c eb in
    ap (slice_get (old ++ stored t m c ∷ [])) (e ∙ sym all) ∙ at_end old (stored t m c)
    ∙ (λ i. Some (stored (point i) (body i) (leader i))))
    (λ ne. at_kept old (stored t m c) k (stored s l b) (kept k s l b (omega arith) es el eb))
    (cases_eq k place))
  where
    same : {X : Type 0} (xs : List X) (i j : ℕ) (x y : X) → i ≡ j → slice_get xs j ≡ Some x
        → slice_get xs i ≡ Some y → x ≡ y
    same xs i j x y e a b = let both = sym a ∙ ap (slice_get xs) (sym e) ∙ b in cc

-- the parts at a place
record Part (points : List ProgramPoint) (bodies : List NodeBody) (leaders : List Bool)
    (k : ℕ) : Type 0 where
  point : ProgramPoint
  body : NodeBody
  leader : Bool
  point_at : slice_get points k ≡ Some point
  body_at : slice_get bodies k ≡ Some body
  leader_at : slice_get leaders k ≡ Some leader

pub record AreParts (words : Words) (entry : ℕ) (points : List ProgramPoint)
    (bodies : List NodeBody) (first : ℕ)
    (leaders : List Bool) (lists : List (List ℕ)) (stored_nodes : List StoredNode) : Type 0 where
  pub word_places : IsCodeMap words
  pub numbering : IsNumbering (flows words) entry (point_nodes lists points)
  pub few : length points ≤ 16384
  pub body_of : AreNodeBodies words entry (point_nodes lists points) bodies
  pub body_count : length bodies ≡ length points
  pub first_at : slice_get (point_nodes lists points) first
      ≡ Some (record { context = []; address = entry })
  pub leader_of : HasLeaders bodies first leaders
  pub leader_count : length leaders ≡ length bodies
  pub context_of : All (λ s. s.context < length lists) points
  pub nodes_of : AreStoredNodes points bodies leaders stored_nodes
  pub node_count : length stored_nodes ≡ length points

module _ (words : Words) (entry : ℕ) (points : List ProgramPoint) (bodies : List NodeBody)
    (first : ℕ)
    (leaders : List Bool) (lists : List (List ℕ)) (stored_nodes : List StoredNode)
    (P : AreParts words entry points bodies first leaders lists stored_nodes) where
  abbrev graph : CodeGraph
  graph = stored_graph lists stored_nodes first

  one : {X : Type 0} (a b : X) → Some a ≡ Some b → a ≡ b
  one a b h = cc

  part : (k : ℕ) → k < length points → Part points bodies leaders k
  part k lt =
      let s = some_at points k lt in
      let l = some_at bodies k (omega (arith, P.body_count)) in
      let b = some_at leaders k (omega (arith, P.body_count, P.leader_count)) in
      record {
        point = s.0;
        body = l.0;
        leader = b.0;
        point_at = s.1;
        body_at = l.1;
        leader_at = b.1;
      }

  abbrev part_node : (k : ℕ) → Part points bodies leaders k → StoredNode
  part_node k p = record {
    context = p.point.context;
    address = p.point.address;
    ins = p.body.ins;
    next = p.body.next;
    leader = p.leader;
  }

  part_node_at : (k : ℕ) (p : Part points bodies leaders k)
      → slice_get stored_nodes k ≡ Some (part_node k p)
  part_node_at k p = P.nodes_of k p.point p.body p.leader p.point_at p.body_at p.leader_at

  -- the graph's node at a place
  node_is : (k : ℕ) (p : Part points bodies leaders k)
      → node_of graph k ≡ stored_node lists (part_node k p)
  node_is k p =
      get_or_from_slice_get graph.nodes k (stored_node lists (part_node k p)) no_node
      (slice_get-map (stored_node lists) stored_nodes k
      ∙ ap (option_map (stored_node lists)) (part_node_at k p))

  context_is : (k : ℕ) (p : Part points bodies leaders k)
      → (node_of graph k).context ≡ (point_node lists p.point).context
  context_is k p = ap (λ (n : GraphNode). n.context) (node_is k p)

  address_is : (k : ℕ) (p : Part points bodies leaders k)
      → (node_of graph k).address ≡ p.point.address
  address_is k p = ap (λ (n : GraphNode). n.address) (node_is k p)

  flat_is : (k : ℕ) (p : Part points bodies leaders k)
      → slice_get (point_nodes lists points) k ≡ Some (point_node lists p.point)
  flat_is k p =
      slice_get-map (point_node lists) points k ∙ ap (option_map (point_node lists)) p.point_at

  body_is : (k : ℕ) (p : Part points bodies leaders k)
      → IsNodeBody words entry (point_nodes lists points) (point_node lists p.point) p.body
  body_is k p = P.body_of k (point_node lists p.point) p.body (flat_is k p) p.body_at

  part_of : (k : ℕ) (n : FlatNode) → slice_get (point_nodes lists points) k ≡ Some n
      → (p : Part points bodies leaders k) × (point_node lists p.point ≡ n)
  part_of k n e =
      let p = part k
      (subst (λ l. k < l) (length-map points (point_node lists))
      (slice_get_within (point_nodes lists points) k n e)) in
      (p, one (point_node lists p.point) n (sym (flat_is k p) ∙ e))

  size_is : length graph.nodes ≡ length points
  size_is = length-map stored_nodes (stored_node lists) ∙ P.node_count

  flat_graph : IsFlatGraph (flows words) entry (point_nodes lists points) (graph_of graph)
  flat_graph = record {
    numbering = P.numbering;
    size = size_is ∙ sym (length-map points (point_node lists));
    first = P.first_at;
    next = λ u n e.
        let q = part_of u n e in
        ap (map (slice_get (point_nodes lists points)))
        (ap (λ (x : GraphNode). x.next) (node_is u q.0))
        ∙ (body_is u q.0).next ∙ ap (λ x. map Some (successors (flows words) entry x)) q.1;
  }

  pub code_graph : IsCodeGraph words entry graph
  code_graph = record {
    nodes = point_nodes lists points;
    flat = flat_graph;
    places = record {
      node = λ u n e.
          let q = part_of u n e in (
            context_is u q.0 ∙ ap (λ (x : FlatNode). x.context) q.1,
            address_is u q.0 ∙ ap (λ (x : FlatNode). x.address) q.1,
          );
    };
    no_errors = λ m h.
        let c = contains_at (point_nodes lists points) m ((P.numbering.all m).0 h) in
        let q = part_of c.0 m c.1 in
        ap (error_of (flows words) entry) (sym q.1) ∙ (body_is c.0 q.0).no_error;
    instructions = λ u w lt e.
        let p = part u (subst (λ l. u < l) size_is lt) in
        let s = (body_is u p).stands in
        let same : s.0 ≡ w = one s.0 w (sym s.1 ∙ ap words (sym (address_is u p)) ∙ e) in
        ap ins_of_word (sym same) ∙ s.2 ∙ ap (λ (x : GraphNode). Some x.ins) (sym (node_is u p));
  }

  pub is_kept : IsStoredGraph lists stored_nodes first
  is_kept = record {
    of_code = record {
      words = words;
      entry = entry;
      word_places = P.word_places;
      of_code = code_graph;
    };
    graph =
        flat_graph_law (flows words) entry (point_nodes lists points) (graph_of graph) flat_graph;
    contexts_there = λ k d lt.
        let p = part k (subst (λ l. k < l) P.node_count lt) in
        subst (λ (s : StoredNode). s.context < length lists)
        (sym (get_or_from_slice_get stored_nodes k (part_node k p) d (part_node_at k p)))
        (subst (λ (s : ProgramPoint). s.context < length lists)
        (get_or_from_slice_get points k p.point p.point p.point_at)
        (P.context_of k p.point (slice_get_within points k p.point p.point_at)));
    few = subst (λ l. l ≤ 16384) (sym P.node_count) P.few;
    leaders = λ u n e.
        let p = part u (subst (λ l. u < l) P.node_count (slice_get_within stored_nodes u n e)) in
        let same : part_node u p ≡ n = one (part_node u p) n (sym (part_node_at u p) ∙ e) in
        subst (λ b. IsTrue b ↔ IsLeader (graph_of graph) u) (ap (λ (s : StoredNode). s.leader) same)
        (P.leader_of (graph_of graph) edges u p.leader p.leader_at);
  }
    where
      edges : IsGraphOfBodies (graph_of graph) bodies first
      edges = record {
        size = size_is ∙ sym P.body_count;
        start = refl;
        next = λ u l e.
            let p = part u (subst (λ m. u < m) P.body_count (slice_get_within bodies u l e)) in
            ap (λ (x : GraphNode). x.next) (node_is u p)
            ∙ ap (λ (x : NodeBody). next_nodes x.next) (one p.body l (sym p.body_at ∙ e));
      }

-- the graph has as many nodes as are stored
pub few_kept : (node : StoredNode → GraphNode) (nodes kept : List StoredNode) → nodes ≡ kept
    → length kept ≤ 16384 → length (map node nodes) ≤ 16384
few_kept node nodes kept same few =
    subst (λ l. l ≤ 16384) (sym (length-map nodes node ∙ ap length same)) few
