-- The longest cost of one instruction of a task is from 1 to 2^18.
use Rattle.std.proofs.Common.{◌≡◌, ◌⊎◌, ℕ, zero, suc, ◌+◌, ◌<◌, ◌≤◌, Bool, true, false}
use Rattle.std.proofs.Common.{if◌then◌else◌, List, [], ◌∷◌, length, Option, Some, None, Contains}
use Rattle.std.proofs.Common.{IsTrue, refl, sym, subst, inl, inr, ⊎_elim, arith}
use Rattle.std.specs.Prelude.{reverse, ◌==◌, ◌%◌, not}
use Rattle.std.proofs.lemmas.Bool.{cases_eq, false≢true}
use Rattle.std.proofs.lemmas.List.{length-reverse}
use Rattle.flat_graph.proofs.SameCode.{aligned}
use Rattle.crpd_base.specs.Ranges.{IsPlatform}
use Rattle.crpd_base.specs.declared.data.Platform.{Platform}
use Rattle.rv_decode.specs.declared.Ins.{Ins}
use Rattle.rv_decode.specs.Cost.{cost}
use Rattle.rv_decode.specs.Flow.{Flow, Plain, Branch, Jump, Call, Return, Exit, Break, OtherJalr}
use Rattle.rv_decode.specs.Flow.{OtherJal, Flows, Words, flow, flows, flow_of_word, flow_of_row}
use Rattle.flat_graph.specs.FlatGraph.{FlatNode, ins_error, error_of, returns_to, successors_by}
use Rattle.flat_graph.specs.FlatGraph.{successors, answers_by}
use Rattle.flat_graph.specs.Graph.{Graph, Edge}
use Rattle.flat_graph.specs.Numbered.{node_at}
use Rattle.flat_graph.specs.CodeGraph.{CodeGraph, graph_of, places_of, node_code, IsCodeGraph}
use Rattle.flat_graph.specs.CodeGraph.{HasCode}
use Rattle.flat_graph.specs.EdgeCost.{NodeCode, edge_cost, end_cost, is_return}
use Rattle.flat_graph.proofs.CodeGraphs.{code_follows}
use Rattle.flat_graph.specs.CodeGraph.{answers_of}
use Rattle.evict_sets.specs.Longest.{greatest_of, longest_at_node, longest_below, longest}
use Rattle.evict_sets.proofs.Amounts.{small_cost, small_work}

-- four parts that are each below 2^16
small : (p : Platform) (ins : Ins) (missed taken : Bool) → IsPlatform p
    → cost p ins missed taken ≤ 262144
small p ins missed taken P =
    let work = small_work p ins 65536 (omega arith) (omega (arith, P.memory)) (omega (arith, P.mul))
    (omega (arith, P.div)) in
    let all = small_cost p ins missed taken 65536 (omega (arith, P.hit)) (omega (arith, P.miss))
    work (omega (arith, P.taken)) in
    omega (arith, all)

small_list : (f : ℕ → ℕ) (xs : List ℕ) (k : ℕ) → ((x : ℕ) → f x ≤ k) → greatest_of f xs ≤ k
small_list f [] k h = omega arith
small_list f (x ∷ xs) k h = let a = h x in let b = small_list f xs k h in omega (arith, a, b)

if_at_most : (b : Bool) (x k : ℕ) → x ≤ k → (if b then x else 0) ≤ k
if_at_most true x k le = le
if_at_most false x k le = omega arith

small_at : (p : Platform) (g : Graph) (l : NodeCode) (answers : ℕ → Bool) (u : ℕ) → IsPlatform p
    → longest_at_node p g l answers u ≤ 262144
small_at p g l answers u P =
    let a = small_list (edge_cost p l (λ y. false) u) (g.next u) 262144
    (λ v. small p (l.ins u) true (not (l.address v == l.address u + 4)) P) in
    let b = if_at_most (answers u) (end_cost p l (λ y. false) u) 262144
    (small p (l.ins u) true (is_return (flow (l.address u) (l.ins u))) P) in
    omega (arith, a, b)

small_below : (p : Platform) (g : Graph) (l : NodeCode) (answers : ℕ → Bool) (n : ℕ) → IsPlatform p
    → longest_below p g l answers n ≤ 262144
small_below p g l answers zero P = omega arith
small_below p g l answers (suc n) P =
    let a = small_at p g l answers n P in
    let b = small_below p g l answers n P in omega (arith, a, b)

pub small_longest : (p : Platform) (g : Graph) (l : NodeCode) (answers : ℕ → Bool) → IsPlatform p
    → longest p g l answers ≤ 262144
small_longest p g l answers P = small_below p g l answers g.size P

-- each instruction costs a cycle
some_cost : (p : Platform) (ins : Ins) (missed taken : Bool) → IsPlatform p
    → 1 ≤ cost p ins missed taken
some_cost p ins missed taken P = let h = P.hit in omega (arith, h)

some_list : (f : ℕ → ℕ) (xs : List ℕ) (v : ℕ) → Contains xs v → ((x : ℕ) → 1 ≤ f x)
    → 1 ≤ greatest_of f xs
some_list f [] v (k, lt, e) h = absurd (omega arith)
some_list f (x ∷ xs) v c h = let a = h x in omega (arith, a)

some_at : (p : Platform) (g : Graph) (l : NodeCode) (answers : ℕ → Bool) (u : ℕ) → IsPlatform p
    → ((v : ℕ) × Edge g u v) ⊎ IsTrue (answers u) → 1 ≤ longest_at_node p g l answers u
some_at p g l answers u P (inl e) =
    let a = some_list (edge_cost p l (λ y. false) u) (g.next u) e.0 e.1.1
    (λ v. some_cost p (l.ins u) true (not (l.address v == l.address u + 4)) P) in
    omega (arith, a)
some_at p g l answers u P (inr t) =
    let a = some_cost p (l.ins u) true (is_return (flow (l.address u) (l.ins u))) P in
    let here : 1 ≤ (if answers u then end_cost p l (λ y. false) u else 0) = rw t a in
    omega (arith, here)

some_below : (p : Platform) (g : Graph) (l : NodeCode) (answers : ℕ → Bool) (n u : ℕ) → u < n
    → 1 ≤ longest_at_node p g l answers u → 1 ≤ longest_below p g l answers n
some_below p g l answers zero u lt h = absurd (omega arith)
some_below p g l answers (suc n) u lt h =
    ⊎_elim
    (λ (e : u ≡ n). let a : 1 ≤ longest_at_node p g l answers n =
    subst (λ x. 1 ≤ longest_at_node p g l answers x) e h in omega (arith, a))
    (λ ne. let a = some_below p g l answers n u (omega arith) h in omega (arith, a))
    (cases_eq u n)

goes : (code : Flows) (entry : ℕ) (c : List ℕ) (a : ℕ) (o : Option (Option Flow))
    → ins_error code entry c o ≡ None
    → ((m : FlatNode) × Contains (successors_by None c a o) m) ⊎ IsTrue (answers_by c o)
goes code entry c a None e = cc
goes code entry c a (Some None) e = cc
goes code entry c a (Some (Some Plain)) e =
    inl (record { context = c; address = a + 4 }, (0, omega arith, refl))
goes code entry c a (Some (Some (Branch t))) e =
    inl (record { context = c; address = a + 4 }, (0, omega arith, refl))
goes code entry c a (Some (Some (Jump t))) e =
    inl (record { context = c; address = t }, (0, omega arith, refl))
goes code entry c a (Some (Some (Call t))) e = inl (_, (0, omega arith, refl))
goes code entry [] a (Some (Some Return)) e = inr refl
goes code entry (b ∷ d) a (Some (Some Return)) e =
    inl (back (reverse (b ∷ d)) (let l = length-reverse (b ∷ d) in omega (arith, l)))
  where
    back : (xs : List ℕ) → 0 < length xs → (m : FlatNode) × Contains (returns_to xs) m
    back [] lt = absurd (omega arith)
    back (x ∷ xs) lt = (record { context = reverse xs; address = x + 4 }, (0, omega arith, refl))
goes code entry c a (Some (Some Exit)) e = inr refl
goes code entry c a (Some (Some Break)) e = cc
goes code entry c a (Some (Some OtherJalr)) e = cc
goes code entry c a (Some (Some OtherJal)) e = cc

goes_by : (code : Flows) (entry : ℕ) (n : FlatNode) → error_of code entry n ≡ None
    → ((m : FlatNode) × Contains (successors code entry n) m)
    ⊎ IsTrue (answers_by n.context (code n.address))
goes_by code entry n e =
    ⊎_elim
    (λ h. inl (
      h.0,
      subst (λ o. Contains (successors_by o n.context n.address (code n.address)) h.0) (sym e) h.1,
    ))
    (λ t. inr t)
    (goes code entry n.context n.address (code n.address)
    (aligned (n.address % 4 == 0) (ins_error code entry n.context (code n.address)) e))

answers_here : (g : CodeGraph) (words : Words) (entry u : ℕ) → IsCodeGraph words entry g
    → u < length g.nodes → (o : Option ℕ) → words ((places_of g).address u) ≡ o
    → IsTrue (answers_by ((places_of g).context u) (flow_of_word ((places_of g).address u) o))
    → IsTrue (answers_of g u)
answers_here g words entry u C lt None e t = absurd (none_answers ((places_of g).context u) t)
  where
    none_answers : (c : List ℕ) → IsTrue (answers_by c None) → ⊥
    none_answers [] t = false≢true t
    none_answers (b ∷ d) t = false≢true t
answers_here g words entry u C lt (Some w) e t =
    subst (λ x.
    IsTrue (answers_by ((places_of g).context u) (Some (flow_of_row ((places_of g).address u) x))))
    (C.instructions u w lt e) t

-- so the first node of a graph of some code does
pub some_longest : (p : Platform) (g : CodeGraph) → IsPlatform p → HasCode g
    → 1 ≤ longest p (graph_of g) (node_code g) (answers_of g)
some_longest p g P H =
    let C = H.of_code in
    let F = code_follows H.words H.entry g C in
    let n : FlatNode = node_at (places_of g) g.first in
    let lt = F.graph.first in
    let there = goes_by (flows H.words) H.entry n (C.no_errors n (F.nodes g.first lt)) in
    some_below p (graph_of g) (node_code g) (answers_of g) (length g.nodes) g.first lt
    (some_at p (graph_of g) (node_code g) (answers_of g) g.first P
    (⊎_elim
    (λ h. inl (let e = F.numbers g.first h.0 lt h.1 in (e.0, e.1)))
    (λ t. inr (answers_here g H.words H.entry g.first C lt (H.words n.address) refl t))
    there))
