-- The numbers of nodes: their places in the order.
use Rattle.std.proofs.Common.{◌≡◌, ℕ, zero, suc, ◌<◌, ◌≤◌, List, [], length, Option, Some, None}
use Rattle.std.proofs.Common.{Contains, slice_get, get_or, refl, subst, ⊎_elim, arith}
use Rattle.std.proofs.Common.{AllPairs, option_map}
use Rattle.std.proofs.lemmas.Bool.{cases_order}
use Rattle.std.proofs.lemmas.List.Elements.{Contains-get_or}
use Rattle.std.proofs.lemmas.Option.{slice_get_within, get_or_from_slice_get}
use Rattle.crpd_base.proofs.Elements.{contains_at, at_contains}
use Rattle.rv_decode.specs.Flow.{Flows}
use Rattle.flat_graph.specs.FlatGraph.{FlatNode, NodeError, IsNumberedBefore, IsNode, IsNumbering}
use Rattle.flat_graph.specs.FlatGraph.{HasMoreNodes, error_of, IsGraphRefused, AtNode}
use Rattle.flat_graph.specs.FlatGraph as node
use Rattle.flat_graph.specs.GraphErrors.{IsGraphError}
use Rattle.flat_graph.specs.Inner.GraphErrors.{graph_error}
use Rattle.flat_graph.specs.declared.error.GraphError.{GraphError}
use Rattle.flat_graph.proofs.Order.{before_one_way, not_before_same}

-- sorted nodes are at most as many as a sorted list that contains them
module _ (nodes some : List FlatNode) (N : AllPairs IsNumberedBefore nodes)
    (S : AllPairs IsNumberedBefore some)
    (among : (n : FlatNode) → Contains some n → Contains nodes n) where
  later : (p q : ℕ) (n m : FlatNode) → slice_get nodes p ≡ Some n → slice_get nodes q ≡ Some m
      → IsNumberedBefore n m → p < q
  later p q n m a b h =
      ⊎_elim
      (λ e. absurd (not_before_same n m (same e) h))
      (λ o. ⊎_elim (λ lt. lt) (λ gt. absurd (before_one_way n m h (pair gt))) o)
      (cases_order p q)
    where
      same : p ≡ q → n ≡ m
      same e = let c = subst (λ k. slice_get nodes k ≡ Some n) e a in cc (c, b)

      pair : q < p → IsNumberedBefore m n
      pair lt =
          subst (λ x. IsNumberedBefore x n) (get_or_from_slice_get nodes q m m b)
          (subst (λ x. IsNumberedBefore (get_or nodes q m) x) (get_or_from_slice_get nodes p n m a)
          (N q p m lt (slice_get_within nodes p n a)))

  at_least : (d : FlatNode) (i : ℕ) → i < length some
      → (p : ℕ) × (slice_get nodes p ≡ Some (get_or some i d)) × (i ≤ p)
  at_least d zero lt =
      let c = contains_at nodes (get_or some 0 d)
      (among (get_or some 0 d) (Contains-get_or some 0 d lt)) in
      (c.0, c.1, omega arith)
  at_least d (suc i) lt =
      let c = contains_at nodes (get_or some (suc i) d)
      (among (get_or some (suc i) d) (Contains-get_or some (suc i) d lt)) in
      let b = at_least d i (omega arith) in
      let l = later b.0 c.0 (get_or some i d) (get_or some (suc i) d) b.1 c.1
      (S i (suc i) d (omega arith) lt) in
      (c.0, c.1, omega (arith, b.2, l))

  pub not_more : length some ≤ length nodes
  not_more = by (length some) refl
    where
      by : (k : ℕ) → length some ≡ k → length some ≤ length nodes
      by zero e = omega arith
      by (suc k) e =
          let d : FlatNode = record { context = []; address = 0 } in
          let a = at_least d k (omega arith) in
          omega (arith, a.2, slice_get_within nodes a.0 (get_or some k d) a.1)

pub not_too_many : (code : Flows) (entry limit : ℕ) (nodes : List FlatNode)
    → IsNumbering code entry nodes → length nodes ≤ limit → HasMoreNodes code entry limit → ⊥
not_too_many code entry limit nodes N le (some, S, all, more) =
    absurd (omega (arith, not_more nodes some N.ordered S (λ n c. (N.all n).0 (is_node n c))))
  where
    is_node : (n : FlatNode) → Contains some n → IsNode code entry n
    is_node n (k, lt, e) = subst (IsNode code entry) e (all k n lt)

-- the first node with an error, by number
pub refused_at : (code : Flows) (entry limit : ℕ) (nodes : List FlatNode) (k : ℕ) (n : FlatNode)
    (x : NodeError) → IsNumbering code entry nodes → length nodes ≤ limit →
    slice_get nodes k ≡ Some n → error_of code entry n ≡ Some x
    → ((j : ℕ) (m : FlatNode) → j < k → slice_get nodes j ≡ Some m → error_of code entry m ≡ None) →
    IsGraphRefused code entry limit (AtNode x n.address)
refused_at code entry limit nodes k n x N le at e none = (
  not_too_many code entry limit nodes N le,
  n,
  (N.all n).1 (at_contains nodes k n at),
  e,
  refl,
  least,
)
  where
    least : (m : FlatNode) (y : NodeError) → IsNode code entry m → error_of code entry m ≡ Some y
        → IsNumberedBefore m n → ⊥
    least m y h f b =
        let c = contains_at nodes m ((N.all m).0 h) in
        let lt = later nodes nodes N.ordered N.ordered (λ z i. i) c.0 k m n c.1 at b in
        let clean = none c.0 m lt c.1 in
        cc

pub refused_by : (code : Flows) (entry : ℕ) (o : Option NodeError) (a : ℕ) (e : GraphError)
    → option_map (λ x. graph_error x a) o ≡ Some e →
    ((x : NodeError) → o ≡ Some x → IsGraphRefused code entry 16384 (AtNode x a))
    → IsGraphError code entry e
refused_by code entry None a e h f = cc
refused_by code entry (Some x) a e h f =
    subst (IsGraphError code entry) (inner (graph_error x a) e h) (by x (f x refl))
  where
    inner : (p q : GraphError) → (Some p ≡ Some q) → p ≡ q
    inner p q s = cc

    by : (y : NodeError) → IsGraphRefused code entry 16384 (AtNode y a)
        → IsGraphError code entry (graph_error y a)
    by node.Misaligned r = r
    by node.OutsideCode r = r
    by node.Undecodable r = r
    by node.Breakpoint r = r
    by node.IndirectJump r = r
    by node.OtherLink r = r
    by node.Recursive r = r
    by node.TooDeep r = r
