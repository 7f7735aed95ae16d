-- Every graph with nested regions has a bound, or its bound is too large.
use Rattle.std.proofs.Common.{◌≡◌, ℕ, zero, suc, ◌*◌, ◌^◌, ◌<◌, ◌≤◌, List, [], ◌∷◌, length, All}
use Rattle.std.proofs.Common.{refl, sym, ap, ◌∙◌, subst, inl, inr, arith, slice_index}
use Rattle.std.proofs.lemmas.Bool.{cases_lt}
use Rattle.std.proofs.lemmas.List.{get_or_default}
use Rattle.flat_graph.specs.Graph.{Graph, IsGraph}
use Rattle.loop_regions.specs.Nest.{Nest, IsNested, Item, Node, Loop, IsItem}
use Rattle.loop_regions.specs.Potentials.{Costs, Meets, MeetsAt, Potentials, item_potential}
use Rattle.loop_regions.proofs.Potential.{item_law}
use Rattle.exec_bound.specs.Costs.{greatest_bound, listed_potentials}
use Rattle.exec_bound.specs.Least.{AreLeastPotentials}
use Rattle.exec_bound.specs.BoundEnds.{HasBound, ABoundExists}
use Rattle.exec_bound.proofs.GreatestBound.{greatest_is}
use Rattle.exec_bound.proofs.Least.{least_law}
use Rattle.exec_bound.proofs.Within.{AreWithin, along}

-- ---- the values of a function as a list

values : (ℕ → ℕ) → ℕ → List ℕ
values f zero = []
values f (suc n) = f 0 ∷ values (λ k. f (suc k)) n

values_count : (f : ℕ → ℕ) (n : ℕ) → length (values f n) ≡ n
unfolding values
values_count f zero = refl
values_count f (suc n) = ap suc (values_count (λ k. f (suc k)) n)

values_at : (f : ℕ → ℕ) (n k : ℕ) → k < n → slice_index (values f n) k ≡ f k
unfolding values
values_at f zero k lt = absurd (omega arith)
values_at f (suc n) zero lt = refl
values_at f (suc n) (suc k) lt = values_at (λ j. f (suc j)) n k (omega arith)

all_values : (f : ℕ → ℕ) (n most : ℕ) → ((k : ℕ) → k < n → f k ≤ most)
    → All (λ x. x ≤ most) (values f n)
all_values f n most each k d lt =
    let within : k < n = let e = values_count f n in omega (arith, lt, e) in
    let at = get_or_default (values f n) k 0 d lt in
    let is = values_at f n k within in
    let le = each k within in omega (arith, at, is, le)

-- ---- potentials that agree

module _ (g : Graph) (n : Nest) (c : Costs) (G : IsGraph g) (N : IsNested g n)
    (p q : Potentials) (nodes : (u : ℕ) → u < g.size → q.node u ≡ p.node u)
    (loops : (r : ℕ) → r < n.size → q.loop r ≡ p.loop r) where
  item_same : (v : ℕ) (i : Item) → v < g.size → IsItem n v i
      → item_potential q i ≡ item_potential p i
  item_same v (Node y) lt is = nodes y (subst (λ x. x < g.size) (sym is.0) lt)
  item_same v (Loop r) lt is = loops r is.0

  head_same : (r : ℕ) → r < n.size → n.bound r * q.node (n.head r) ≡ n.bound r * p.node (n.head r)
  head_same r lt =
      ap (λ x. n.bound r * x) (nodes (n.head r) (N.holds_nodes r (n.head r) lt (N.holds_head r lt)))

  meets_at : (u : ℕ) → u < g.size → MeetsAt g n c p u → MeetsAt g n c q u
  meets_at u lt M = record {
    edge = λ v e. let same = nodes u lt in let old = M.edge v e in omega (arith, same, old);
    end = λ t. let same = nodes u lt in let old = M.end t in omega (arith, same, old);
    inside = λ v i e b l is.
        let same = nodes u lt in
        let item = item_same v i (G.edges u v e) is in
        let old = M.inside v i e b l is in omega (arith, same, item, old);
    exit = λ v r i e b l is.
        let head = head_same r l.0.0 in
        let item = item_same v i (G.edges u v e) is in
        let loop = loops r l.0.0 in
        let old = M.exit v r i e b l is in omega (arith, head, item, loop, old);
  }

  meets_too : Meets g n c p → Meets g n c q
  meets_too M = record {
    nodes = λ u lt. meets_at u lt (M.nodes u lt);
    loops = λ r lt.
        let head = head_same r lt in
        let loop = loops r lt in
        let old = M.loops r lt in omega (arith, head, loop, old);
  }

  least_too : AreLeastPotentials g n c p → AreLeastPotentials g n c q
  least_too L = record {
    meets = meets_too L.meets;
    nodes = λ o u M lt.
        let same = nodes u lt in let le = L.nodes o u M lt in omega (arith, same, le);
    loops = λ o r M lt.
        let same = loops r lt in let le = L.loops o r M lt in omega (arith, same, le);
  }

-- a node has one item
pub one_item : (g : Graph) (n : Nest) (N : IsNested g n) (p : Potentials) (v : ℕ) (i j : Item)
    → IsItem n v i → IsItem n v j → item_potential p i ≡ item_potential p j
one_item g n N p v (Node y) (Node z) a b = ap p.node (a.0 ∙ sym b.0)
one_item g n N p v (Node y) (Loop s) a b = absurd (a.1 s b.0 b.1)
one_item g n N p v (Loop r) (Node z) a b = absurd (b.1 r a.0 a.1)
one_item g n N p v (Loop r) (Loop s) a b = ap p.loop (N.one_head r s a.0 b.0 (sym a.1 ∙ b.1))

module _ (g : Graph) (n : Nest) (c : Costs) (G : IsGraph g) (N : IsNested g n)
    (turn : (r : ℕ) → r < n.size → 1 ≤ n.bound r) (p : Potentials)
    (L : AreLeastPotentials g n c p) (i : Item) (is : IsItem n g.first i)
    (le : item_potential p i ≤ greatest_bound) where
  abbrev listed : Potentials
  listed = listed_potentials (values p.node g.size) (values p.loop n.size)

  within : (y : ℕ) → y < g.size → AreWithin g n c N turn p L.meets (2 ^ 40) y
  within y lt =
      let walk = G.reached y lt in
      along g n c N turn p L.meets (2 ^ 40) i is
      (subst (λ k. item_potential p i ≤ k) greatest_is le) y walk.0 walk.1

  bounded : HasBound g n c
  bounded = (
    item_potential listed i,
    values p.node g.size,
    values p.loop n.size,
    record {
      all_nodes = values_count p.node g.size;
      all_loops = values_count p.loop n.size;
      least = least_too g n c G N p listed (values_at p.node g.size) (values_at p.loop n.size) L;
      first = λ j item. one_item g n N listed g.first i j is item;
      within = subst (λ k. k ≤ greatest_bound)
          (sym (item_same g n c G N p listed (values_at p.node g.size) (values_at p.loop n.size)
          g.first i G.first is)) le;
      small_nodes = all_values p.node g.size (2 ^ 40) (λ k lt. (within k lt).0);
      small_loops = all_values p.loop n.size (2 ^ 40) (λ r lt.
          (within (n.head r) (N.holds_nodes r (n.head r) lt (N.holds_head r lt))).1 r lt
          (N.holds_head r lt));
    },
  )

pub a_bound_exists : ABoundExists
a_bound_exists g n c G N no_cycle turn =
    let least = least_law g n c G N no_cycle in
    let item = item_law n g.first in
    elim (cases_lt greatest_bound (item_potential least.0 item.0)) [
      | inl large ↦ inr (least.0, item.0, least.1, item.1, large)
      | inr le ↦ inl (bounded g n c G N turn least.0 least.1 item.0 item.1 le)
    ]
