-- The tests of clause 6 at a node.
use Rattle.std.proofs.Common.{◌≡◌, ◌↔◌, ℕ, ◌+◌, ◌*◌, ◌<◌, ◌≤◌, Bool, true, false, if◌then◌else◌}
use Rattle.std.proofs.Common.{IsTrue, refl, sym, subst, arith}
use Rattle.std.proofs.lemmas.Bool.{false≢true}
use Rattle.flat_graph.specs.Graph.{Graph, Edge, IsGraph}
use Rattle.loop_regions.specs.Nest.{Nest, IsNested, IsBackEdge, Leaves, LeavesLast, Item, IsItem}
use Rattle.loop_regions.specs.Potentials.{Costs, Potentials, item_potential}
use Rattle.loop_regions.proofs.Potential.{item_law}
use Rattle.loop_regions.proofs.Beside.{one_last}
use Rattle.cert_check.specs.PotentialClauses.{PotentialsMeet}
use Rattle.cert_check.specs.Inner.JudgedPotentials.{EdgePaid}

-- a region's potential covers its iterations
abbrev pub IsPaidTurns : Nest → Potentials → ℕ → Type 0
IsPaidTurns n p r = n.bound r * p.node (n.head r) ≤ p.loop r

module _ (n : Nest) (c : Costs) (p : Potentials) (u v : ℕ) where
  abbrev pub LeftPaid : Type 0
  LeftPaid = (r : ℕ) → Leaves n u v r → n.bound r * p.node (n.head r) ≤ p.loop r

  pub paid_back : IsBackEdge n u v → c.edge u v ≤ p.node u → LeftPaid → EdgePaid n c p u v
  paid_back back edge left = record {
    edge = edge;
    left = left;
    inside = λ i nb. absurd (nb back);
    exit = λ r i nb. absurd (nb back);
  }

  pub paid_inside : ((r : ℕ) → Leaves n u v r → ⊥) → c.edge u v ≤ p.node u → LeftPaid
      → ((i : Item) → IsItem n v i → c.edge u v + item_potential p i ≤ p.node u)
      → EdgePaid n c p u v
  paid_inside none edge left here = record {
    edge = edge;
    left = left;
    inside = λ i nb no_leave is. here i is;
    exit = λ r i nb last. absurd (none r last.0);
  }

  pub paid_exit : (g : Graph) (o : ℕ) → IsGraph g → IsNested g n → LeavesLast n u v o
      → c.edge u v ≤ p.node u → LeftPaid
      → ((i : Item) → IsItem n v i → n.bound o * p.node (n.head o) + item_potential p i ≤ p.loop o)
      → EdgePaid n c p u v
  paid_exit g o G N last edge left here = record {
    edge = edge;
    left = left;
    inside = λ i nb none is. absurd (none o last.0);
    exit = λ r i nb l is.
        let same : r ≡ o = one_last g n G N u v o r last l in
        subst (λ x. n.bound x * p.node (n.head x) + item_potential p i ≤ p.loop x) (sym same)
        (here i is);
  }

-- a test of the item's potential, of which a node has one
pub item_test : (n : Nest) (p : Potentials) (v t x q rest most : ℕ) (b : Bool) → t ≡ rest → q ≡ most
    → ((i : Item) → IsItem n v i → x ≡ item_potential p i) → IsTrue b ↔ (t + x ≤ q)
    → IsTrue b ↔ ((i : Item) → IsItem n v i → rest + item_potential p i ≤ most)
item_test n p v t x q rest most b t_is q_is x_is test = (
  (λ h i is. let le = test.0 h in let e = x_is i is in omega (arith, le, e, t_is, q_is)),
  (λ all. let i = item_law n v in let le = all i.0 i.1 in let e = x_is i.0 i.1 in
      test.1 (omega (arith, le, e, t_is, q_is))),
)

pub bound_test : (n : Nest) (p : Potentials) (v first x bound q : ℕ) (b : Bool) → first ≡ v
    → q ≡ bound → ((i : Item) → IsItem n first i → x ≡ item_potential p i) → IsTrue b ↔ (x ≤ q)
    → IsTrue b ↔ ((i : Item) → IsItem n v i → item_potential p i ≤ bound)
bound_test n p v first x bound q b first_is q_is x_is test = (
  (λ h i is. let le = test.0 h in let e = x_is i (subst (λ y. IsItem n y i) (sym first_is) is) in
      omega (arith, le, e, q_is)),
  (λ all. let i = item_law n first in let le = all i.0 (subst (λ y. IsItem n y i.0) first_is i.1) in
      let e = x_is i.0 i.1 in test.1 (omega (arith, le, e, q_is))),
)

-- a test of the cost of an edge to the end, which is 0 at nodes that are not completing
pub end_test : (answers : Bool) (end x q most : ℕ) (b : Bool) → x ≡ (if answers then end else 0)
    → q ≡ most → IsTrue b ↔ (x ≤ q) → IsTrue b ↔ (IsTrue answers → end ≤ most)
end_test true end x q most b x_is q_is test = (
  (λ h t. let le = test.0 h in omega (arith, le, x_is, q_is)),
  (λ pays. let le = pays refl in test.1 (omega (arith, le, x_is, q_is))),
)
end_test false end x q most b x_is q_is test =
    ((λ h t. absurd (false≢true t)), (λ pays. test.1 (omega (arith, x_is))))

-- the tests of all edges of the node, which have no price, of its edge to the end, and of its region
pub node_paid : (g : Graph) (n : Nest) (c : Costs) (p : Potentials) (u : ℕ)
    → ((v : ℕ) → c.price u v ≡ 0) → (IsTrue (c.answers u) → c.end u ≤ p.node u) → ((v : ℕ) → Edge g u v → EdgePaid n c p u v)
    → ((r : ℕ) → r < n.size → n.head r ≡ u → n.bound r * p.node u ≤ p.loop r)
    → PotentialsMeet g n c p u
node_paid g n c p u free end each region =
    record {
      edges = record {
        edge = λ v e. (each v e).edge;
        end = end;
        inside = λ v i e nb none is.
            let none_paid = free v in
            let pays = (each v e).inside i nb none is in omega (arith, none_paid, pays);
        exit = λ v r i e nb last is.
            let none_paid = free v in
            let pays = (each v e).exit r i nb last is in omega (arith, none_paid, pays);
      };
      left = λ v r e l. (each v e).left r l;
      loop = region;
    }

pub paid_edge : (g : Graph) (n : Nest) (c : Costs) (p : Potentials) (u v : ℕ) → c.price u v ≡ 0
    → Edge g u v
    → PotentialsMeet g n c p u → EdgePaid n c p u v
paid_edge g n c p u v free e M = record {
  edge = M.edges.edge v e;
  left = λ r l. M.left v r e l;
  inside = λ i nb none is. let pays = M.edges.inside v i e nb none is in omega (arith, free, pays);
  exit = λ r i nb last is. let pays = M.edges.exit v r i e nb last is in omega (arith, free, pays);
}
