-- The numbers of successors are numbers of nodes, and two of them are different.
use Rattle.std.proofs.Common.{◌≡◌, ◌≢◌, ℕ, ◌+◌, ◌<◌, Bool, true, false, ◌==◌, List, [], ◌∷◌}
use Rattle.std.proofs.Common.{reverse, length, map, Option, Some, None, slice_get, get_or, refl}
use Rattle.std.proofs.Common.{sym, ap, ◌∙◌, subst, arith, All, if◌then◌else◌}
use Rattle.std.proofs.lemmas.Bool.Decides.{nat_tests}
use Rattle.std.proofs.lemmas.List.Elements.{All-nil, All-cons}
use Rattle.std.proofs.lemmas.Option.{slice_get_within, slice_get-get_or}
use Rattle.crpd_base.proofs.Elements.{some_at}
use Rattle.rv_decode.specs.Flow.{Flow, Plain, Branch, Jump, Call, Return, Exit, Break, OtherJalr}
use Rattle.rv_decode.specs.Flow.{OtherJal, Flows, Words, flows}
use Rattle.flat_graph.specs.FlatGraph.{FlatNode, NodeError, successors, successors_by, goes_to}
use Rattle.flat_graph.specs.FlatGraph.{returns_to, error_of}
use Rattle.flat_graph.specs.Inner.StoredGraph.{next_nodes}
use Rattle.flat_graph.specs.Inner.GraphParts.{AreNumbers, AreNodeBodies}
use Rattle.flat_graph.specs.Inner.Leaders.{AreEnds, HasDifferentEnds}
use Rattle.flat_graph.specs.declared.graph.NextNodes.{NextNodes}
use Rattle.flat_graph.specs.declared.graph.NextNodes.TheVariants.{Ends, To, Either}
use Rattle.flat_graph.specs.declared.graph.NodeBody.{NodeBody}

-- numbers of nodes are below how many there are
pub below : (nodes : List FlatNode) (numbers : List ℕ) (some : List FlatNode)
    → AreNumbers nodes numbers some → All (λ v. v < length nodes) numbers
below nodes [] some e = All-nil (λ v. v < length nodes)
below nodes (v ∷ vs) [] e = cc
below nodes (v ∷ vs) (m ∷ ms) e =
    let head : slice_get nodes v ≡ Some m = cc in
    let rest : map (slice_get nodes) vs ≡ map Some ms = cc in
    All-cons (λ x. x < length nodes) v vs (slice_get_within nodes v m head) (below nodes vs ms rest)

-- two successors are two different nodes
two_returns : (d : List ℕ) (m k : FlatNode) → returns_to d ≡ m ∷ k ∷ [] → m ≢ k
two_returns [] m k e = cc
two_returns (b ∷ d) m k e = cc

two_of_branch : (c : List ℕ) (a t : ℕ) (m k : FlatNode) (b : Bool) → (t == a + 4) ≡ b →
    record { context = c; address = a + 4 }
    ∷ (if b then [] else record { context = c; address = t } ∷ []) ≡ m ∷ k ∷ [] → m ≢ k
two_of_branch c a t m k true h e = cc
two_of_branch c a t m k false h e = λ same.
    let first : record { context = c; address = a + 4 } ≡ m = cc in
    let second : record { context = c; address = t } ≡ k = cc in
    let address : a + 4 ≡ t = ap (λ (n : FlatNode). n.address) first
    ∙ ap (λ (n : FlatNode). n.address) same ∙ sym (ap (λ (n : FlatNode). n.address) second) in
    absurd (unequal address)
  where
    unequal : a + 4 ≡ t → ⊥
    unequal s = grind (arith, nat_tests)

two_of_flow : (c : List ℕ) (a : ℕ) (f : Flow) (m k : FlatNode) → goes_to c a f ≡ m ∷ k ∷ [] → m ≢ k
two_of_flow c a Plain m k e = cc
two_of_flow c a (Branch t) m k e = two_of_branch c a t m k (t == a + 4) refl e
two_of_flow c a (Jump t) m k e = cc
two_of_flow c a (Call t) m k e = cc
two_of_flow c a Return m k e = two_returns (reverse c) m k e
two_of_flow c a Exit m k e = cc
two_of_flow c a Break m k e = cc
two_of_flow c a OtherJalr m k e = cc
two_of_flow c a OtherJal m k e = cc

two_of : (x : Option NodeError) (c : List ℕ) (a : ℕ) (f : Option (Option Flow)) (m k : FlatNode)
    → successors_by x c a f ≡ m ∷ k ∷ [] → m ≢ k
two_of None c a (Some (Some f)) m k e = two_of_flow c a f m k e
two_of None c a (Some None) m k e = cc
two_of None c a None m k e = cc
two_of (Some x) c a (Some (Some f)) m k e = cc
two_of (Some x) c a (Some None) m k e = cc
two_of (Some x) c a None m k e = cc

module _ (nodes : List FlatNode) (code : Flows) (entry : ℕ) (n : FlatNode) where
  two_numbers : (v w : ℕ) (some : List FlatNode) → some ≡ successors code entry n
      → AreNumbers nodes (v ∷ w ∷ []) some → v ≢ w
  two_numbers v w [] s e = cc
  two_numbers v w (m ∷ []) s e = cc
  two_numbers v w (m ∷ k ∷ []) s e = λ same.
      let first : slice_get nodes v ≡ Some m = cc in
      let second : slice_get nodes w ≡ Some k = cc in
      let alike : Some m ≡ Some k = sym first ∙ ap (slice_get nodes) same ∙ second in
      two_of (error_of code entry n) n.context n.address (code n.address) m k (sym s)
      (one m k alike)
    where
      one : (a b : FlatNode) → Some a ≡ Some b → a ≡ b
      one a b h = cc
  two_numbers v w (m ∷ k ∷ x ∷ r) s e = cc

  pub body_ends : (next : NextNodes) → AreNumbers nodes (next_nodes next) (successors code entry n)
      → AreEnds (length nodes) next
  body_ends next e = record {
    below = below nodes (next_nodes next) (successors code entry n) e;
    apart = by next e;
  }
    where
      by : (next : NextNodes) → AreNumbers nodes (next_nodes next) (successors code entry n)
          → HasDifferentEnds next
      by Ends e = tt
      by (To v) e = tt
      by (Either v w) e = two_numbers v w (successors code entry n) refl e

pub all_ends : (words : Words) (entry : ℕ) (nodes : List FlatNode) (bodies : List NodeBody)
    → AreNodeBodies words entry nodes bodies → length bodies ≡ length nodes
    → All (λ l. AreEnds (length bodies) l.next) bodies
all_ends words entry nodes bodies L same k d lt =
    let n = some_at nodes k (omega arith) in
    subst (λ s. AreEnds s (get_or bodies k d).next) (sym same)
    (body_ends nodes (flows words) entry n.0 (get_or bodies k d).next
    (L k n.0 (get_or bodies k d) n.1 (slice_get-get_or bodies k d lt)).next)
