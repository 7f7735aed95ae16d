-- Nodes as seen from a context: those that are seen are consecutive.
use Rattle.std.proofs.Common.{◌≡◌, ◌≢◌, ◌⊎◌, ℕ, ◌<◌, ◌≤◌, true, false, List, [], ◌∷◌, length}
use Rattle.std.proofs.Common.{get_or, Some, None, slice_get, IsTrue, IsFalse, refl, sym, ◌∙◌, subst}
use Rattle.std.proofs.Common.{inl, inr, ⊎_elim, arith, eq-eqb, ◌==◌, nat_eq, is_some}
use Rattle.std.specs.List.{starts_with}
use Rattle.std.proofs.lemmas.Bool.{cases_eq, cases_Bool, both_ways, false≢true, eqb-true, ltb-true}
use Rattle.std.proofs.lemmas.Option.{slice_get_within, get_or_from_slice_get}
use Rattle.crpd_base.proofs.Elements.{some_at}
use Rattle.flat_graph.specs.FlatGraph.{FlatNode, list_lt, IsNumberedBefore}
use Rattle.flat_graph.specs.Numbered.{node_at}
use Rattle.flat_graph.specs.CodeGraph.{CodeGraph, graph_of, places_of, HasCode}
use Rattle.loop_regions.specs.Stated.{seen_from}
use Rattle.loop_regions.specs.Inner.Heads.{is_seen_from}

pub seen_none : (c d : List ℕ) (a : ℕ) → starts_with nat_eq d c ≡ false → seen_from c d a ≡ None
seen_none [] [] a e = absurd (both_ways true e refl)
seen_none [] (y ∷ d) a e = absurd (both_ways true e refl)
seen_none (x ∷ c) [] a e = refl
seen_none (x ∷ c) (y ∷ d) a e =
    ⊎_elim
    (λ same. rw same (seen_none c d a (rw same at e)))
    (λ other. rw other refl)
    (cases_Bool (x == y))

pub seen_call : (c d : List ℕ) (a : ℕ) → starts_with nat_eq d c ≡ true → length c < length d
    → seen_from c d a ≡ Some (get_or d (length c) 0)
seen_call [] [] a e lt = absurd (omega arith)
seen_call [] (y ∷ d) a e lt = refl
seen_call (x ∷ c) [] a e lt = absurd (omega arith)
seen_call (x ∷ c) (y ∷ d) a e lt =
    ⊎_elim
    (λ same. rw same (seen_call c d a (rw same at e) (omega arith)))
    (λ other. absurd (false≢true (rw other at e)))
    (cases_Bool (x == y))

pub seen_itself : (c d : List ℕ) (a : ℕ) → starts_with nat_eq d c ≡ true → length d ≤ length c
    → seen_from c d a ≡ Some a
seen_itself [] [] a e le = refl
seen_itself [] (y ∷ d) a e le = absurd (omega arith)
seen_itself (x ∷ c) [] a e le = absurd (false≢true e)
seen_itself (x ∷ c) (y ∷ d) a e le =
    ⊎_elim
    (λ same. rw same (seen_itself c d a (rw same at e) (omega arith)))
    (λ other. absurd (false≢true (rw other at e)))
    (cases_Bool (x == y))

-- whether a node is seen depends on its context alone
any_address : (c d : List ℕ) (a b : ℕ) → is_some (seen_from c d a) ≡ is_some (seen_from c d b)
any_address [] [] a b = refl
any_address [] (y ∷ d) a b = refl
any_address (x ∷ c) [] a b = refl
any_address (x ∷ c) (y ∷ d) a b =
    ⊎_elim
    (λ same. rw same (any_address c d a b))
    (λ other. rw other refl)
    (cases_Bool (x == y))

-- the first number of a longer list that is seen from a context
first_same : (x y : ℕ) (c d : List ℕ) (a : ℕ) → IsTrue (is_some (seen_from (x ∷ c) (y ∷ d) a))
    → (x ≡ y) × IsTrue (is_some (seen_from c d a))
first_same x y c d a h =
    ⊎_elim
    (λ same. (eqb-true x y same, rw same at h))
    (λ other. absurd (false≢true (rw other at h)))
    (cases_Bool (x == y))

seen_same : (x : ℕ) (c d : List ℕ) (a : ℕ) → IsTrue (is_some (seen_from c d a))
    → IsTrue (is_some (seen_from (x ∷ c) (x ∷ d) a))
seen_same x c d a h = rw (eq-eqb x x refl) h

-- the first numbers of a list and of a later one
lt_heads : (x y : ℕ) (d e : List ℕ) → IsTrue (list_lt (x ∷ d) (y ∷ e))
    → ((x ≡ y) × IsTrue (list_lt d e)) ⊎ (x < y)
lt_heads x y d e h =
    ⊎_elim
    (λ same. inl (eqb-true x y same, rw same at h))
    (λ other. inr (ltb-true x y (rw other at h)))
    (cases_Bool (x == y))

-- a list between two that begin with c begins with c
between : (c d e f : List ℕ) (a b k : ℕ) → IsTrue (list_lt d e) → IsTrue (list_lt e f)
    → IsTrue (is_some (seen_from c d a)) → IsTrue (is_some (seen_from c f b))
    → IsTrue (is_some (seen_from c e k))
between [] d [] f a b k de ef h i = refl
between [] d (w ∷ e) f a b k de ef h i = refl
between (x ∷ c) [] e f a b k de ef h i = absurd (false≢true h)
between (x ∷ c) (y ∷ d) e [] a b k de ef h i = absurd (false≢true i)
between (x ∷ c) (y ∷ d) [] (z ∷ f) a b k de ef h i = absurd (false≢true de)
between (x ∷ c) (y ∷ d) (w ∷ e) (z ∷ f) a b k de ef h i =
    let p = first_same x y c d a h in
    let q = first_same x z c f b i in
    ⊎_elim
    (λ s. ⊎_elim
    (λ t. subst (λ v. IsTrue (is_some (seen_from (x ∷ c) (v ∷ e) k))) (p.0 ∙ s.0)
    (seen_same x c e k (between c d e f a b k s.1 t.1 p.1 q.1)))
    (λ t. absurd (let u : x ≡ y = p.0 in let v : x ≡ z = q.0 in let r : y ≡ w = s.0 in omega arith))
    (lt_heads w z e f ef))
    (λ s. absurd (⊎_elim
    (λ t. let u : x ≡ y = p.0 in let v : x ≡ z = q.0 in let r : w ≡ z = t.0 in omega arith)
    (λ t. let u : x ≡ y = p.0 in let v : x ≡ z = q.0 in omega arith)
    (lt_heads w z e f ef)))
    (lt_heads y w d e de)

node_between : (c : List ℕ) (n m k : FlatNode) → IsNumberedBefore n m → IsNumberedBefore m k
    → IsTrue (is_some (seen_from c n.context n.address))
    → IsTrue (is_some (seen_from c k.context k.address))
    → IsTrue (is_some (seen_from c m.context m.address))
node_between c n m k (inl nm) (inl mk) h i =
    between c n.context m.context k.context n.address k.address m.address nm mk h i
node_between c n m k (inr nm) mk h i =
    any_address c m.context m.address n.address
    ∙ subst (λ d. IsTrue (is_some (seen_from c d n.address))) nm.0 h
node_between c n m k (inl nm) (inr mk) h i =
    any_address c m.context m.address k.address
    ∙ subst (λ d. IsTrue (is_some (seen_from c d k.address))) (sym mk.0) i

-- a node seen from its own context
pub seen_own : (c : List ℕ) (a : ℕ) → IsTrue (is_some (seen_from c c a))
seen_own [] a = refl
seen_own (x ∷ c) a = seen_same x c c a (seen_own c a)

module _ (g : CodeGraph) (H : HasCode g) where
  there : (u : ℕ) → u < (graph_of g).size
      → (n : FlatNode) × (slice_get H.of_code.nodes u ≡ Some n) × (node_at (places_of g) u ≡ n)
  there u lt =
      let n = some_at H.of_code.nodes u (subst (λ k. u < k) H.of_code.flat.size lt) in
      let h = H.of_code.places.node u n.0 n.1 in
      (n.0, n.1, λ i. record { context = h.0 i; address = h.1 i })

  before : (u v : ℕ) → u < v → v < (graph_of g).size
      → IsNumberedBefore (node_at (places_of g) u) (node_at (places_of g) v)
  before u v lt v_lt =
      let n = there u (omega arith) in
      let m = there v v_lt in
      let nodes = H.of_code.nodes in
      subst (λ x. IsNumberedBefore x (node_at (places_of g) v))
      (get_or_from_slice_get nodes u n.0 m.0 n.1 ∙ sym n.2)
      (subst (λ x. IsNumberedBefore (get_or nodes u m.0) x)
      (get_or_from_slice_get nodes v m.0 m.0 m.1 ∙ sym m.2)
      (H.of_code.flat.numbering.ordered u v m.0 lt (slice_get_within nodes v m.0 m.1)))

  -- a node between two that are seen is seen
  pub sees_between : (c : List ℕ) (u v w : ℕ) → u < v → v < w → w < (graph_of g).size
      → IsTrue (is_seen_from (places_of g) c u) → IsTrue (is_seen_from (places_of g) c w)
      → IsTrue (is_seen_from (places_of g) c v)
  sees_between c u v w uv vw w_lt h i =
      node_between c (node_at (places_of g) u) (node_at (places_of g) v) (node_at (places_of g) w)
      (before u v uv (omega arith)) (before v w vw w_lt) h i

  unseen : (c : List ℕ) (v y : ℕ) → IsFalse (is_seen_from (places_of g) c v)
      → (y ≢ v → IsTrue (is_seen_from (places_of g) c y)
      → IsTrue (is_seen_from (places_of g) c v)) → IsFalse (is_seen_from (places_of g) c y)
  unseen c v y out sees =
      ⊎_elim
      (λ e. subst (λ z. IsFalse (is_seen_from (places_of g) c z)) (sym e) out)
      (λ ne. ⊎_elim
      (λ h. absurd (both_ways (is_seen_from (places_of g) c v) out (sees ne h)))
      (λ f. f)
      (cases_Bool (is_seen_from (places_of g) c y)))
      (cases_eq y v)

  -- below a node that is not seen, before a head, no node is seen
  pub none_before : (head v y : ℕ) → head < (graph_of g).size → v < head
      → IsFalse (is_seen_from (places_of g) ((places_of g).context head) v) → y ≤ v
      → IsFalse (is_seen_from (places_of g) ((places_of g).context head) y)
  none_before head v y head_lt v_lt out le =
      let c = (places_of g).context head in
      unseen c v y out (λ ne h. sees_between c y v head (omega arith) v_lt head_lt h
      (seen_own c ((places_of g).address head)))

  pub none_after : (head v y : ℕ) → head < v → v ≤ y → y < (graph_of g).size
      → IsFalse (is_seen_from (places_of g) ((places_of g).context head) v)
      → IsFalse (is_seen_from (places_of g) ((places_of g).context head) y)
  none_after head v y v_lt le y_lt out =
      let c = (places_of g).context head in
      unseen c v y out (λ ne h. sees_between c head v y v_lt (omega arith) y_lt
      (seen_own c ((places_of g).address head)) h)
