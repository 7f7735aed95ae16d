-- An order of the nodes, written node by node.
use Rattle.std.proofs.Common.{◌≡◌, ◌≢◌, ℕ, zero, suc, ◌+◌, ◌<◌, ◌≤◌, Bool, true, false, eqb, List}
use Rattle.std.proofs.Common.{[], ◌∷◌, length, set, slice_index, IsTrue, IsFalse, refl, sym, ap}
use Rattle.std.proofs.Common.{◌∙◌, subst, ⊎_elim, arith, ne_eqb, eq-eqb, eqb-true, ◌||◌, length-set}
use Rattle.std.proofs.Common.{get_or-set_same, get_or-set_other}
use Rattle.std.specs.List.{IsDistinct, AllByRecursion, list_any}
use Rattle.std.proofs.lemmas.Bool.{cases_eq, cases_Bool, both_ways, or_cases, false≢true}
use Rattle.std.proofs.lemmas.Map.Steps.{length-le_from_distinct_below, le-length_from_below}
use Rattle.flat_graph.specs.Graph.{Graph, Edge, IsWalk, IsGraph}
use Rattle.evict_sets.specs.Full.{Listed}
use Rattle.evict_sets.specs.CacheClauses.{ListsLeaders}
use Rattle.evict_sets.specs.Listing.{IsChainOrder}
use Rattle.evict_sets.specs.Inner.OrderPrefix.{IsOrderPrefix, IsChainComplete, HasListedBelow}

-- the values below a number, the last first
values : (ℕ → ℕ) → ℕ → List ℕ
values f zero = []
values f (suc k) = f k ∷ values f k

values_length : (f : ℕ → ℕ) (k : ℕ) → length (values f k) ≡ k
unfolding values
values_length f zero = refl
values_length f (suc k) = ap suc (values_length f k)

not_value : (f : ℕ → ℕ) (k x : ℕ) → ((j : ℕ) → j < k → x ≢ f j)
    → AllByRecursion (λ y. eqb x y ≡ false) (values f k)
unfolding values
not_value f zero x ne = tt
not_value f (suc k) x ne =
    (ne_eqb x (f k) (ne k (omega arith)), not_value f k x (λ j lt. ne j (omega arith)))

values_apart : (f : ℕ → ℕ) (k : ℕ) → ((i j : ℕ) → i < j → j < k → f i ≢ f j)
    → IsDistinct eqb (values f k)
unfolding values IsDistinct
values_apart f zero ne = tt
values_apart f (suc k) ne = (
  not_value f k (f k) (λ j lt e. ne j k lt (omega arith) (sym e)),
  values_apart f k (λ i j lt within. ne i j lt (omega arith)),
)

values_below : (f : ℕ → ℕ) (k n : ℕ) → ((i : ℕ) → i < k → f i < n) → (q : ℕ)
    → list_any (eqb q) (values f k) ≡ true → q < n
unfolding values
values_below f zero n below q h = absurd (false≢true h)
values_below f (suc k) n below q h =
    ⊎_elim
    (λ e. subst (λ x. x < n) (sym (eqb-true q (f k) e)) (below k (omega arith)))
    (λ e. values_below f k n (λ i lt. below i (omega arith)) q e)
    (or_cases (eqb q (f k)) (list_any (eqb q) (values f k)) h)

-- k different numbers below n, and one more
few_more : (f : ℕ → ℕ) (k n x : ℕ) → ((i : ℕ) → i < k → f i < n)
    → ((i j : ℕ) → i < j → j < k → f i ≢ f j) → x < n → ((j : ℕ) → j < k → f j ≢ x) → k < n
unfolding IsDistinct
few_more f k n x below apart lt fresh =
    let most = length-le_from_distinct_below (x ∷ values f k) n (
      not_value f k x (λ j l e. fresh j l (sym e)),
      values_apart f k apart,
    ) within in
    let long = values_length f k in
    omega (arith, most, long)
  where
    within : (q : ℕ) → list_any (eqb q) (x ∷ values f k) ≡ true → q < n
    within q h =
        ⊎_elim
        (λ e. subst (λ y. y < n) (sym (eqb-true q x e)) lt)
        (λ e. values_below f k n below q e)
        (or_cases (eqb q x) (list_any (eqb q) (values f k)) h)

has_value : (f : ℕ → ℕ) (k j q : ℕ) → j < k → f j ≡ q → list_any (eqb q) (values f k) ≡ true
unfolding values
has_value f zero j q lt e = absurd (omega arith)
has_value f (suc k) j q lt e =
    ⊎_elim
    (λ same. first (f k) (sym (sym (ap f same) ∙ e)))
    (λ ne. second (has_value f k j q (omega arith) e))
    (cases_eq j k)
  where
    first : (y : ℕ) → q ≡ y → list_any (eqb q) (y ∷ values f k) ≡ true
    first y same = ap (λ b. b || list_any (eqb q) (values f k)) (eq-eqb q y same)

    right : (b c : Bool) → c ≡ true → (b || c) ≡ true
    right true c t = refl
    right false c t = t

    second : list_any (eqb q) (values f k) ≡ true → list_any (eqb q) (f k ∷ values f k) ≡ true
    second t = right (eqb q (f k)) (list_any (eqb q) (values f k)) t

-- at least as many as all numbers below n
all_values : (f : ℕ → ℕ) (k n : ℕ) → ((q : ℕ) → q < n → (j : ℕ) × (j < k) × (f j ≡ q)) → n ≤ k
all_values f k n all =
    let least = le-length_from_below (values f k) n (λ q lt. let h = all q lt in
    has_value f k h.0 q h.1 h.2) in
    let long = values_length f k in
    omega (arith, least, long)

module _ (g : Graph) (l : Listed) where
  -- a node that is not yet written
  abbrev pub IsFresh : List ℕ → ℕ → ℕ → Type 0
  IsFresh order count v = (j : ℕ) → j < count → slice_index order j ≢ v

  pub has_room : (order : List ℕ) (count v : ℕ) → IsOrderPrefix g l order count → v < g.size
      → IsFresh order count v → count < g.size
  has_room order count v L lt fresh =
      few_more (slice_index order) count g.size v L.nodes L.apart lt fresh

  pub at_new : (order : List ℕ) (count v : ℕ) → count < length order
      → slice_index (set order count v) count ≡ v
  at_new order count v lt = get_or-set_same order count v 0 lt

  pub at_old : (order : List ℕ) (count v k : ℕ) → k < count
      → slice_index (set order count v) k ≡ slice_index order k
  at_old order count v k lt = get_or-set_other order count k v 0 (λ e. absurd (omega arith))

  -- one more node
  pub line_more : (order : List ℕ) (count v : ℕ) → length order ≡ g.size
      → IsOrderPrefix g l order count → v < g.size → IsFresh order count v
      → (count ≡ 0 → IsTrue (l.is_listed v))
      → ((k : ℕ) → k + 1 ≡ count → IsFalse (l.is_listed v) → Edge g (slice_index order k) v)
      → ((k w : ℕ) → k + 1 ≡ count → Edge g (slice_index order k) w
      → IsFalse (l.is_listed w) → v ≡ w)
      → IsOrderPrefix g l (set order count v) (count + 1)
  line_more order count v size L lt fresh listed edge one =
      let room : count < length order = (let r = has_room order count v L lt fresh in
      omega (arith, r, size)) in
      let new = at_new order count v room in
      record {
        room = (let long = length-set order count v in omega (arith, room, long));
        nodes = λ k k_lt. ⊎_elim
            (λ (e : k ≡ count). subst (λ x. x < g.size)
            (sym (ap (slice_index (set order count v)) e ∙ new)) lt)
            (λ ne. subst (λ x. x < g.size) (sym (at_old order count v k (omega arith)))
            (L.nodes k (omega arith)))
            (cases_eq k count);
        apart = λ j k jk k_lt same. ⊎_elim
            (λ (e : k ≡ count). fresh j (omega arith)
            (sym (at_old order count v j (omega arith)) ∙ same
            ∙ ap (slice_index (set order count v)) e ∙ new))
            (λ ne. L.apart j k jk (omega arith)
            (sym (at_old order count v j (omega arith)) ∙ same
            ∙ at_old order count v k (omega arith)))
            (cases_eq k count);
        start = λ some. ⊎_elim
            (λ (e : 0 ≡ count). subst (λ x. IsTrue (l.is_listed x))
            (sym (ap (slice_index (set order count v)) e ∙ new)) (listed (sym e)))
            (λ ne. subst (λ x. IsTrue (l.is_listed x)) (sym (at_old order count v 0 (omega arith)))
            (L.start (omega arith)))
            (cases_eq 0 count);
        before = λ k within out. ⊎_elim
            (λ (e : k + 1 ≡ count).
            let here : slice_index (set order count v) (k + 1) ≡ v =
            ap (slice_index (set order count v)) e ∙ new in
            let old = at_old order count v k (omega arith) in
            subst (λ x. Edge g x (slice_index (set order count v) (k + 1))) (sym old)
            (subst (λ x. Edge g (slice_index order k) x) (sym here)
            (edge k e (subst (λ x. IsFalse (l.is_listed x)) here out))))
            (λ ne.
            let here = at_old order count v (k + 1) (omega arith) in
            let old = at_old order count v k (omega arith) in
            subst (λ x. Edge g x (slice_index (set order count v) (k + 1))) (sym old)
            (subst (λ x. Edge g (slice_index order k) x) (sym here)
            (L.before k (omega arith) (subst (λ x. IsFalse (l.is_listed x)) here out))))
            (cases_eq (k + 1) count);
        behind = λ k w within f out. ⊎_elim
            (λ (e : k + 1 ≡ count).
            ap (slice_index (set order count v)) e ∙ new
            ∙ one k w e (subst (λ x. Edge g x w) (at_old order count v k (omega arith)) f) out)
            (λ ne.
            at_old order count v (k + 1) (omega arith)
            ∙ L.behind k w (omega arith)
            (subst (λ x. Edge g x w) (at_old order count v k (omega arith)) f) out)
            (cases_eq (k + 1) count);
      }

  pub none_listed : (order : List ℕ) → HasListedBelow g l order 0 0
  none_listed order = record {
    only = λ k lt t. absurd (omega arith);
    all = λ y lt. absurd (omega arith);
  }

  pub no_line : (order : List ℕ) → IsOrderPrefix g l order 0
  no_line order = record {
    room = omega arith;
    nodes = λ k lt. absurd (omega arith);
    apart = λ j k jk lt. absurd (omega arith);
    start = λ lt. absurd (omega arith);
    before = λ k lt. absurd (omega arith);
    behind = λ k w lt. absurd (omega arith);
  }

  pub no_last : (order : List ℕ) → IsChainComplete g l order 0
  no_last order k v e = absurd (omega arith)

  -- with a listed node of that number
  pub listed_more : (order : List ℕ) (count v : ℕ) → count < length order → IsTrue (l.is_listed v)
      → HasListedBelow g l order count v
      → HasListedBelow g l (set order count v) (count + 1) (v + 1)
  listed_more order count v room t H = record {
    only = λ k lt listed. ⊎_elim
        (λ (e : k ≡ count). let here : slice_index (set order count v) k ≡ v =
        ap (slice_index (set order count v)) e ∙ at_new order count v room in omega (arith, here))
        (λ ne. let old = at_old order count v k (omega arith) in
        let below = H.only k (omega arith) (subst (λ x. IsTrue (l.is_listed x)) old listed) in
        omega (arith, old, below))
        (cases_eq k count);
    all = λ y lt y_lt listed. ⊎_elim
        (λ (e : y ≡ v). (count, omega arith, at_new order count v room ∙ sym e))
        (λ ne. let h = H.all y (omega arith) y_lt listed in
        (h.0, omega (arith, h.1), at_old order count v h.0 h.1 ∙ h.2))
        (cases_eq y v);
  }

  -- with an unlisted node
  pub unlisted_more : (order : List ℕ) (count v n : ℕ) → count < length order
      → IsFalse (l.is_listed v) → HasListedBelow g l order count n
      → HasListedBelow g l (set order count v) (count + 1) n
  unlisted_more order count v n room out H = record {
    only = λ k lt listed. ⊎_elim
        (λ (e : k ≡ count). absurd
        (both_ways (l.is_listed v) out
        (subst (λ x. IsTrue (l.is_listed x))
        (ap (slice_index (set order count v)) e ∙ at_new order count v room) listed)))
        (λ ne. let old = at_old order count v k (omega arith) in
        subst (λ x. x < n) (sym old)
        (H.only k (omega arith) (subst (λ x. IsTrue (l.is_listed x)) old listed)))
        (cases_eq k count);
    all = λ y lt y_lt listed.
        let h = H.all y lt y_lt listed in
        (h.0, omega (arith, h.1), at_old order count v h.0 h.1 ∙ h.2);
  }

  -- past an unlisted node of that number
  pub listed_past : (order : List ℕ) (count n : ℕ) → IsFalse (l.is_listed n)
      → HasListedBelow g l order count n → HasListedBelow g l order count (n + 1)
  listed_past order count n out H = record {
    only = λ k lt listed. let below = H.only k lt listed in omega (arith, below);
    all = λ y lt y_lt listed. ⊎_elim
        (λ (e : y ≡ n).
        absurd (both_ways (l.is_listed n) out (subst (λ x. IsTrue (l.is_listed x)) e listed)))
        (λ ne. H.all y (omega arith) y_lt listed)
        (cases_eq y n);
  }

  -- a listed node whose number is past those of the listed ones
  pub fresh_listed : (order : List ℕ) (count v : ℕ) → IsTrue (l.is_listed v)
      → HasListedBelow g l order count v → IsFresh order count v
  fresh_listed order count v t H j lt e =
      let below = H.only j lt (subst (λ x. IsTrue (l.is_listed x)) (sym e) t) in
      omega (arith, below, e)

  -- an unlisted node that continues the last one
  pub fresh_unlisted : (order : List ℕ) (count v last : ℕ) → ListsLeaders g l
      → IsOrderPrefix g l order count → last + 1 ≡ count → v < g.size → IsFalse (l.is_listed v)
      → Edge g (slice_index order last) v → IsFresh order count v
  fresh_unlisted order count v last leaders L is v_lt out f zero lt e =
      both_ways (l.is_listed v) out (subst (λ x. IsTrue (l.is_listed x)) e (L.start lt))
  fresh_unlisted order count v last leaders L is v_lt out f (suc j) lt e =
      let c = (leaders v v_lt out).1 in
      let at : slice_index order (j + 1) ≡ v = ap (slice_index order) (omega arith) ∙ e in
      let edge = L.before j (omega arith) (subst (λ x. IsFalse (l.is_listed x)) (sym at) out) in
      let same : slice_index order j ≡ slice_index order last =
      c.one_edge (slice_index order j) (subst (λ x. Edge g (slice_index order j) x) at edge)
      ∙ sym (c.one_edge (slice_index order last) f) in
      L.apart j last (omega arith) (omega arith) same

  -- only this unlisted node follows
  pub one_follows : (u v w : ℕ) → ListsLeaders g l → v < g.size → IsFalse (l.is_listed v)
      → Edge g u v → Edge g u w → v ≡ w
  one_follows u v w leaders lt out e f =
      let c = (leaders v lt out).1 in
      let here : u ≡ (leaders v lt out).0 = c.one_edge u e in
      sym (c.one_successor w (subst (λ x. Edge g x w) here f))

  -- in the end all nodes are written
  reached : (order : List ℕ) (count : ℕ) → ListsLeaders g l → IsOrderPrefix g l order count
      → IsChainComplete g l order count → HasListedBelow g l order count g.size
      → (before : List ℕ) (y : ℕ) → IsWalk g (y ∷ before) → y < g.size
      → (k : ℕ) × (k < count) × (slice_index order k ≡ y)
  reached order count leaders L C H [] y walk lt =
      ⊎_elim (λ t. H.all y lt lt t) (λ out. absurd ((leaders y lt out).1.not_first walk))
      (cases_Bool (l.is_listed y))
  reached order count leaders L C H (x ∷ before) y walk lt =
      ⊎_elim
      (λ t. H.all y lt lt t)
      (λ out.
      let h = reached order count leaders L C H before x walk.1 walk.0.0 in
      let edge : Edge g (slice_index order h.0) y = subst (λ z. Edge g z y) (sym h.2) walk.0 in
      ⊎_elim
      (λ (e : h.0 + 1 ≡ count). absurd (both_ways (l.is_listed y) out (C h.0 y e edge)))
      (λ ne. (h.0 + 1, omega (arith, h.1, ne), L.behind h.0 y (omega (arith, h.1, ne)) edge out))
      (cases_eq (h.0 + 1) count))
      (cases_Bool (l.is_listed y))

  pub whole : (order : List ℕ) (count : ℕ) → IsGraph g → ListsLeaders g l → length order ≡ g.size
      → IsOrderPrefix g l order count → IsChainComplete g l order count
      → HasListedBelow g l order count g.size → IsChainOrder g l order
  whole order count G leaders size L C H =
      let every : (y : ℕ) → y < g.size → (k : ℕ) × (k < count) × (slice_index order k ≡ y) = λ y lt.
      let w = G.reached y lt in reached order count leaders L C H w.0 y w.1 lt in
      let least = all_values (slice_index order) count g.size every in
      let most = L.room in
      let same : count ≡ g.size = omega (arith, least, most, size) in
      record {
        count = size;
        nodes = λ k lt. L.nodes k (omega (arith, same, lt));
        every = λ y lt. let h = every y lt in (h.0, omega (arith, h.1, same), h.2);
        start = λ lt. L.start (omega (arith, same, lt));
        before = λ k lt out. L.before k (omega (arith, same, lt)) out;
        behind = λ k v lt e out. ⊎_elim
            (λ (last : k + 1 ≡ count). absurd (both_ways (l.is_listed v) out (C k v last e)))
            (λ ne. (omega (arith, same, lt, ne), L.behind k v (omega (arith, same, lt, ne)) e out))
            (cases_eq (k + 1) count);
      }
