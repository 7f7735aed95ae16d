-- Steps of a depth-first search.
use Rattle.std.proofs.Common.{◌≡◌, ◌≢◌, ℕ, ◌+◌, ◌<◌, ◌≤◌, ◌⊎◌, ⊎_elim, inl, inr, List, [], ◌∷◌}
use Rattle.std.proofs.Common.{◌++◌, Bool, true, false, length, get_or, set, ap, sym, ◌∙◌, subst}
use Rattle.std.proofs.Common.{arith, Option, Some, None, length-append, get_or-set_same}
use Rattle.std.proofs.Common.{get_or-set_other, suc, reverse, ◌-◌, refl, sum_by}
use Rattle.std.proofs.lemmas.Bool.{cases_eq, cases_lt}
use Rattle.std.proofs.lemmas.List.{get_or_append_left, length-set, get_or_past, get_or_default}
use Rattle.std.proofs.lemmas.List.{get_or-reverse, length-reverse}
use Rattle.std.proofs.lemmas.List.Sums.{sum_by-set}
use Rattle.std.proofs.Math.Seq.{get_or-append_seam, get_or-append_right}
use Rattle.crpd_base.proofs.Elements.{pushed_each}
use Rattle.dataflow.specs.Inner.Search.{IsChained, IsInList, IsInDepth, IsVisitOrder, root_at}
use Rattle.dataflow.specs.Inner.Search.{to_follow, past_edge}

at_front : (n m : ℕ) (xs : List ℕ) → IsInList n xs → IsInList n (xs ++ m ∷ [])
at_front n m xs h = (
  h.0,
  omega (arith, h.1, length-append xs (m ∷ [])),
  get_or_append_left xs (m ∷ []) 0 h.0 h.1 ∙ h.2,
)

at_end : (n : ℕ) (xs : List ℕ) → IsInList n (xs ++ n ∷ [])
at_end n xs = (length xs, omega (arith, length-append xs (n ∷ [])), get_or-append_seam xs n [] 0)

at_either : (n m : ℕ) (xs : List ℕ) → IsInList n (xs ++ m ∷ []) → IsInList n xs ⊎ (n ≡ m)
at_either n m xs h = ⊎_elim
    (λ (lt : h.0 < length xs). inl (h.0, lt, sym (get_or_append_left xs (m ∷ []) 0 h.0 lt) ∙ h.2))
    (λ (ge : length xs ≤ h.0).
    let last : h.0 ≡ length xs = omega (arith, h.1, length-append xs (m ∷ [])) in
    inr (sym h.2 ∙ ap (λ i. get_or (xs ++ m ∷ []) i 0) last ∙ get_or-append_seam xs m [] 0))
    (cases_lt h.0 (length xs))

all_below_more : (nodes m : ℕ) (xs : List ℕ) → ((i : ℕ) → i < length xs → get_or xs i 0 < nodes)
    → m < nodes
    → (i : ℕ) → i < length (xs ++ m ∷ []) → get_or (xs ++ m ∷ []) i 0 < nodes
all_below_more nodes m xs h lt i below =
    pushed_each (λ j x. x < nodes) xs (xs ++ m ∷ []) m 0 (length xs) refl refl h lt i
    (omega (arith, below, length-append xs (m ∷ [])))

module _ (nodes edges : ℕ) where
  pub find : (seen : List Bool) (next : List (Option ℕ)) (path left : List ℕ) (n : ℕ) → n < nodes
      → IsInDepth nodes edges seen next path left
      → IsInDepth nodes edges (set seen n true) next (path ++ n ∷ []) left
  find seen next path left n lt h = record {
    seen_nodes = length-set seen n true ∙ h.seen_nodes;
    next_nodes = h.next_nodes;
    next_edges = h.next_edges;
    on_path = all_below_more nodes n path h.on_path lt;
    own = h.own;
    found = λ m was. ⊎_elim
        (λ (e : m ≡ n). inl (subst (λ i. IsInList i (path ++ n ∷ [])) (sym e) (at_end n path)))
        (λ (ne : m ≢ n). ⊎_elim
        (λ (on : IsInList m path). inl (at_front m n path on))
        (λ (out : IsInList m left). inr out)
        (h.found m (sym (get_or-set_other seen n m true false ne) ∙ was)))
        (cases_eq m n);
  }

  pub follow : (seen : List Bool) (next : List (Option ℕ)) (path left : List ℕ) (n : ℕ)
      (o : Option ℕ) → n < nodes
      → ((k : ℕ) → o ≡ Some k → k < edges)
      → IsInDepth nodes edges seen next path left
      → IsInDepth nodes edges seen (set next n o) path left
  follow seen next path left n o lt fits h = record {
    seen_nodes = h.seen_nodes;
    next_nodes = length-set next n o ∙ h.next_nodes;
    next_edges = λ m k e. ⊎_elim
        (λ (is : m ≡ n).
        let within : n < length next = omega (arith, h.next_nodes) in
        fits k (sym (get_or-set_same next n o None within)
        ∙ ap (λ i. get_or (set next n o) i None) (sym is) ∙ e))
        (λ (ne : m ≢ n). h.next_edges m k (sym (get_or-set_other next n m o None ne) ∙ e))
        (cases_eq m n);
    on_path = h.on_path;
    own = h.own;
    found = h.found;
  }

  pub leave : (seen : List Bool) (next : List (Option ℕ)) (path left : List ℕ) (n : ℕ) → n < nodes
      → IsInDepth nodes edges seen next (path ++ n ∷ []) left
      → IsInDepth nodes edges seen next path (left ++ n ∷ [])
  leave seen next path left n lt h = record {
    seen_nodes = h.seen_nodes;
    next_nodes = h.next_nodes;
    next_edges = h.next_edges;
    on_path = λ i below.
        subst (λ x. x < nodes) (get_or_append_left path (n ∷ []) 0 i below)
        (h.on_path i (omega (arith, length-append path (n ∷ []))));
    own = all_below_more nodes n left h.own lt;
    found = λ m was. ⊎_elim
        (λ (on : IsInList m (path ++ n ∷ [])). ⊎_elim
        (λ (still : IsInList m path). inl still)
        (λ (e : m ≡ n). inr (subst (λ i. IsInList i (left ++ n ∷ [])) (sym e) (at_end n left)))
        (at_either m n path on))
        (λ (out : IsInList m left). inr (at_front m n left out))
        (h.found m was);
  }

  pub all_left : (seen : List Bool) (next : List (Option ℕ)) (path left : List ℕ) → length path ≡ 0
      → ((n : ℕ) → n < nodes → get_or seen n false ≡ true)
      → IsInDepth nodes edges seen next path left → IsVisitOrder nodes left
  all_left seen next path left none all h = record {
    own = h.own;
    each = λ n lt. ⊎_elim
        (λ (on : IsInList n path). let below = on.1 in absurd (omega arith))
        (λ (out : IsInList n left). out)
        (h.found n (all n lt));
  }

-- an edge is followed
pub follows : (next : List (Option ℕ)) (n k : ℕ) (o : Option ℕ) → n < length next
    → get_or next n None ≡ Some k → past_edge o < suc k
    → sum_by past_edge (set next n o) < sum_by past_edge next
follows next n k o lt was falls =
    let a = sum_by-set past_edge next n o None lt in
    let b : past_edge (get_or next n None) ≡ suc k = ap past_edge was in
    omega arith

-- the next edge of a node
pub its_edge : (nodes edges : ℕ) (seen : List Bool) (next : List (Option ℕ)) (path left : List ℕ)
    (n k : ℕ) (r : Option ℕ)
    → IsInDepth nodes edges seen next path left → n < nodes → r ≡ get_or next n r → r ≡ Some k
    → (k < edges) × (get_or next n None ≡ Some k)
its_edge nodes edges seen next path left n k r h lt read is =
    let e : get_or next n None ≡ Some k =
    get_or_default next n None r (omega (arith, h.next_nodes)) ∙ sym read ∙ is in
    (h.next_edges n k e, e)

pub same_search : (nodes edges : ℕ) (seen seen2 : List Bool) (next next2 : List (Option ℕ))
    (path path2 left left2 : List ℕ)
    → seen2 ≡ seen → next2 ≡ next → path2 ≡ path → left2 ≡ left
    → IsInDepth nodes edges seen next path left → IsInDepth nodes edges seen2 next2 path2 left2
same_search nodes edges seen seen2 next next2 path path2 left left2 a b c d h =
    subst (λ s. IsInDepth nodes edges s next2 path2 left2) (sym a)
    (subst (λ n. IsInDepth nodes edges seen n path2 left2) (sym b)
    (subst (λ p. IsInDepth nodes edges seen next p left2) (sym c)
    (subst (λ l. IsInDepth nodes edges seen next path l) (sym d) h)))

pub falls_once : (next next2 : List (Option ℕ)) (path path2 : List ℕ) (n k : ℕ) (o : Option ℕ)
    → n < length next → get_or next n None ≡ Some k → past_edge o < suc k
    → next2 ≡ set next n o → path2 ≡ path ++ n ∷ [] → to_follow next2 path2 ≤ to_follow next path
falls_once next next2 path path2 n k o lt was low e f =
    let a = follows next n k o lt was low in
    let b : sum_by past_edge next2 ≡ sum_by past_edge (set next n o) = ap (sum_by past_edge) e in
    let d : length path2 ≡ length path + 1 = ap length f ∙ length-append path (n ∷ []) in
    omega arith

pub falls_twice : (next next2 : List (Option ℕ)) (path path1 path2 : List ℕ) (n t k : ℕ)
    (o : Option ℕ) → n < length next → get_or next n None ≡ Some k → past_edge o < suc k
    → next2 ≡ set next n o → path1 ≡ path ++ n ∷ [] → path2 ≡ path1 ++ t ∷ []
    → to_follow next2 path2 ≤ to_follow next path
falls_twice next next2 path path1 path2 n t k o lt was low e f h =
    let a = follows next n k o lt was low in
    let b : sum_by past_edge next2 ≡ sum_by past_edge (set next n o) = ap (sum_by past_edge) e in
    let d : length path1 ≡ length path + 1 = ap length f ∙ length-append path (n ∷ []) in
    let d2 : length path2 ≡ length path1 + 1 = ap length h ∙ length-append path1 (t ∷ []) in
    omega arith

pub none_found : (nodes edges : ℕ) (ends : ℕ → ℕ × ℕ) (last before next : List (Option ℕ))
    (seen : List Bool) (path left : List ℕ)
    → IsChained nodes edges ends last before → next ≡ last → length seen ≡ length last
    → ((n : ℕ) → get_or seen n false ≡ false) → path ≡ [] → left ≡ []
    → IsInDepth nodes edges seen next path left
none_found nodes edges ends last before next seen path left h e len none p l = record {
  seen_nodes = len ∙ h.all_nodes;
  next_nodes = ap length e ∙ h.all_nodes;
  next_edges = λ m k is.
      let was : get_or last m None ≡ Some k = ap (λ xs. get_or xs m None) (sym e) ∙ is in
      ⊎_elim
      (λ (lt : m < nodes). ((h.of_node m lt).edge k was).0)
      (λ (ge : nodes ≤ m). let past_end = get_or_past last m None (omega (arith, h.all_nodes)) in
      let absent : ⊥ = cc in absurd absent)
      (cases_lt m nodes);
  on_path = λ i lt. let empty : length path ≡ 0 = ap length p in absurd (omega arith);
  own = λ i lt. let empty : length left ≡ 0 = ap length l in absurd (omega arith);
  found = λ n was. let not_yet = none n in let absent : ⊥ = cc in absurd absent;
}

pub backwards : (nodes : ℕ) (xs : List ℕ) → IsVisitOrder nodes xs → IsVisitOrder nodes (reverse xs)
backwards nodes xs h = record {
  own = λ i lt.
      let within : i < length xs = omega (arith, length-reverse xs) in
      subst (λ x. x < nodes) (sym (get_or-reverse xs i 0 within))
      (h.own (length xs - 1 - i) (omega arith));
  each = λ n lt.
      let at_n = h.each n lt in
      let j : ℕ = length xs - 1 - at_n.0 in
      let within : length xs - 1 - at_n.0 < length xs = let b = at_n.1 in omega arith in
      let back : length xs - 1 - (length xs - 1 - at_n.0) ≡ at_n.0 = let b = at_n.1 in
      omega arith in (
        length xs - 1 - at_n.0,
        omega (arith, length-reverse xs, within),
        get_or-reverse xs (length xs - 1 - at_n.0) 0 within ∙ ap (λ i. get_or xs i 0) back ∙ at_n.2,
      );
}

-- two orders in sequence
pub both_orders : (nodes : ℕ) (xs ys : List ℕ) → IsVisitOrder nodes xs → IsVisitOrder nodes ys
    → IsVisitOrder nodes (xs ++ ys)
both_orders nodes xs ys h k = record {
  own = λ i lt. ⊎_elim
      (λ (front : i < length xs).
      subst (λ x. x < nodes) (sym (get_or_append_left xs ys 0 i front)) (h.own i front))
      (λ (ge : length xs ≤ i).
      subst (λ x. x < nodes) (sym (get_or-append_right xs ys i 0 ge))
      (k.own (i - length xs) (omega (arith, lt, ge, length-append xs ys))))
      (cases_lt i (length xs));
  each = λ n lt.
      let at_n = h.each n lt in (
        at_n.0,
        omega (arith, at_n.1, length-append xs ys),
        get_or_append_left xs ys 0 at_n.0 at_n.1 ∙ at_n.2,
      );
}

-- each node is a root
pub each_root : (P : ℕ → Type 0) (from_last : Bool) (nodes : ℕ)
    → ((k : ℕ) → k < nodes → P (root_at from_last nodes k)) → (n : ℕ) → n < nodes → P n
each_root P false nodes h n lt = h n lt
each_root P true nodes h n lt =
    let back : nodes - 1 - (nodes - 1 - n) ≡ n = omega arith in
    let within : nodes - 1 - n < nodes = omega arith in
    subst P back (h (nodes - 1 - n) within)

-- a node found is one of the roots
pub root_within : (from_last : Bool) (nodes same k root : ℕ) → root ≡ root_at from_last same k
    → same ≡ nodes → k < nodes → root < nodes
root_within true nodes same k root e s lt = omega arith
root_within false nodes same k root e s lt = omega arith
