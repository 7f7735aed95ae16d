-- The exploration, step by step; and there is a word at each call under way at a node.
use Rattle.std.proofs.Common.{◌≡◌, ◌≢◌, ℕ, ◌+◌, ◌<◌, ◌≤◌, List, [], ◌∷◌, ◌++◌, reverse, length}
use Rattle.std.proofs.Common.{Option}
use Rattle.std.proofs.Common.{Some, None, Contains, slice_get, refl, sym, ap, ◌∙◌, subst, ⊎_elim}
use Rattle.std.proofs.Common.{arith, All, Bool, true, false, ◌==◌, if◌then◌else◌, map}
use Rattle.std.specs.Prelude.{option_map}
use Rattle.std.proofs.lemmas.Bool.{cases_lt}
use Rattle.std.proofs.lemmas.List.{get_or_append_left, length-append, reverse-reverse}
use Rattle.std.proofs.lemmas.List.{reverse-append}
use Rattle.std.proofs.lemmas.List.Elements.{Contains-append_left, Contains-append_cases, All-nil}
use Rattle.std.proofs.lemmas.List.Elements.{All-push}
use Rattle.std.proofs.lemmas.Option.{slice_get_within, slice_get-map, same_Some}
use Rattle.crpd_base.proofs.Elements.{head_or_rest, in_none, in_one, contains_at, at_contains}
use Rattle.crpd_base.proofs.Elements.{slice_get_left, at_more, count_more}
use Rattle.rv_decode.specs.Address.{end_address}
use Rattle.rv_decode.specs.Flow.{Flow, Plain, Branch, Jump, Call, Return, Exit, Break, OtherJalr}
use Rattle.rv_decode.specs.Flow.{OtherJal, Flows, Words, IsCodeMap, flows, flow_of_word}
use Rattle.flat_graph.specs.FlatGraph.{FlatNode, NodeError, IsNode, the_first, a_successor}
use Rattle.flat_graph.specs.FlatGraph.{successors, returns_to, goes_to, successors_by, error_of}
use Rattle.flat_graph.specs.Inner.GraphParts.{AreNumbers}
use Rattle.flat_graph.specs.Inner.Reach.{AreNumbered, HaveLists, AreAdded, IsExplored}
use Rattle.flat_graph.specs.Inner.Reach.{IsFoundBody, AreFoundBodies, AreFollowed, nodes_found}
use Rattle.flat_graph.specs.Inner.StoredGraph.{next_nodes}
use Rattle.flat_graph.specs.declared.graph.NodeBody.{NodeBody}
use Rattle.flat_graph.specs.Inner.Points.{IsBelowEnd, point_node, point_nodes}
use Rattle.flat_graph.specs.declared.reach.Found.{Found}
use Rattle.flat_graph.specs.declared.points.ProgramPoint.{ProgramPoint}

-- the node of the point at a place
pub node_of_point : (lists : List (List ℕ)) (points : List ProgramPoint) (k : ℕ) (s : ProgramPoint)
    → slice_get points k ≡ Some s → slice_get (point_nodes lists points) k ≡ Some
    (point_node lists s)
node_of_point lists points k s e =
    slice_get-map (point_node lists) points k ∙ ap (option_map (point_node lists)) e

pub explored_first : (code : Flows) (entry : ℕ) (nodes : List FlatNode)
    → AreAdded [] (record { context = []; address = entry } ∷ []) nodes
    → IsExplored code entry 0 nodes
explored_first code entry nodes A = record {
  all = λ n c.
      subst (IsNode code entry) (in_one n _ (A.among n (subst (λ l. Contains l n) A.behind c)))
      the_first;
  first = by nodes A.behind;
  closed = λ k n m lt. absurd (omega arith);
}
  where
    by : (l : List FlatNode) → l ≡ A.more
        → slice_get l 0 ≡ Some (record { context = []; address = entry })
    by [] e =
        absurd (in_none (record { context = []; address = entry })
        (subst (λ l. Contains l (record { context = []; address = entry })) (A.behind ∙ sym e)
        (A.has (record { context = []; address = entry }) (0, omega arith, refl))))
    by (x ∷ l) e =
        ap Some (sym (in_one x _ (A.among x (subst (λ m. Contains m x) e (0, omega arith, refl)))))

pub explored_more : (code : Flows) (entry place : ℕ) (old new : List FlatNode) (n : FlatNode)
    → IsExplored code entry place old →
    slice_get old place ≡ Some n → AreAdded old (successors code entry n) new
    → IsExplored code entry (place + 1) new
explored_more code entry place old new n E at A = record {
  all = λ m c.
      ⊎_elim
      (λ o. E.all m o)
      (λ b. a_successor n m (E.all n (at_contains old place n at)) (A.among m b))
      (Contains-append_cases old A.more m (subst (λ l. Contains l m) A.behind c));
  first =
      ap (λ l. slice_get l 0) A.behind
      ∙ slice_get_left old A.more 0 (slice_get_within old 0 _ E.first) ∙ E.first;
  closed = λ k x m lt e c.
      ⊎_elim
      (λ before.
      stays m (E.closed k x m before (old_at k x (omega (arith, slice_get_within old place n at)) e)
      c))
      (λ here.
      A.has m (subst (λ y. Contains (successors code entry y) m) (same k x (omega arith) e) c))
      (cases_lt k place);
}
  where
    stays : (m : FlatNode) → Contains old m → Contains new m
    stays m c = subst (λ l. Contains l m) (sym A.behind) (Contains-append_left old A.more m c)

    old_at : (k : ℕ) (x : FlatNode) → k < length old → slice_get new k ≡ Some x
        → slice_get old k ≡ Some x
    old_at k x lt e =
        sym (slice_get_left old A.more k lt) ∙ ap (λ l. slice_get l k) (sym A.behind) ∙ e

    same : (k : ℕ) (x : FlatNode) → k ≡ place → slice_get new k ≡ Some x → x ≡ n
    same k x here e =
        let o = old_at k x (omega (arith, slice_get_within old place n at)) e in
        let p = subst (λ j. slice_get old j ≡ Some x) here o in
        cc (p, at)

-- numbers stand for the same nodes if nodes are appended
numbers_kept : (old more : List FlatNode) (numbers : List ℕ) (some : List FlatNode)
    → AreNumbers old numbers some → AreNumbers (old ++ more) numbers some
numbers_kept old more [] [] e = refl
numbers_kept old more [] (m ∷ ms) e = cc
numbers_kept old more (v ∷ vs) [] e = cc
numbers_kept old more (v ∷ vs) (m ∷ ms) e =
    let head : slice_get old v ≡ Some m = cc in
    let rest : map (slice_get old) vs ≡ map Some ms = cc in
    let first = slice_get_left old more v (slice_get_within old v m head) ∙ head in
    let others = numbers_kept old more vs ms rest in
    λ i. first i ∷ others i

-- a body is that of a node if nodes are appended
body_kept : (words : Words) (entry : ℕ) (old more : List FlatNode) (n : FlatNode)
    (b : Option NodeBody) → IsFoundBody words entry old n b
    → IsFoundBody words entry (old ++ more) n b
body_kept words entry old more n None h = h
body_kept words entry old more n (Some body) h = record {
  no_error = h.no_error;
  stands = h.stands;
  next = numbers_kept old more (next_nodes body.next) (successors (flows words) entry n) h.next;
}

bodies_more : (words : Words) (entry : ℕ) (old more : List FlatNode)
    (bodies : List (Option NodeBody)) (n : FlatNode) (b : Option NodeBody)
    → AreFoundBodies words entry old bodies → slice_get old (length bodies) ≡ Some n
    → IsFoundBody words entry (old ++ more) n b
    → AreFoundBodies words entry (old ++ more) (bodies ++ b ∷ [])
bodies_more words entry old more bodies n b D at I k m x e f =
    ⊎_elim
    (λ before.
    body_kept words entry old more m x
    (D k m x
    (there k m (omega (arith, slice_get_within bodies k x before, slice_get_within old _ n at)) e)
    before))
    (λ here.
    let known : slice_get old k ≡ Some n = ap (slice_get old) here.0 ∙ at in
    let same = same_Some n m
    (sym known ∙ there k m (slice_get_within old k n known) e) in
    subst (λ y. IsFoundBody words entry (old ++ more) y x) same
    (subst (IsFoundBody words entry (old ++ more) n) here.1 I))
    (at_more bodies b k x f)
  where
    there : (k : ℕ) (m : FlatNode) → k < length old → slice_get (old ++ more) k ≡ Some m
        → slice_get old k ≡ Some m
    there k m lt e = sym (slice_get_left old more k lt) ∙ e

-- nothing that was followed has a body
pub no_bodies : (words : Words) (entry : ℕ) (nodes : List FlatNode)
    (bodies : List (Option NodeBody)) → bodies ≡ [] → AreFoundBodies words entry nodes bodies
no_bodies words entry nodes bodies none k n b e f =
    let within = slice_get_within bodies k b f in absurd (omega (arith, ap length none, within))

-- a node with an error leads nowhere
pub no_steps : (code : Flows) (entry : ℕ) (n : FlatNode) → error_of code entry n ≢ None
    → successors code entry n ≡ []
no_steps code entry n h = by (error_of code entry n) (code n.address) h
  where
    by : (o : Option NodeError) (f : Option (Option Flow)) → o ≢ None
        → successors_by o n.context n.address f ≡ []
    by None f h = absurd (h refl)
    by (Some x) None h = refl
    by (Some x) (Some None) h = refl
    by (Some x) (Some (Some f)) h = refl

-- the state after one more point was followed
pub followed_more : (words : Words) (entry place : ℕ) (old new : Found) (n : FlatNode)
    (b : Option NodeBody) → AreFollowed words entry place old
    → slice_get (nodes_found old) place ≡ Some n
    → AreNumbered new.contexts.numbers new.contexts.lists.items
    → HaveLists new.contexts.lists.items new.points.keys
    → AreAdded (nodes_found old) (successors (flows words) entry n) (nodes_found new)
    → length new.contexts.lists.items ≤ length old.contexts.lists.items + 1
    → new.bodies.items ≡ old.bodies.items ++ b ∷ []
    → IsFoundBody words entry (nodes_found new) n b → AreFollowed words entry (place + 1) new
followed_more words entry place old new n b F at numbered inside added lists is body = record {
  numbered = numbered;
  inside = inside;
  explored =
      explored_more (flows words) entry place (nodes_found old) (nodes_found new) n F.explored at
      added;
  lists = omega (arith, lists, F.lists);
  bodies =
      subst (AreFoundBodies words entry (nodes_found new)) (sym is)
      (subst (λ l. AreFoundBodies words entry l (old.bodies.items ++ b ∷ [])) (sym added.behind)
      (bodies_more words entry (nodes_found old) added.more old.bodies.items n b F.bodies
      (ap (slice_get (nodes_found old)) F.count ∙ at)
      (subst (λ l. IsFoundBody words entry l n b) added.behind body)));
  count = count_more old.bodies.items new.bodies.items b place is F.count;
}

-- nodes that include all their successors are all nodes
pub explored_all : (code : Flows) (entry place : ℕ) (nodes : List FlatNode)
    → IsExplored code entry place nodes → length nodes ≤ place →
    (n : FlatNode) → IsNode code entry n → Contains nodes n
explored_all code entry place nodes E le n (the_first) = at_contains nodes 0 n E.first
explored_all code entry place nodes E le m (a_successor n m' h c) =
    let k = contains_at nodes n (explored_all code entry place nodes E le n h) in
    E.closed k.0 n m (omega (arith, slice_get_within nodes k.0 n k.1)) k.1 c

All-left : {X : Type 0} (P : X → Type 0) (xs ys : List X) → All P (xs ++ ys) → All P xs
All-left P xs ys h k d lt =
    subst P (get_or_append_left xs ys d k lt) (h k d (simp length-append (omega arith)))

-- there is a word at each call under way
module _ (words : Words) (W : IsCodeMap words) (entry : ℕ) where
  below : (o : Option ℕ) (a : ℕ) (f : Flow) → words a ≡ o → flow_of_word a o ≡ Some (Some f)
      → a + 4 ≤ end_address
  below None a f e h = cc
  below (Some w) a f e h = W a w e

  after_return : (d : List ℕ) (c : List ℕ) → reverse c ≡ d → IsBelowEnd c → (m : FlatNode)
      → Contains (returns_to d) m → IsBelowEnd m.context
  after_return [] c e h m k = absurd (in_none m k)
  after_return (b ∷ d) c e h m k =
      let split = sym (reverse-reverse c) ∙ ap reverse e ∙ reverse-append (b ∷ []) d in
      subst (λ n. IsBelowEnd n.context) (in_one m _ k)
      (All-left (λ a. a + 4 ≤ end_address) (reverse d) (b ∷ []) (subst IsBelowEnd split h))

  one_other : (b : Bool) (x m : FlatNode) → Contains (if b then [] else x ∷ []) m → x ≡ m
  one_other true x m k = absurd (in_none m k)
  one_other false x m k = in_one m x k

  by_flow : (c : List ℕ) (a : ℕ) (f : Flow) → IsBelowEnd c → a + 4 ≤ end_address → (m : FlatNode)
      → Contains (goes_to c a f) m → IsBelowEnd m.context
  by_flow c a Plain h le m k = subst (λ n. IsBelowEnd n.context) (in_one m _ k) h
  by_flow c a (Branch t) h le m k =
      ⊎_elim
      (λ e. subst (λ n. IsBelowEnd n.context) e h)
      (λ r. subst (λ n. IsBelowEnd n.context)
      (one_other (t == a + 4) (record { context = c; address = t }) m r) h)
      (head_or_rest _ m _ k)
  by_flow c a (Jump t) h le m k = subst (λ n. IsBelowEnd n.context) (in_one m _ k) h
  by_flow c a (Call t) h le m k =
      subst (λ n. IsBelowEnd n.context) (in_one m _ k)
      (All-push (λ b. b + 4 ≤ end_address) c a h le)
  by_flow c a Return h le m k = after_return (reverse c) c refl h m k
  by_flow c a Exit h le m k = absurd (in_none m k)
  by_flow c a Break h le m k = absurd (in_none m k)
  by_flow c a OtherJalr h le m k = absurd (in_none m k)
  by_flow c a OtherJal h le m k = absurd (in_none m k)

  by_error : (e : Option NodeError) (c : List ℕ) (a : ℕ) (f : Option (Option Flow)) → IsBelowEnd c
      → ((g : Flow) → f ≡ Some (Some g) → a + 4 ≤ end_address) →
      (m : FlatNode) → Contains (successors_by e c a f) m → IsBelowEnd m.context
  by_error None c a (Some (Some g)) h le m k = by_flow c a g h (le g refl) m k
  by_error None c a (Some None) h le m k = absurd (in_none m k)
  by_error None c a None h le m k = absurd (in_none m k)
  by_error (Some x) c a (Some (Some g)) h le m k = absurd (in_none m k)
  by_error (Some x) c a (Some None) h le m k = absurd (in_none m k)
  by_error (Some x) c a None h le m k = absurd (in_none m k)

  pub below_end : (n : FlatNode) → IsNode (flows words) entry n → IsBelowEnd n.context
  below_end n (the_first) = All-nil (λ b. b + 4 ≤ end_address)
  below_end m (a_successor n m' h c) =
      by_error (error_of (flows words) entry n) n.context n.address (flows words n.address)
      (below_end n h)
      (λ g e. below (words n.address) n.address g refl e) m c
