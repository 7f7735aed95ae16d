-- Every entry into any code has a graph, or an error.
use Rattle.std.proofs.Common.{◌≡◌, ◌≢◌, ◌⊎◌, ℕ, zero, suc, ◌<◌, ◌≤◌, List, [], ◌∷◌, length, map}
use Rattle.std.proofs.Common.{get_or, slice_get, Option, Some, None, refl, sym, ap, ◌∙◌, subst, inl}
use Rattle.std.proofs.Common.{inr, ⊎_elim, arith, All, AllPairs, Contains, Ok, Err, ◌%◌, ◌==◌}
use Rattle.std.specs.declared.cmp.Ordering.{Ordering}
use Rattle.std.specs.declared.cmp.Ordering.TheVariants.{Less, Equal, Greater}
use Rattle.std.specs.Ordering.{ordering_reverse}
use Rattle.std.proofs.lemmas.Bool.{cases_lt}
use Rattle.std.proofs.lemmas.List.Elements.{Contains-get_or}
use Rattle.std.proofs.lemmas.Option.{slice_get_within, same_Some}
use Rattle.crpd_base.proofs.Elements.{at_contains, at_head, at_rest, contains_at, head_or_rest}
use Rattle.crpd_base.proofs.Elements.{in_none, pairs_head, pairs_tail, some_at}
use Rattle.crpd_base.proofs.Options.{none_or_some, not_none}
use Rattle.crpd_base.specs.Limits.{most_nodes}
use Rattle.rv_decode.specs.declared.Ins.{Ins}
use Rattle.rv_decode.specs.Flow.{Flows, Words, flow_of_row, flow_of_word, flows}
use Rattle.rv_decode.specs.Table.{ins_of_word}
use Rattle.flat_graph.specs.CodeGraph.{CodeGraph, GraphNode, IsCodeGraph, no_node, node_of}
use Rattle.flat_graph.specs.FlatGraph.{FlatNode, HasMoreNodes, HasNoErrors, IsGraphRefused, IsNode}
use Rattle.flat_graph.specs.FlatGraph.{IsNumberedBefore, IsNumbering, NodeError, a_successor}
use Rattle.flat_graph.specs.FlatGraph.{error_of, ins_error, successors, the_first}
use Rattle.flat_graph.specs.FlatGraph as flat
use Rattle.flat_graph.specs.GraphErrors.{IsGraphError}
use Rattle.flat_graph.specs.Inner.GraphErrors.{graph_error}
use Rattle.flat_graph.specs.declared.error.GraphError.{GraphError}
use Rattle.flat_graph.specs.declared.error.GraphError.TheVariants as graph
use Rattle.flat_graph.proofs.Numbers.{refused_at, refused_by}
use Rattle.flat_graph.proofs.Order.{flat_below, flat_equal, flat_less, flat_total}
use Rattle.flat_graph.proofs.SameCode.{aligned, some_word}
use Rattle.flat_graph.specs.Inner.NumberingOrder.{flat_cmp}
use Rattle.flat_graph.specs.GraphEnds.{AGraphExists}
use Rattle.crpd_base.proofs.Classical.{IsLeastBelow, NotNot, a_list, AreValues, decided}
use Rattle.crpd_base.proofs.Classical.{first_below, IsGreatestTo, greatest_to, mapped, unrefuted}
use Rattle.crpd_base.proofs.Classical.{value_at}

-- ---- lists in the order of numbering

all_contained : {X : Type 0} (P : X → Type 0) (xs : List X) → ((x : X) → Contains xs x → P x)
    → All P xs
all_contained P xs f k d lt = f (get_or xs k d) (Contains-get_or xs k d lt)

contained_all : {X : Type 0} (P : X → Type 0) (xs : List X) → All P xs → (x : X) → Contains xs x
    → P x
contained_all P xs all x (k, lt, e) = subst P e (all k x lt)

pairs_with : {X : Type 0} (R : X → X → Type 0) (x : X) (xs : List X) → All (R x) xs
    → AllPairs R xs → AllPairs R (x ∷ xs)
pairs_with R x xs all pairs zero zero d lt le = absurd (omega arith)
pairs_with R x xs all pairs zero (suc j) d lt le = all j d (omega arith)
pairs_with R x xs all pairs (suc i) zero d lt le = absurd (omega arith)
pairs_with R x xs all pairs (suc i) (suc j) d lt le = pairs i j d (omega arith) (omega arith)

before_through : (n m x : FlatNode) → IsNumberedBefore n m → IsNumberedBefore m x
    → IsNumberedBefore n x
before_through n m x a b =
    flat_less n x (flat_total.trans n m x (flat_below n m a) (flat_below m x b))

-- a list with a node more, in order
record HasOneMore (m : FlatNode) (xs ys : List FlatNode) : Type 0 where
  ordered : AllPairs IsNumberedBefore ys
  count : length ys ≡ suc (length xs)
  only : (x : FlatNode) → Contains ys x → (x ≡ m) ⊎ Contains xs x

abbrev IsIn : FlatNode → List FlatNode → Type 0
IsIn m xs = Contains xs m ⊎ ((ys : List FlatNode) × HasOneMore m xs ys)

greater : (m x : FlatNode) → flat_cmp m x ≡ Greater → IsNumberedBefore x m
greater m x e =
    flat_less x m (flat_total.antisymm x m ∙ ap ordering_reverse e)

module _ (m : FlatNode) where
  put : (xs : List FlatNode) → AllPairs IsNumberedBefore xs → IsIn m xs
  put [] pairs = inr (
    m ∷ [],
    record {
      ordered = pairs_with IsNumberedBefore m [] (λ k d lt. absurd (omega arith)) pairs;
      count = refl;
      only = λ x c. elim (head_or_rest [] x m c) [
        | inl e ↦ inl (sym e)
        | inr none ↦ absurd (in_none x none)
      ];
    },
  )
  put (x ∷ xs) pairs =
      by (flat_cmp m x) refl (put xs (pairs_tail IsNumberedBefore x xs pairs))
    where
      first : All (IsNumberedBefore x) xs
      first = pairs_head IsNumberedBefore x xs pairs

      by : (o : Ordering) → flat_cmp m x ≡ o → IsIn m xs → IsIn m (x ∷ xs)
      by Less e later =
          let lt = flat_less m x e in
          inr (
            m ∷ x ∷ xs,
            record {
              ordered = pairs_with IsNumberedBefore m (x ∷ xs)
                  (all_contained (IsNumberedBefore m) (x ∷ xs)
                  (λ z c. elim (head_or_rest xs z x c) [
                    | inl same ↦ subst (IsNumberedBefore m) same lt
                    | inr in_rest ↦ before_through m x z lt
                        (contained_all (IsNumberedBefore x) xs first z in_rest)
                  ]))
                  pairs;
              count = refl;
              only = λ z c. elim (head_or_rest (x ∷ xs) z m c) [
                | inl same ↦ inl (sym same)
                | inr in_rest ↦ inr in_rest
              ];
            },
          )
      by Equal e later = inl (at_head xs m x (sym (flat_equal m x e)))
      by Greater e (inl there) = inl (at_rest xs m x there)
      by Greater e (inr (ys, more)) =
          inr (
            x ∷ ys,
            record {
              ordered = pairs_with IsNumberedBefore x ys
                  (all_contained (IsNumberedBefore x) ys
                  (λ z c. elim (more.only z c) [
                    | inl same ↦ subst (IsNumberedBefore x) (sym same) (greater m x e)
                    | inr in_rest ↦ contained_all (IsNumberedBefore x) xs first z in_rest
                  ]))
                  more.ordered;
              count = ap suc more.count;
              only = λ z c. elim (head_or_rest ys z x c) [
                | inl same ↦ inr (at_head xs z x same)
                | inr in_rest ↦ elim (more.only z in_rest) [
                  | inl is ↦ inl is
                  | inr there ↦ inr (at_rest xs z x there)
                ]
              ];
            },
          )

-- ---- the nodes that are reached, if they are not too many

-- nodes in order, that many
record AreSome (code : Flows) (entry n : ℕ) (xs : List FlatNode) : Type 0 where
  ordered : AllPairs IsNumberedBefore xs
  nodes : All (IsNode code entry) xs
  count : length xs ≡ n

module _ (code : Flows) (entry limit : ℕ) (few : HasMoreNodes code entry limit → ⊥) where
  abbrev HasSome : ℕ → Type 0
  HasSome n = (xs : List FlatNode) × AreSome code entry n xs

  no_more : (n : ℕ) → limit < n → HasSome n → ⊥
  no_more n lt (xs, are) =
      few (xs, are.ordered, are.nodes, subst (λ k. limit < k) (sym are.count) lt)

  none : HasSome 0
  none = (
    [],
    record {
      ordered = λ i j d lt le. absurd (omega arith);
      nodes = λ k d lt. absurd (omega arith);
      count = refl;
    },
  )

  -- as many as there are are all
  all_of : (n : ℕ) → HasSome n → (HasSome (suc n) → ⊥)
      → (xs : List FlatNode) × IsNumbering code entry xs × (length xs ≡ n)
  all_of n (xs, are) no_next = (
    xs,
    record {
      ordered = are.ordered;
      all = λ m. (
        (λ is. elim (put m xs are.ordered) [
          | inl there ↦ there
          | inr (ys, more) ↦ absurd (no_next (
            ys,
            record {
              ordered = more.ordered;
              nodes = all_contained (IsNode code entry) ys
                  (λ z c. elim (more.only z c) [
                    | inl same ↦ subst (IsNode code entry) (sym same) is
                    | inr there ↦ contained_all (IsNode code entry) xs are.nodes z there
                  ]);
              count = more.count ∙ ap suc are.count;
            },
          ))
        ]),
        (λ there. contained_all (IsNode code entry) xs are.nodes m there),
      );
    },
    are.count,
  )

  a_numbering : NotNot ((xs : List FlatNode) × IsNumbering code entry xs × (length xs ≤ limit))
  a_numbering =
      mapped
      (λ (g : (k : ℕ) × IsGreatestTo HasSome limit k). let r = all_of g.0 g.1.holds
      (λ next. elim (cases_lt limit (suc g.0)) [
        | inl past ↦ no_more (suc g.0) past next
        | inr within ↦ g.1.greatest (suc g.0) (omega arith) within next
      ])
      in (r.0, r.1, omega (arith, r.2, g.1.within)))
      (greatest_to HasSome limit none)

-- ---- the graph of numbered nodes

-- the places of some of the items of a list
places_in : {X : Type 0} (xs some : List X) → All (Contains xs) some
    → (is : List ℕ) × (map (slice_get xs) is ≡ map Some some)
places_in xs [] all = ([], refl)
places_in xs (m ∷ some) all =
    let k = contains_at xs m (all 0 m (omega arith)) in
    let rest = places_in xs some (λ j d lt. all (suc j) d (omega arith)) in
    (k.0 ∷ rest.0, λ i. k.1 i ∷ rest.1 i)

module _ (words : Words) (entry : ℕ) where
  -- the instruction at a node without an error
  an_instruction : (n : FlatNode) → error_of (flows words) entry n ≡ None
      → (ins : Ins) × ((w : ℕ) → words n.address ≡ Some w → ins_of_word w ≡ Some ins)
  an_instruction n clean =
      let w = some_word words entry n clean in by w.0 w.1 (ins_of_word w.0) refl
    where
      by : (w : ℕ) → words n.address ≡ Some w → (o : Option Ins) → ins_of_word w ≡ o
          → (ins : Ins) × ((v : ℕ) → words n.address ≡ Some v → ins_of_word v ≡ Some ins)
      by w at (Some ins) is =
          (ins, λ v there. ap ins_of_word (same_Some v w (sym there ∙ at)) ∙ is)
      by w at None is =
          let here : flows words n.address ≡ Some None =
          ap (flow_of_word n.address) at ∙ ap (λ r. Some (flow_of_row n.address r)) is in
          absurd
          (not_none (ins_error (flows words) entry n.context (flows words n.address))
          flat.Undecodable
          (aligned (n.address % 4 == 0)
          (ins_error (flows words) entry n.context (flows words n.address)) clean)
          (ap (ins_error (flows words) entry n.context) here))

  module _ (nodes : List FlatNode) (N : IsNumbering (flows words) entry nodes) where
    -- what is kept at a node
    record HasParts (n : FlatNode) (x : GraphNode) : Type 0 where
      context : x.context ≡ n.context
      address : x.address ≡ n.address
      next : map (slice_get nodes) x.next ≡ map Some (successors (flows words) entry n)
      ins : (w : ℕ) → words n.address ≡ Some w → ins_of_word w ≡ Some x.ins

    abbrev IsKept : ℕ → GraphNode → Type 0
    IsKept k x = (n : FlatNode) → slice_get nodes k ≡ Some n → HasParts n x

    there : (k : ℕ) (n : FlatNode) → slice_get nodes k ≡ Some n → IsNode (flows words) entry n
    there k n e = (N.all n).1 (at_contains nodes k n e)

    a_node : HasNoErrors (flows words) entry → (k : ℕ) → k < length nodes
        → (x : GraphNode) × IsKept k x
    a_node clean k lt =
        let n = some_at nodes k lt in
        let is = there k n.0 n.1 in
        let p = places_in nodes (successors (flows words) entry n.0)
        (all_contained (Contains nodes) (successors (flows words) entry n.0)
        (λ m c. (N.all m).0 (a_successor n.0 m is c))) in
        let i = an_instruction n.0 (clean n.0 is) in
        let x : GraphNode =
        record { context = n.0.context; address = n.0.address; ins = i.0; next = p.0 } in (
          x,
          λ m e. subst (λ z. HasParts z x) (same_Some n.0 m (sym n.1 ∙ e))
              (record { context = refl; address = refl; next = p.1; ins = i.1 }),
        )

    built : HasNoErrors (flows words) entry → (ys : List GraphNode)
        → AreValues IsKept (length nodes) ys
        → (g : CodeGraph) × IsCodeGraph words entry g × (length g.nodes ≡ length nodes)
    built clean ys are =
        let first = contains_at nodes (record { context = []; address = entry })
        ((N.all (record { context = []; address = entry })).0 the_first) in
        let g : CodeGraph = record { nodes = ys; first = first.0 } in
        let kept : (u : ℕ) (n : FlatNode) → slice_get nodes u ≡ Some n → HasParts n (node_of g u) =
        λ u n e.
        value_at IsKept (length nodes) ys no_node are u (slice_get_within nodes u n e) n e in (
          g,
          record {
            nodes = nodes;
            flat = record {
              numbering = N;
              size = are.count;
              first = first.1;
              next = λ u n e. (kept u n e).next;
            };
            places = record { node = λ u n e. ((kept u n e).context, (kept u n e).address) };
            no_errors = clean;
            instructions = λ u w lt at.
                let n = some_at nodes u (subst (λ k. u < k) are.count lt) in
                (kept u n.0 n.1).ins w (ap words (sym (kept u n.0 n.1).address) ∙ at);
          },
          are.count,
        )

    -- a node that has an error
    record HasErrorAt (k : ℕ) : Type 0 where
      node : FlatNode
      error : NodeError
      at : slice_get nodes k ≡ Some node
      has : error_of (flows words) entry node ≡ Some error

    error_or_not : (k : ℕ) → k < length nodes → HasErrorAt k ⊎ (HasErrorAt k → ⊥)
    error_or_not k lt =
        let n = some_at nodes k lt in
        elim (none_or_some (error_of (flows words) entry n.0)) [
          | inl clean ↦ inr (λ h. not_none (error_of (flows words) entry n.0) h.error clean
              (ap (error_of (flows words) entry) (same_Some n.0 h.node (sym n.1 ∙ h.at)) ∙ h.has))
          | inr (x, e) ↦ inl (record { node = n.0; error = x; at = n.1; has = e })
        ]

    without : ((k : ℕ) → k < length nodes → HasErrorAt k → ⊥) → HasNoErrors (flows words) entry
    without none m is =
        let k = contains_at nodes m ((N.all m).0 is) in
        elim (none_or_some (error_of (flows words) entry m)) [
          | inl clean ↦ clean
          | inr (x, e) ↦ absurd (none k.0 (slice_get_within nodes k.0 m k.1)
              (record { node = m; error = x; at = k.1; has = e }))
        ]

    refused : (k : ℕ) → IsLeastBelow HasErrorAt (length nodes) k → length nodes ≤ 16384
        → (e : GraphError) × (e ≢ graph.Memory) × IsGraphError (flows words) entry e
    refused k L le =
        let h = L.holds in
        let r = refused_at (flows words) entry 16384 nodes k h.node h.error N le h.at h.has
        (λ j m lt e. elim (none_or_some (error_of (flows words) entry m)) [
          | inl clean ↦ clean
          | inr (y, is) ↦ absurd (L.least j lt (record { node = m; error = y; at = e; has = is }))
        ]) in (
          graph_error h.error h.node.address,
          no_memory h.error h.node.address,
          refused_by (flows words) entry (Some h.error) h.node.address
              (graph_error h.error h.node.address) refl
              (λ y s.
              subst (λ z. IsGraphRefused (flows words) entry 16384 (flat.AtNode z h.node.address))
              (same_Some h.error y s) r),
        )
      where
        no_memory : (x : NodeError) (a : ℕ) → graph_error x a ≢ graph.Memory
        no_memory flat.Misaligned a = λ e. cc
        no_memory flat.OutsideCode a = λ e. cc
        no_memory flat.Undecodable a = λ e. cc
        no_memory flat.Breakpoint a = λ e. cc
        no_memory flat.IndirectJump a = λ e. cc
        no_memory flat.OtherLink a = λ e. cc
        no_memory flat.Recursive a = λ e. cc
        no_memory flat.TooDeep a = λ e. cc

pub a_graph_exists : AGraphExists
a_graph_exists words entry none =
    decided (HasMoreNodes (flows words) entry most_nodes) (⊎_elim
    (λ more. none (Err (graph.TooManyNodes entry)) ((λ e. cc), (refl, more)))
    (λ few. a_numbering (flows words) entry most_nodes few (λ N. end N.0 N.1 N.2)))
  where
    end : (nodes : List FlatNode) → IsNumbering (flows words) entry nodes
        → length nodes ≤ 16384 → ⊥
    end nodes N le =
        elim (first_below (HasErrorAt words entry nodes N) (length nodes)
        (error_or_not words entry nodes N)) [
          | inl (k, L) ↦
              let r = refused words entry nodes N k L le in none (Err r.0) (r.1, r.2)
          | inr clean ↦
              a_list (IsKept words entry nodes N) (length nodes)
              (λ k lt.
              unrefuted (a_node words entry nodes N (without words entry nodes N clean) k lt))
              (λ ys.
              let b = built words entry nodes N (without words entry nodes N clean) ys.0 ys.1 in
              none (Ok b.0) (b.1, omega (arith, b.2, le)))
        ]
