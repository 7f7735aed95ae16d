-- The unlisted nodes that continue a listed one, written in sequence.
use Rattle.std.proofs.Common.{◌≡◌, ℕ, ◌+◌, ◌-◌, ◌<◌, ◌≤◌, List, length, set, Option, Some, None}
use Rattle.std.proofs.Common.{MatchOption, IsTrue, IsFalse, sym, ap, ◌∙◌, subst, arith, length-set}
use Rattle.std.specs.Prelude.{slice_index}
use Rattle.std.proofs.lemmas.Bool.{both_ways}
use Rattle.crpd_base.specs.declared.data.NodeId.{NodeId}
use Rattle.flat_graph.specs.Graph.{Graph, Edge, IsGraph}
use Rattle.evict_sets.specs.Full.{Listed}
use Rattle.evict_sets.specs.CacheClauses.{ListsLeaders}
use Rattle.evict_sets.specs.Inner.OrderPrefix.{IsOrderPrefix, IsChainComplete, HasListedBelow}
use Rattle.evict_sets.proofs.Lines.{has_room, at_new, line_more, listed_more, unlisted_more}
use Rattle.evict_sets.proofs.Lines.{fresh_listed, fresh_unlisted, one_follows}

-- what continues a node
abbrev pub IsFollower : Graph → Listed → ℕ → Option NodeId → Type 0
IsFollower g l u r =
    MatchOption r ((v : ℕ) → Edge g u v → IsTrue (l.is_listed v))
    (λ v. Edge g u v.0 × IsFalse (l.is_listed v.0))

-- the nodes written so far, of which the last is continued by this one
pub record ChainTo (g : Graph) (l : Listed) (order : List ℕ) (count below : ℕ)
    (next : Option NodeId) : Type 0 where
  pub size : length order ≡ g.size
  pub some : 1 ≤ count
  pub line : IsOrderPrefix g l order count
  pub listed : HasListedBelow g l order count below
  pub pending : (k : ℕ) → k + 1 ≡ count → IsFollower g l (slice_index order k) next

module _ (g : Graph) (l : Listed) (G : IsGraph g) (leaders : ListsLeaders g l) where
  pub start_room : (order : List ℕ) (count v : ℕ) → length order ≡ g.size
      → IsOrderPrefix g l order count → HasListedBelow g l order count v → v < g.size
      → IsTrue (l.is_listed v) → count < length order
  start_room order count v size L H lt t =
      let r = has_room g l order count v L lt (fresh_listed g l order count v t H) in
      omega (arith, r, size)

  pub chain_start : (order : List ℕ) (count v : ℕ) (next : Option NodeId) → length order ≡ g.size
      → IsOrderPrefix g l order count → IsChainComplete g l order count
      → HasListedBelow g l order count v → v < g.size → IsTrue (l.is_listed v)
      → IsFollower g l v next → ChainTo g l (set order count v) (count + 1) (v + 1) next
  chain_start order count v next size L C H lt t F =
      let fresh = fresh_listed g l order count v t H in
      let room = start_room order count v size L H lt t in
      record {
        size = length-set order count v ∙ size;
        some = omega arith;
        line =
            line_more g l order count v size L lt fresh (λ e. t)
            (λ k e out. absurd (both_ways (l.is_listed v) out t))
            (λ k w e f out. absurd (both_ways (l.is_listed w) out (C k w e f)));
        listed = listed_more g l order count v room t H;
        pending = λ k e.
            subst (λ x. IsFollower g l x next)
            (sym (ap (slice_index (set order count v)) (omega arith)
            ∙ at_new g l order count v room)) F;
      }

  pub chain_node : (order : List ℕ) (count below : ℕ) (v : NodeId)
      → ChainTo g l order count below (Some v) → v.0 < g.size
  chain_node order count below v C =
      G.edges (slice_index order (count - 1)) v.0 (C.pending (count - 1) (omega (arith, C.some))).0

  pub chain_room : (order : List ℕ) (count below : ℕ) (v : NodeId)
      → ChainTo g l order count below (Some v) → count < length order
  chain_room order count below v C =
      let p = C.pending (count - 1) (omega (arith, C.some)) in
      let lt = G.edges (slice_index order (count - 1)) v.0 p.0 in
      let fresh = fresh_unlisted g l order count v.0 (count - 1) leaders C.line
      (omega (arith, C.some)) lt p.1 p.0 in
      let r = has_room g l order count v.0 C.line lt fresh in
      omega (arith, r, C.size)

  pub chain_more : (order : List ℕ) (count below : ℕ) (v : NodeId) (next : Option NodeId)
      → ChainTo g l order count below (Some v) → IsFollower g l v.0 next
      → ChainTo g l (set order count v.0) (count + 1) below next
  chain_more order count below v next C F =
      let p = C.pending (count - 1) (omega (arith, C.some)) in
      let lt = G.edges (slice_index order (count - 1)) v.0 p.0 in
      let fresh = fresh_unlisted g l order count v.0 (count - 1) leaders C.line
      (omega (arith, C.some)) lt p.1 p.0 in
      let room = chain_room order count below v C in
      record {
        size = length-set order count v.0 ∙ C.size;
        some = omega arith;
        line = line_more g l order count v.0 C.size C.line lt fresh
            (λ e. absurd (let s = C.some in omega (arith, e, s)))
            (λ k e out. (C.pending k e).0)
            (λ k w e f out. one_follows g l (slice_index order k) v.0 w leaders lt (C.pending k e).1
            (C.pending k e).0 f);
        listed = unlisted_more g l order count v.0 below room p.1 C.listed;
        pending = λ k e.
            subst (λ x. IsFollower g l x next)
            (sym (ap (slice_index (set order count v.0)) (omega arith)
            ∙ at_new g l order count v.0 room)) F;
      }

pub chain_closed : (g : Graph) (l : Listed) (order : List ℕ) (count below : ℕ)
    → ChainTo g l order count below None → IsChainComplete g l order count
chain_closed g l order count below C k v e f = C.pending k e v f

-- the listed nodes below a number are written, with the unlisted ones that continue them
pub record OrderTo (g : Graph) (l : Listed) (order : List ℕ) (count below : ℕ) : Type 0 where
  pub line : IsOrderPrefix g l order count
  pub closed : IsChainComplete g l order count
  pub all : HasListedBelow g l order count below
