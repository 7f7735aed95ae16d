use Rattle.std.proofs.Common.{◌≡◌, ◌<◌, ◌∙◌, ◌∷◌, ◌==◌, [], ℕ, zero, suc, false, length}
use Rattle.std.proofs.Common.{replicate, refl, sym, ap, subst, inl, inr, ⊎_elim, eq-eqb, arith}
use Rattle.std.proofs.lemmas.Bool.{false≢true, eqb-true, or_cases, or_left}
use Rattle.std.proofs.lemmas.List.{get_or_default, length-replicate, nil_from_length}
use Rattle.flat_graph.specs.Graph.{Graph}
use Rattle.flat_graph.specs.CodeGraph.{graph_of}
use Rattle.loop_regions.specs.Nest.{Nest}
use Rattle.loop_regions.specs.Inner.FoundRegions.{nest_in}
use Rattle.loop_regions.specs.Inner.ForwardPaths.{IsSearch, was_seen}
use Rattle.loop_regions.proofs.Has.{has_pushed}
use Rattle.loop_regions.proofs.Searching.{taken, found_cycle}
use Rattle.loop_regions.proofs.cycles.is_on_cycle.Goals as goal

unseen : (k v : ℕ) → was_seen (replicate k false) v ≡ false
unseen zero v = refl
unseen (suc k) zero = refl
unseen (suc k) (suc v) = unseen k v

-- at first no node is seen, and one waits
begun : (g : Graph) (n : Nest) (y : ℕ) → y < g.size
    → IsSearch g n y (replicate g.size false) (y ∷ [])
begun g n y lt = record {
  nodes = length-replicate g.size false;
  sound = λ v h. absurd (false≢true (sym (unseen g.size v) ∙ h));
  own = λ u h.
      ⊎_elim (λ e. let is = eqb-true y u e in (subst (λ x. x < g.size) is lt, inl (sym is)))
      (λ f. absurd (false≢true f)) (or_cases (y == u) false h);
  followed = λ u v m f.
      ⊎_elim (λ is. inr (or_left (y == u) false (eq-eqb y u (sym is))))
      (λ h. absurd (false≢true (sym (unseen g.size u) ∙ h))) m;
}

pub loop-u-init : goal.loop-u-init
loop-u-init c =
    let g = graph_of c.args.graph.now in
    let n = nest_in c.args.regions.now in
    let seen : c.in_ok-vec.field-0.items ≡ replicate g.size false =
    c.in_ok-vec.ensures.items_if_clones_equal (λ y e. cc)
    ∙ ap (λ k. replicate k false) c.len.ensures in
    subst (λ xs. IsSearch g n c.args.y xs c.in_ok-vec-2.field-0.items) (sym seen)
    (subst (IsSearch g n c.args.y (replicate g.size false)) (sym c.in_ok-vec-2.ensures.items)
    (begun g n c.args.y c.requires.node))

pub follow-requires-clause-node : goal.follow-requires-clause-node
follow-requires-clause-node c =
    (c.loop-u.invariant.own c.in-Some.u
    (rw c.in-Some.ensures.items (has_pushed c.pop.new.self.items c.in-Some.u))).0

pub loop-u-preserved : goal.loop-u-preserved
loop-u-preserved c =
    let g = graph_of c.args.graph.now in
    let n = nest_in c.args.regions.now in
    let seen = c.loop-u.search.seen.items in
    c.in_ok-follow.ensures.search c.args.y
    (taken g n c.args.y seen c.pop.new.self.items c.in-Some.u
    (subst (IsSearch g n c.args.y seen) c.in-Some.ensures.items c.loop-u.invariant))

pub returns : goal.returns
returns c =
    let g = graph_of c.args.graph.now in
    let n = nest_in c.args.regions.now in
    let s = c.loop-u.search in
    let lt : c.args.y < length s.seen.items =
    omega (arith, c.loop-u.invariant.nodes, c.requires.node) in
    let at : c.index.result.now ≡ was_seen s.seen.items c.args.y =
    c.index.ensures ∙ get_or_default s.seen.items c.args.y c.index.result.now false lt in
    let none = nil_from_length s.waiting.items (omega (arith, c.in_default.ensures.cases.0)) in
    rw at
    (found_cycle g n c.args.y s.seen.items
    (subst (IsSearch g n c.args.y s.seen.items) none c.loop-u.invariant))
