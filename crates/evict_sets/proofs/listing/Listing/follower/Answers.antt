use Rattle.std.proofs.Common.{◌≡◌, ◌<◌, ℕ, List, Option, Some, None, MatchOption, IsTrue, IsFalse}
use Rattle.std.proofs.Common.{length, subst, arith, rules, tests}
use Rattle.std.specs.List.{AllWithin, HoldsAt}
use Rattle.std.proofs.lemmas.Bool.{false≢true}
use Rattle.std.proofs.lemmas.Iterator.{first_from_find}
use Rattle.std.proofs.lemmas.Iterator.Consumers.{YieldsList-from_first}
use Rattle.crpd_base.specs.declared.data.NodeId.{NodeId}
use Rattle.flat_graph.specs.Graph.{Graph, Edge}
use Rattle.flat_graph.specs.CodeGraph.{graph_of}
use Rattle.evict_sets.specs.Full.{Listed}
use Rattle.evict_sets.specs.ListedPart.{listed_of}
use Rattle.evict_sets.proofs.listing.Listing.follower.Goals as goal

module _ (g : Graph) (l : Listed) (u : ℕ) (lt : u < g.size) where
  first_unlisted : (r : Option NodeId)
      → MatchOption r (AllWithin (λ w. IsTrue (l.is_listed w)) (g.next u) 0 (length (g.next u)))
      (λ x. IsFalse (l.is_listed x.0) × (i : ℕ) × (i < length (g.next u))
      × HoldsAt (λ y. y ≡ x.0) (g.next u) i
      × AllWithin (λ w. IsTrue (l.is_listed w)) (g.next u) 0 i)
      → MatchOption r ((v : ℕ) → Edge g u v → IsTrue (l.is_listed v))
      (λ v. Edge g u v.0 × IsFalse (l.is_listed v.0))
  first_unlisted None all =
      λ v e. subst (λ w. IsTrue (l.is_listed w)) e.1.2 (all e.1.0 v (omega arith) e.1.1)
  first_unlisted (Some x) found = ((lt, (found.1, found.2, found.3 x.0)), found.0)

pub returns : goal.returns
returns c =
    let g = graph_of c.args.self.now.graph.now in
    let l = listed_of c.args.self.now.part.now in
    first_unlisted g l c.args.node.0 c.requires.node c.find.result
    (first_from_find _ _ c.find.result (λ w. IsFalse (l.is_listed w))
    (λ w. IsTrue (l.is_listed w)) c.find.ensures.ran
    (YieldsList-from_first (λ (n : NodeId). n.0) (λ (left : List ℕ). left)
    (g.next c.args.node.0) cc)
    (λ x q k. search (rules, tests, false≢true)) (λ x q k. search (rules, tests, false≢true)))
