use Rattle.std.proofs.Common.{◌≡◌, ◌<◌, ◌∙◌, arith, refl, length, slice_get, Some, subst}
use Rattle.std.proofs.lemmas.List.{length-set}
use Rattle.std.proofs.lemmas.Option.{slice_get_within, slice_get_read, get_or_from_slice_get}
use Rattle.flat_graph.specs.declared.points.FoundPoint.{FoundPoint}
use Rattle.flat_graph.proofs.Placed.{ranks_more}
use Rattle.flat_graph.proofs.bodies.ranks.Goals as goal

pub loop-rank-preserved : goal.loop-rank-preserved
loop-rank-preserved c =
    let points = c.args.ordered.now.points.items in
    let r = c.loop-rank.rank in
    let found = c.index-found.result.now in
    let at : slice_get points r ≡ Some found =
    slice_get_read points (length points) r found refl (omega arith) c.index-found.ensures in
    let below : found.place < length points =
    subst (λ (p : FoundPoint). p.place < length points)
    (get_or_from_slice_get points r found found at)
    (c.requires.below r found (omega arith)) in
    record {
      count = length-set c.loop-rank.ranks.items found.place r ∙ c.loop-rank.invariant.count;
      ranks = ranks_more points c.loop-rank.ranks.items r found c.requires.apart at
          (omega (arith, below, c.loop-rank.invariant.count)) c.loop-rank.invariant.ranks;
    }

pub returns-clause-ranks : goal.returns-clause-ranks
returns-clause-ranks c k p e =
    c.loop-rank.invariant.ranks k p
    (omega (arith, slice_get_within c.args.ordered.now.points.items k p e)) e
