use Rattle.std.proofs.Common.{◌∷◌, ◌<◌, [], ℕ, slice_index, sym, subst, All}
use Rattle.std.proofs.lemmas.List.{map-append}
use Rattle.std.proofs.lemmas.List.Elements.{All-push}
use Rattle.crpd_base.specs.declared.data.NodeId.{NodeId}
use Rattle.loop_regions.specs.Nest.{IsBackEdge}
use Rattle.loop_regions.specs.Inner.FoundRegions.{nest_in}
use Rattle.loop_regions.proofs.ranks.falls_along.Goals as goal

pub loop-next-preserved : goal.loop-next-preserved
loop-next-preserved c =
    let falls : ℕ → Type 0 = λ v. (IsBackEdge (nest_in c.args.regions.now) c.args.u v → ⊥)
    → slice_index c.args.ranks.now v < slice_index c.args.ranks.now c.args.u in
    subst (All falls)
    (sym (map-append (λ (n : NodeId). n.0) c.loop-next.yielded (c.in-Some.next ∷ [])))
    (All-push falls _ c.in-Some.next.0 c.loop-next.invariant
    (c.falls.ensures c.if-not-falls.false))
