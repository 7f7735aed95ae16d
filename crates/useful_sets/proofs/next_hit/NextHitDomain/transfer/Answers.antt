use Rattle.std.proofs.Common.{◌≡◌, ◌==◌, if◌then◌else◌, get_or, false, ap, subst, ◌∙◌}
use Rattle.crpd_base.specs.Sets.{has}
use Rattle.crpd_base.proofs.Bools.{equal_swapped}
use Rattle.icache.specs.Cache.{set_of, block_of}
use Rattle.flat_graph.specs.CodeGraph.{places_of}
use Rattle.useful_sets.proofs.next_hit.NextHitDomain.transfer.Goals as goal

pub returns : goal.returns
returns g c i t =
    let p = c.args.self.now.geometry.now.platform in
    let set : c.set-set.result
    ≡ set_of p (block_of p ((places_of c.args.self.now.graph.now).address c.args.node)) =
    c.set-set.ensures ∙ ap (set_of p) (c.block.ensures ∙ ap (block_of p) c.address-address.ensures)
    in
    let hit = get_or c.args.self.now.hits.now c.args.node false in
    (subst (λ k. has c.put.new.self t ≡ (if t == k then hit else has c.args.sets.now t))
    set (c.put.ensures t)
    ∙ ap (λ b. if b then hit else has c.args.sets.now t) (equal_swapped t _)) i
