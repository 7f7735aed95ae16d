use Rattle.std.proofs.Common.{◌<◌, List, ℕ, [], Some, length, ap, arith}
use Rattle.std.proofs.lemmas.List.{get_or_default}
use Rattle.crpd_base.specs.Sets.{has}
use Rattle.must_cache.proofs.unsure.UnsureDomain.start.Goals as goal

pub bounds-self-node : goal.bounds-self-node
bounds-self-node g c = omega (arith, c.args.self.now.all_apart, c.requires.0)

pub returns : goal.returns
returns g c =
    let apart = c.args.self.now.apart.now in
    let within : c.args.node < length c.args.self.now.apart.now =
    omega (arith, c.args.self.now.all_apart, c.requires.0) in
    ap (λ (w : List ℕ). Some (λ s. has w s))
    (get_or_default apart c.args.node c.index-self-node.result [] within)
