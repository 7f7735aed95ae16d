use Rattle.std.proofs.Common.{◌≡◌, ◌↔◌, IsTrue, length, subst, arith}
use Rattle.crpd_base.specs.Sets.{has}
use Rattle.icache.specs.Accesses.{accesses}
use Rattle.flat_graph.specs.CodeGraph.{places_of}
use Rattle.evict_sets.specs.Evicting.{IsAccessedBelow}
use Rattle.evict_sets.proofs.Collected.{none_accessed, more_accessed}
use Rattle.evict_sets.proofs.accessed.evicting.Goals as goal

pub loop-node-init : goal.loop-node-init
loop-node-init g c =
    none_accessed (accesses c.args.geometry.now.platform (places_of c.args.graph.now).address)
    c.new-accessed.result c.new-accessed.ensures

pub loop-node-preserved : goal.loop-node-preserved
loop-node-preserved g c =
    let p = c.args.geometry.now.platform in
    let a = accesses p (places_of c.args.graph.now).address in
    let at : a.set c.loop-node.node ≡ c.set.result = cc in
    more_accessed a c.loop-node.accessed c.insert.new.self c.loop-node.node c.set.result at
    c.insert.ensures c.loop-node.invariant

pub returns : goal.returns
returns g c s =
    let a = accesses c.args.geometry.now.platform (places_of c.args.graph.now).address in
    let end : c.loop-node.node ≡ length c.args.graph.now.nodes =
    omega (arith, c.loop-node-test.false, c.loop-node.auto.node-end, c.len-node-end.ensures) in
    subst (λ n. IsTrue (has c.loop-node.accessed s) ↔ IsAccessedBelow a n s) end
    (c.loop-node.invariant s)
