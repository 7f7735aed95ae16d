use Rattle.std.proofs.Common.{◌≡◌, ℕ, List, sym, ap, ◌∙◌, arith}
use Rattle.flat_graph.specs.CodeGraph.{places_of}
use Rattle.icache.specs.Accesses.{accesses}
use Rattle.icache.specs.Cache.{block_of, set_of}
use Rattle.loop_regions.specs.CodeNest.{nest_of, has}
use Rattle.persistent_blocks.proofs.Noting.{below, node_more, noted_none, noted_all}
use Rattle.persistent_blocks.proofs.region_pairs.note_nodes.Goals as goal

pub loop-node-init : goal.loop-node-init
loop-node-init c =
    noted_none (accesses c.args.geometry.now.platform (places_of c.args.graph.now).address)
    (nest_of c.args.nest.now).holds c.args.first.now c.args.mixed.now c.requires.none
    c.requires.apart

pub loop-node-preserved : goal.loop-node-preserved
loop-node-preserved c =
    let p = c.args.geometry.now.platform in
    let a = accesses p (places_of c.args.graph.now).address in
    let holds = (nest_of c.args.nest.now).holds in
    let k = c.loop-node.node in
    let block : c.block-block.result ≡ a.block k =
    c.block-block.ensures ∙ ap (block_of p) c.address.ensures in
    let set : c.set.result ≡ a.set k = c.set.ensures ∙ ap (set_of p) block in
    node_more a holds k c.regions_round-round.result.now c.note_round.new.first
    c.note_round.new.mixed
    (λ r. ap (λ (l : List ℕ). has l r) c.regions_round-round.ensures)
    (c.note_round.ensures a (below holds k) k (sym set) (sym block) c.loop-node.invariant)

pub returns : goal.returns
returns c =
    let a = accesses c.args.geometry.now.platform (places_of c.args.graph.now).address in
    noted_all a (nest_of c.args.nest.now).holds c.loop-node.node c.loop-node.first
    c.loop-node.mixed
    (λ r y past. c.requires.nest.is_regions.nodes_only r y
    (omega (arith, past, c.loop-node-test.false, c.len-node-end.ensures)))
    c.loop-node.invariant
