use Rattle.std.proofs.Common.{◌≡◌, ◌==◌, if◌then◌else◌, ℕ, false, get_or, subst, ap, ◌∙◌, arith}
use Rattle.crpd_base.specs.Sets.{member}
use Rattle.icache.specs.Accesses.{accesses}
use Rattle.icache.specs.Cache.{set_of, block_of}
use Rattle.flat_graph.specs.CodeGraph.{graph_of, places_of}
use Rattle.useful_sets.proofs.HitSets.{sets_none, sets_more, sets_same}
use Rattle.useful_sets.proofs.by_hits.sets_of_hits.Goals as goal
use Rattle.useful_sets.proofs.by_hits.sets_of_hits.Goals.{then-hits-node, else-hits-node}

pub loop-node-init : goal.loop-node-init
loop-node-init g c =
    sets_none (λ y. get_or c.args.hits.now y false)
    (accesses c.args.geometry.now.platform (places_of c.args.graph.now).address).set 0
    c.new-sets.result c.new-sets.result c.new-sets.ensures

pub loop-node-preserved : goal.loop-node-preserved
loop-node-preserved g c =
    let p = c.args.geometry.now.platform in
    let a = accesses p (places_of c.args.graph.now).address in
    let hit = λ (y : ℕ). get_or c.args.hits.now y false in
    elim c.if-hits-node.branch [
      | then-hits-node w ↦
          rw w.sets-is
          (sets_more hit a.set c.loop-node.node c.loop-node.sets _ c.loop-node.invariant
          (subst (λ k. (t : ℕ) → member w.insert.new.self t
          ≡ (if t == k then 1 else member c.loop-node.sets t))
          (w.set.ensures ∙ ap (set_of p) (w.block.ensures ∙ ap (block_of p) w.address.ensures))
          w.insert.ensures)
          w.if-hits-node.true)
      | else-hits-node w ↦
          rw w.sets-is
          (sets_same hit a.set c.loop-node.node c.loop-node.sets c.loop-node.sets
          c.loop-node.invariant w.if-hits-node.false)
    ]

pub returns : goal.returns
returns g c s =
    let last : c.loop-node.node ≡ (graph_of c.args.graph.now).size =
    omega (arith, c.len-node-end.ensures) in
    let sets = c.loop-node.invariant s in (
      λ t. let z = sets.0 t in (z.0, omega (arith, z.1), z.2, z.3),
      λ z. sets.1 (z.0, omega (arith, z.1), z.2, z.3),
    )
