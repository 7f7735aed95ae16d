use Rattle.std.proofs.Common.{◌≡◌, None, option_map, arith}
use Rattle.crpd_base.proofs.Elements.{pushed_each}
use Rattle.dataflow.proofs.solver.first_facts.Goals as goal

pub loop-node-preserved : goal.loop-node-preserved
loop-node-preserved g c = record {
  nodes = omega (arith, c.in_ok-push.ensures.len);
  begins =
      pushed_each
      (λ y o. option_map g.D.Domain.view o ≡ g.D.Domain.begins c.args.domain.now y)
      c.loop-node.facts.items c.push.new.self.items c.start.result None c.loop-node.node
      c.in_ok-push.ensures.items (omega (arith, c.loop-node.facts.ok))
      c.loop-node.invariant.begins
      c.start.ensures;
}
