use Rattle.std.proofs.Common.{ap, arith}
use Rattle.std.proofs.lemmas.Grind.{common_steps}
use Rattle.dataflow.proofs.Depth.{find, same_search}
use Rattle.dataflow.proofs.order.DepthFirst.run.Goals as goal

pub loop-node-init : goal.loop-node-init
loop-node-init g c = record {
  search =
      same_search _ _ _ _ _ _ _ _ _ _ c.in_ok-find.ensures.seen
      (ap (λ v. v.items) c.find.ensures.next) c.in_ok-find.ensures.path
      (ap (λ v. v.items) c.find.ensures.left)
      (find _ _ _ _ _ _ c.args.root c.requires.root c.requires.search);
  root = grind (arith, common_steps);
  seen = λ n was. grind (arith, common_steps);
}

pub loop-node-preserved : goal.loop-node-preserved
loop-node-preserved g c = record {
  search = c.in_ok-visit.ensures.search;
  root = c.in_ok-visit.ensures.seen _ c.loop-node.invariant.root;
  seen = λ n was. c.in_ok-visit.ensures.seen n (c.loop-node.invariant.seen n was);
}

pub loop-node-smaller : goal.loop-node-smaller
loop-node-smaller g c = grind (arith, common_steps)
