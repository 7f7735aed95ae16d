use Rattle.std.proofs.Common.{arith}
use Rattle.std.proofs.lemmas.Grind.{common_steps, elements}
use Rattle.loop_regions.proofs.ranks.ranks.Goals as goal

pub index_mut-requires : goal.index_mut-requires
index_mut-requires c = grind (arith, elements)

pub take_away-requires-clause-node : goal.take_away-requires-clause-node
take_away-requires-clause-node c = grind (arith, elements)

pub take_away-requires-clause-ready : goal.take_away-requires-clause-ready
take_away-requires-clause-ready c = grind (arith, common_steps)

pub loop-ranked-preserved : goal.loop-ranked-preserved
loop-ranked-preserved c = grind (arith, common_steps)
