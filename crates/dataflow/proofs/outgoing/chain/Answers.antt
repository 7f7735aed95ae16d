use Rattle.std.proofs.Common.{arith}
use Rattle.std.proofs.lemmas.Grind.{common_steps}
use Rattle.dataflow.proofs.outgoing.chain.Goals as goal

pub link-requires : goal.link-requires
link-requires g c = grind (arith, common_steps)
