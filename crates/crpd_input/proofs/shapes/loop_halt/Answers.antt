use Rattle.std.proofs.Common.{rules}
use Rattle.crpd_input.proofs.shapes.loop_halt.Goals as goal

pub returns : goal.returns
returns c = search rules
