use Rattle.std.proofs.Common.{rules}
use Rattle.rv_decode.proofs.fields.b_imm.Goals as goal

pub returns : goal.returns
returns c = search rules
