use Rattle.std.proofs.Common.{arith}
use Rattle.set_reader.proofs.platform.number_at.Goals as goal

pub returns-then-is_required : goal.returns-then-is_required
returns-then-is_required c = grind arith
