use Rattle.std.proofs.Common.{rules}
use Rattle.gen_tasks.proofs.programs.offset_back.Goals as goal

pub returns : goal.returns
returns c = search rules
