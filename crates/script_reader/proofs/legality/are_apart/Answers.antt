use Rattle.std.proofs.Common.{rules}
use Rattle.script_reader.proofs.legality.are_apart.Goals as goal

pub returns-then-times-i : goal.returns-then-times-i
returns-then-times-i c = search rules
