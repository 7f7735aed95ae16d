use Rattle.std.proofs.Common.{rules}
use Rattle.crpd_input.proofs.script.script_halt.Goals as goal

pub returns-in-TooLong : goal.returns-in-TooLong
returns-in-TooLong c = search rules
