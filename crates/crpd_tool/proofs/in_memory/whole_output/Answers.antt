use Rattle.std.proofs.Common.{rules}
use Rattle.crpd_tool.proofs.in_memory.whole_output.Goals as goal

pub returns-in_ok-line-in-Err-Refused-clause-status :
    goal.returns-in_ok-line-in-Err-Refused-clause-status
returns-in_ok-line-in-Err-Refused-clause-status c = search rules
