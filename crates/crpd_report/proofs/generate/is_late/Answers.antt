use Rattle.std.proofs.Common.{rules}
use Rattle.crpd_report.proofs.generate.is_late.Goals as goal

pub returns-then-time-response : goal.returns-then-time-response
returns-then-time-response c = search rules

pub returns-in-Answered : goal.returns-in-Answered
returns-in-Answered c = search rules

pub returns-in-Unreleased : goal.returns-in-Unreleased
returns-in-Unreleased c = search rules
