use Rattle.std.proofs.Common.{sym, ap}
use Rattle.cert_build.specs.Inner.Certify.{window_build_error}
use Rattle.cert_build.proofs.error.BuildErrorFromWindowError.from.Goals as goal

pub returns-in-Unschedulable : goal.returns-in-Unschedulable
returns-in-Unschedulable c = sym (ap window_build_error c.in-Unschedulable.is)
