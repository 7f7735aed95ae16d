use Rattle.std.proofs.Common.{rules}
use Rattle.cert_model.proofs.reading.version_numbered.Goals as goal

pub returns-in-2 : goal.returns-in-2
returns-in-2 c = search rules
