use Rattle.response.proofs.SomeWindows.{windows_exist}
use Rattle.response.proofs.windows_exist.Goals as goal

pub returns : goal.returns
returns c = windows_exist
