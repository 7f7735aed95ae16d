use Rattle.std.proofs.Common.{rules}
use Rattle.cert_model.specs.Inner.Tasks.{bound_and_evicting}
use Rattle.cert_model.proofs.task.bound_and_evicting.Goals as goal

pub returns-in_err-evicting : goal.returns-in_err-evicting
unfolding bound_and_evicting
returns-in_err-evicting c = search rules
