use Rattle.crpd_base.proofs.Times.{has_times}
use Rattle.crpd_base.proofs.tasks.times_law.Goals as goal

pub returns : goal.returns
returns c = has_times c.args.set.now c.requires
