use Rattle.std.proofs.Common.{rules}
use Rattle.crpd_base.proofs.lists.Items.get.Goals as goal

pub returns : goal.returns
returns g c = search rules
