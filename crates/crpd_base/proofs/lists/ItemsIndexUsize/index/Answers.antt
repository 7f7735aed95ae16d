use Rattle.std.proofs.Common.{rules}
use Rattle.crpd_base.proofs.lists.ItemsIndexUsize.index.Goals as goal

pub returns : goal.returns
returns g c = search rules
