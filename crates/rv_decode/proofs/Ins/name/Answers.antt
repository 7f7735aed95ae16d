use Rattle.std.proofs.Common.{rules}
use Rattle.rv_decode.specs.Inner.Names.{name}
use Rattle.rv_decode.proofs.Ins.name.Goals as goal

pub returns-in-Mulhsu : goal.returns-in-Mulhsu
unfolding name
returns-in-Mulhsu c = search rules
