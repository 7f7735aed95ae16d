use Rattle.std.proofs.Common.{refl}
use Rattle.std.proofs.lemmas.Bool.{le-leb}
use Rattle.flow_watch.proofs.loops.in_range.Goals as goal

pub returns-then-range-address : goal.returns-then-range-address
returns-then-range-address c =
    let b = le-leb c.args.range.now.0 c.args.address c.if-range-address.true in rw b refl
