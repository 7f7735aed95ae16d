use Rattle.std.proofs.Common.{◌<◌, length, not, false, ap, sym, ◌∙◌, arith}
use Rattle.std.proofs.lemmas.List.{get_or_default}
use Rattle.dataflow.proofs.order.DepthFirst.is_new.Goals as goal

pub returns : goal.returns
returns c =
    let seen = c.args.self.now.seen in
    let within : c.args.node < length seen.items = omega (arith, seen.ok) in
    ap not (c.index.ensures
    ∙ sym (get_or_default seen.items c.args.node false c.index.result.now within))
