use Rattle.std.proofs.lemmas.Result.{err_from_is_err_and}
use Rattle.cert_update.specs.Inner.Coded.{coded_side}
use Rattle.cert_update.proofs.Finished.{not_scheduled}
use Rattle.cert_update.proofs.updating.completed.Goals as goal

pub returns : goal.returns
returns c = c.in_ok-complete.ensures c.args.change.now.new.nests.now

pub returns-in_err-complete : goal.returns-in_err-complete
returns-in_err-complete c =
    let p = err_from_is_err_and c.from_residual.result c.from_residual.ensures.1 in
    rw p.1
    (not_scheduled (coded_side c.args.change.now.old) c.args.change.now.certificate.now
    (coded_side c.args.change.now.new) c.args.parts.items c.requires.parts c.requires.few
    c.in_err-complete.field-0.0 p.0
    (c.in_err-complete.ensures c.args.change.now.new.nests.now) p.2)
