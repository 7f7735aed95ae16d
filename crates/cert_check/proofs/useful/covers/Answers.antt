use Rattle.cert_check.proofs.Covered.{covered}
use Rattle.cert_check.proofs.useful.covers.Goals as goal

pub returns : goal.returns
returns c =
    covered c.args.sets.now c.args.others.now c.first_missing.result c.is_none.result
    c.within_law.ensures c.first_missing.ensures c.is_none.ensures
