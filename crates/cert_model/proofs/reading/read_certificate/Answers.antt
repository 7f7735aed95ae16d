use Rattle.cert_model.proofs.Ranged.{found_ranged}
use Rattle.cert_model.proofs.reading.read_certificate.Goals as goal

pub returns-clause-ranges : goal.returns-clause-ranges
returns-clause-ranges c =
    found_ranged c.args.bytes.now c.certificate_of.result c.certificate_of.ensures
