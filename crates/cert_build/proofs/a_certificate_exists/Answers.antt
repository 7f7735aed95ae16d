use Rattle.cert_build.proofs.SomeCertificate.{a_certificate_exists}
use Rattle.cert_build.proofs.a_certificate_exists.Goals as goal

pub returns : goal.returns
returns c = a_certificate_exists
