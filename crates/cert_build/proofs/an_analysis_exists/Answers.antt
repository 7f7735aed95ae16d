use Rattle.cert_build.proofs.SomeAnalysis.{an_analysis_exists}
use Rattle.cert_build.proofs.an_analysis_exists.Goals as goal

pub returns : goal.returns
returns c = an_analysis_exists
