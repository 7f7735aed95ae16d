use Rattle.sensitivity.proofs.Certified.{accepted_is_certified, accepted_is_not_refused}
use Rattle.sensitivity.proofs.Certified.{certified_is_accepted}
use Rattle.sensitivity.proofs.laws.certified_law.Goals as goal

pub returns : goal.returns
returns c = record {
  accepted = certified_is_accepted;
  certified = accepted_is_certified;
  refused = accepted_is_not_refused;
}
