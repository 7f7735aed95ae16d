use Rattle.sustainability.proofs.AcceptedSets.{accepted_are_sustainable}
use Rattle.sustainability.proofs.RefinedSets.{refined_sets_are_sustainable}
use Rattle.sustainability.proofs.laws.sustainable_sets.Goals as goal

pub returns : goal.returns
returns c = record {
  accepted = accepted_are_sustainable;
  refined = refined_sets_are_sustainable;
}
