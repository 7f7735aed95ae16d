use Rattle.sustainability.proofs.RefinedWindows.{refined_are_sustainable, refined_are_no_longer}
use Rattle.sustainability.proofs.laws.sustainable_refinement.Goals as goal

pub returns : goal.returns
returns c = record {
  sustainable = refined_are_sustainable;
  no_longer = refined_are_no_longer;
}
