use Rattle.delay_point.proofs.Walks.{chosen_is_bounded, prepaid_states, refined_have_walks}
use Rattle.delay_point.proofs.laws.chosen_law.Goals as goal

pub returns : goal.returns
returns c = record {
  walks = refined_have_walks;
  bounded = chosen_is_bounded;
  states = prepaid_states;
}
