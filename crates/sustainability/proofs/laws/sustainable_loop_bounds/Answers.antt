use Rattle.sustainability.proofs.LoopBounds.{bounds_are_sustainable, loop_bounds_are_sustainable}
use Rattle.sustainability.proofs.laws.sustainable_loop_bounds.Goals as goal

pub returns : goal.returns
returns c = record {
  bounds = bounds_are_sustainable;
  accepted = loop_bounds_are_sustainable;
}
