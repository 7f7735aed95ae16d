use Rattle.delay_classic.proofs.Lists.{ucb_of_lists, ecb_of_lists}
use Rattle.delay_classic.proofs.laws.lists_law.Goals as goal

pub returns : goal.returns
returns c = record { ucb = ucb_of_lists; ecb = ecb_of_lists }
