use Rattle.delay_count.proofs.Delays.{ucb_of_shares, ecb_of_shares}
use Rattle.delay_count.proofs.laws.shares_law.Goals as goal

pub returns : goal.returns
returns c = record { ucb = ucb_of_shares; ecb = ecb_of_shares }
