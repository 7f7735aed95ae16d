use Rattle.useful_sets.proofs.UnpaidLaws.{unpaid_law, useful_prepaid_law, counted_prepaid_law}
use Rattle.useful_sets.proofs.UnpaidLaws.{prepaid_ucb_law, prepaid_block_law}
use Rattle.useful_sets.proofs.unpaid_law.Goals as goal

pub returns-clause-unpaid : goal.returns-clause-unpaid
returns-clause-unpaid c = unpaid_law

pub returns-clause-prepaid : goal.returns-clause-prepaid
returns-clause-prepaid c = useful_prepaid_law

pub returns-clause-counted : goal.returns-clause-counted
returns-clause-counted c = counted_prepaid_law

pub returns-clause-union : goal.returns-clause-union
returns-clause-union c = prepaid_ucb_law

pub returns-clause-blocks : goal.returns-clause-blocks
returns-clause-blocks c = prepaid_block_law
