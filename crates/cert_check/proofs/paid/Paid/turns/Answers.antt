use Rattle.cert_check.proofs.paid.Paid.turns.Goals as goal

pub returns-clause-is : goal.returns-clause-is
returns-clause-is c = cc
