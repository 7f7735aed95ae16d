use Rattle.std.proofs.Common.{rules}
use Rattle.dataflow.proofs.variable.KnownDomain.join.Goals as goal

pub returns-in-None-default-clause-value : goal.returns-in-None-default-clause-value
returns-in-None-default-clause-value c = search rules

pub returns-in-None-default-clause-changed : goal.returns-in-None-default-clause-changed
returns-in-None-default-clause-changed c = search rules

pub returns-in-Some-default-clause-value : goal.returns-in-Some-default-clause-value
returns-in-Some-default-clause-value c = search rules

pub returns-in-Some-default-clause-changed : goal.returns-in-Some-default-clause-changed
returns-in-Some-default-clause-changed c = search rules

pub returns-in-Some-default-2-clause-value : goal.returns-in-Some-default-2-clause-value
returns-in-Some-default-2-clause-value c = search rules

pub returns-in-Some-default-2-clause-changed : goal.returns-in-Some-default-2-clause-changed
returns-in-Some-default-2-clause-changed c = search rules
