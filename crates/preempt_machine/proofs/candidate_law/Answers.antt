use Rattle.preempt_machine.proofs.Candidates.{candidate_law, no_candidate_law, one_candidate_law}
use Rattle.preempt_machine.proofs.candidate_law.Goals as goal

pub returns-clause-candidate : goal.returns-clause-candidate
returns-clause-candidate c = candidate_law

pub returns-clause-none : goal.returns-clause-none
returns-clause-none c = no_candidate_law

pub returns-clause-one : goal.returns-clause-one
returns-clause-one c = one_candidate_law
