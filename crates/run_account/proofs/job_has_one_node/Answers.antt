use Rattle.run_account.proofs.JobWalks.{fetches_have_nodes, job_has_one_node}
use Rattle.run_account.proofs.job_has_one_node.Goals as goal

pub returns-clause-one : goal.returns-clause-one
returns-clause-one c = job_has_one_node

pub returns-clause-fetched : goal.returns-clause-fetched
returns-clause-fetched c = fetches_have_nodes
