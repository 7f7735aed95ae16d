use Rattle.crpd_report.proofs.Legality.{legal_decides}
use Rattle.crpd_report.proofs.simulate.simulate_text.Goals as goal

pub returns-in-Ok-clause-legal : goal.returns-in-Ok-clause-legal
returns-in-Ok-clause-legal c = legal_decides c.args.set.now c.args.script.now.jobs

pub returns-in-Err-clause-legal : goal.returns-in-Err-clause-legal
returns-in-Err-clause-legal c = legal_decides c.args.set.now c.args.script.now.jobs
